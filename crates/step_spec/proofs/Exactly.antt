-- What reads is what writing lays: each passed check taken apart, and put together again
-- as the frame.
use Rattle.std.specs.Prelude.{ℕ, suc, ◌+◌, ◌-◌, ◌<◌, ◌≤◌, ◌≡◌, true, false, get_or, take}
use Rattle.std.proofs.Math.Path.{refl, sym, ap}
use Rattle.std.proofs.Common.{◌∙◌, ⊎_elim, add-zero, arith, take-append-drop, length-append, length-drop, length-take, take-take, take_at, drop-cons, drop-drop, get_or-take, get_or-drop, length-take-le}
use mathlib.Core.List.{List, [], ◌∷◌, ◌++◌, append_assoc}
use Rattle.std.proofs.Math.ListN.{length, drop}
use Rattle.terms.specs.Cases.{two, less, same}
use Rattle.terms.specs.Checks.{else_both}
use Rattle.octets.specs.Octets.{sum8}
use Rattle.digits.specs.Digits.{decimal_at, shown_of, width_of, number, nothing, plain}
use Rattle.digits.specs.Texts.{decimal_written, decimal_width}
use Rattle.step_tags.specs.Table.{among, types}
use Rattle.step_spec.specs.Pieces.{SOH, pieces}
use Rattle.step_spec.specs.Fields.{judge_of, unreal_in}
use Rattle.step_spec.specs.Frame.{begin, length_tag, type_tag, trailer_of, front, digit_run, window, length_check, body_start, body_length, body_end, frame_length, kind_check, kind, fields, step_read_of}
use Rattle.step_spec.specs.FrontLaws.{front_is}
use Rattle.step_spec.specs.HeadLaws.{type_is}
use Rattle.step_spec.specs.Written.{plain_of, frame_of}
use Rattle.step_spec.specs.RoundTrip.{text_of, text_is}
use Rattle.step_spec.proofs.FieldLaws.{judged_fine, judged_7}
use Rattle.step_spec.proofs.HeadLaws.{length_zero, length_open, length_more, length_none, length_many, sum_room, sum_is, sum_open}
use Rattle.step_spec.proofs.RoundTrip.{plain_long, read_of_written, judged_sound}
use Rattle.step_spec.specs.Exactly.{LengthField, decimal_cases, Good, kind_inv, trailer_long, paper_of, Reads, good}

pub length_field : (w : List ℕ) → length_check w ≡ 0 → LengthField w
length_field w h =
    ⊎_elim (λ (l : 9 < digit_run w). absurd (omega (arith, h, length_many w _ refl l))) (λ (few : digit_run w ≤ 9).
    ⊎_elim (λ (p : plain (digit_run w) (get_or w 0 0) ≡ true).
    ⊎_elim (λ (l : digit_run w < length w).
    ⊎_elim (λ (e : get_or w (digit_run w) 0 ≡ SOH).
    ⊎_elim (λ (d : (v : ℕ) × (decimal_at 0 (digit_run w) w ≡ number v)). record { few = few; there = l; ends = e; n = d.0; says = d.1 })
    (λ (d : decimal_at 0 (digit_run w) w ≡ nothing). absurd (omega (arith, h, length_none w _ refl few p l e d)))
    (decimal_cases 0 (digit_run w) w))
    (λ (e : get_or w (digit_run w) 0 ≡ SOH → ⊥). absurd (omega (arith, h, length_open w _ refl few p l e)))
    (same (get_or w (digit_run w) 0) SOH))
    (λ (l : length w ≤ digit_run w). absurd (omega (arith, h, length_more w _ refl few p l)))
    (less (digit_run w) (length w)))
    (λ (p : plain (digit_run w) (get_or w 0 0) ≡ false). absurd (omega (arith, h, length_zero w _ refl p)))
    (two (plain (digit_run w) (get_or w 0 0))))
    (less 9 (digit_run w))

-- THE FRAME, PUT TOGETHER

module _ (s : List ℕ) (g : Good s) where
  abbrev k : ℕ
  k = digit_run (window s)

  L : LengthField (window s)
  L = length_field (window s) g.measured

  said : decimal_at 0 k (window s) ≡ number (body_length s)
  unfolding body_length
  said = let e : body_length s ≡ L.n = rw L.says in rw e L.says

  start : body_start s ≡ 14 + k
  unfolding body_start
  start = refl

  pub width_read : width_of (body_length s) ≡ k
  width_read = decimal_width 0 k (window s) (body_length s) said

  shown : shown_of (body_length s) ≡ take k (drop 13 s)
  shown = decimal_written 0 k (window s) (body_length s) said ∙ take-take k 10 (drop 13 s) (omega (arith, L.few))

  soh : get_or s (13 + k) 0 ≡ SOH
  soh = sym (get_or-take 10 (drop 13 s) k 0 (omega (arith, L.few)) ∙ get_or-drop 13 s k 0) ∙ L.ends

  inside : 13 + k < length s
  inside = omega (arith, L.there, length-take 10 (drop 13 s), length-drop 13 s)

  part_length : drop 11 s ≡ length_tag ++ drop 13 s
  part_length = front_is 24 length_tag (drop 11 s) (λ (z : 24 ≡ 0). omega arith) g.tagged ∙ ap (λ (t : List ℕ). length_tag ++ t) (drop-drop 2 11 s)

  part_digits : drop 13 s ≡ shown_of (body_length s) ++ (SOH ∷ drop (body_start s) s)
  part_digits =
      let e : suc (13 + k) ≡ body_start s = omega (arith, start) in
      sym (take-append-drop k (drop 13 s)) ∙ rw (← shown, drop-drop k 13 s, drop-cons s (13 + k) 0 inside, soh, e)

  checks : (front 25 type_tag (drop (body_start s) s) ≡ 0) × (kind_check (drop (body_start s + 3) s) ≡ 0)
  checks = else_both _ _ (sym (type_is s g.five) ∙ g.typed)

  kind_front : get_or (drop (body_start s + 3) s) 0 0 ≡ kind s
  kind_front = get_or-drop (body_start s + 3) s 0 0 ∙ rw (add-zero (body_start s + 3))

  pub kind_known : among (kind s) types ≡ true
  kind_known = rw kind_front at (kind_inv (drop (body_start s + 3) s) checks.1).1

  part_type : drop (body_start s) s ≡ type_tag ++ (kind s ∷ SOH ∷ drop (body_start s + 5) s)
  part_type =
      let e : body_start s + 3 + 2 ≡ body_start s + 5 = omega arith in
      let a : drop (body_start s + 3) s ≡ kind s ∷ SOH ∷ drop (body_start s + 5) s = (kind_inv (drop (body_start s + 3) s) checks.1).0 ∙ rw (kind_front, drop-drop 2 (body_start s + 3) s, e) in
      front_is 25 type_tag (drop (body_start s) s) (λ (z : 25 ≡ 0). omega arith) checks.0 ∙ ap (λ (t : List ℕ). type_tag ++ t) (drop-drop 3 (body_start s) s ∙ a)

  part_fields : drop (body_start s + 5) s ≡ fields s ++ drop (body_end s) s
  part_fields =
      let e : body_start s + 5 + (body_length s - 5) ≡ body_end s = omega (arith, g.five) in
      sym (take-append-drop (body_length s - 5) (drop (body_start s + 5) s)) ∙ rw (drop-drop (body_length s - 5) (body_start s + 5) s, e)

  pub fields_long : length (fields s) ≡ body_length s - 5
  fields_long = length-take-le _ _ (simp length-drop (omega (arith, sum_room (body_end s) s g.summed, g.five)))

  is_text : s ≡ text_of (kind s) (fields s) (drop (body_end s) s)
  unfolding text_of
  is_text =
      let n : length (fields s) + 5 ≡ body_length s = omega (arith, fields_long, g.five) in
      front_is 23 begin s (λ (z : 23 ≡ 0). omega arith) g.begins
      ∙ ap (λ (t : List ℕ). begin ++ t) (part_length ∙ ap (λ (t : List ℕ). length_tag ++ t) (part_digits ∙ rw (n, ← part_fields) (ap (λ (t : List ℕ). shown_of (body_length s) ++ (SOH ∷ t)) part_type)))

  is_plain : s ≡ plain_of (kind s) (fields s) ++ drop (body_end s) s
  is_plain = is_text ∙ sym (text_is (kind s) (fields s) (drop (body_end s) s))

  pub plain_ends : length (plain_of (kind s) (fields s)) ≡ body_end s
  plain_ends =
      let n : length (fields s) + 5 ≡ body_length s = omega (arith, fields_long, g.five) in
      plain_long (kind s) (fields s) [] (omega (arith, fields_long, g.small)) ∙ rw (n, width_read, start)

  sum_front : front 5 (trailer_of (sum8 (plain_of (kind s) (fields s)))) (drop (body_end s) s) ≡ 0
  sum_front =
      let a : take (body_end s) s ≡ plain_of (kind s) (fields s) = ap (take (body_end s)) is_plain ∙ take_at (plain_of (kind s) (fields s)) (drop (body_end s) s) (body_end s) plain_ends in
      ⊎_elim (λ (c : get_or s (body_end s - 1) 0 ≡ SOH). rw a at (sym (sum_is (body_end s) s (sum_room (body_end s) s g.summed) c)) ∙ g.summed)
      (λ (c : get_or s (body_end s - 1) 0 ≡ SOH → ⊥). absurd (omega (arith, g.summed, sum_open (body_end s) s (sum_room (body_end s) s g.summed) c)))
      (same (get_or s (body_end s - 1) 0) SOH)

  -- what reads is the frame of its type and its fields, and what follows it
  pub is_frame : s ≡ frame_of (kind s) (fields s) ++ drop (frame_length s) s
  unfolding frame_of
  is_frame =
      let v = sum8 (plain_of (kind s) (fields s)) in
      let r : drop (body_end s) s ≡ trailer_of v ++ drop (frame_length s) s
      = front_is 5 (trailer_of v) (drop (body_end s) s) (λ (z : 5 ≡ 0). omega arith) sum_front ∙ ap (λ (t : List ℕ). trailer_of v ++ t) (rw (trailer_long v) (drop-drop 7 (body_end s) s)) in
      is_plain ∙ ap (λ (t : List ℕ). plain_of (kind s) (fields s) ++ t) r ∙ sym (append_assoc (plain_of (kind s) (fields s)) (trailer_of v) (drop (frame_length s) s))

  pub frame_ends : length (frame_of (kind s) (fields s)) ≡ frame_length s
  unfolding frame_of
  frame_ends = simp (length-append, trailer_long) (omega (arith, plain_ends))

pub reads_exactly : (s : List ℕ) (type : ℕ) (fs : List ℕ) → Reads s type fs → step_read_of s ≡ paper_of type fs
reads_exactly s type fs r = rw r.begins (read_of_written type fs r.rest r.small r.known (judged_fine type fs r.real r.sound))

judged_real : (type : ℕ) (fs : List ℕ) → judge_of type fs ≡ 0 → unreal_in (pieces fs) ≡ false
judged_real type fs j = ⊎_elim (λ (u : unreal_in (pieces fs) ≡ true). absurd (omega (arith, j, judged_7 type fs u))) (λ (u : unreal_in (pieces fs) ≡ false). u) (two (unreal_in (pieces fs)))

pub exactly_reads : (s : List ℕ) → (step_read_of s).number ≡ 0 → Reads s (kind s) (fields s)
exactly_reads s h =
    let g = good s h in
    record {
      rest = drop (frame_length s) s;
      begins = is_frame s g;
      small = omega (arith, frame_ends s g, g.small);
      known = kind_known s g;
      real = judged_real (kind s) (fields s) g.judged;
      sound = judged_sound (kind s) (fields s) g.judged;
    }

-- what is read is written again as it stood
pub written_of_read : (s : List ℕ) → (step_read_of s).number ≡ 0 → frame_of (kind s) (fields s) ≡ take (frame_length s) s
written_of_read s h = let g = good s h in sym (ap (take (frame_length s)) (is_frame s g) ∙ take_at (frame_of (kind s) (fields s)) (drop (frame_length s) s) (frame_length s) (frame_ends s g))

-- LAWS FOR LATER WALKS

-- a frame depends on its own bytes alone
pub own_bytes : (s t : List ℕ) → (step_read_of s).number ≡ 0 → step_read_of (take (frame_length s) s ++ t) ≡ step_read_of s
own_bytes s t h =
    let r = exactly_reads s h in
    let q : Reads (take (frame_length s) s ++ t) (kind s) (fields s) = record { rest = t; begins = ap (λ (l : List ℕ). l ++ t) (sym (written_of_read s h)); small = r.small; known = r.known; real = r.real; sound = r.sound } in
    reads_exactly (take (frame_length s) s ++ t) (kind s) (fields s) q ∙ sym (reads_exactly s (kind s) (fields s) r)
