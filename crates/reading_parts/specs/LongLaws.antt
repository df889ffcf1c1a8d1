-- A long frame: its fields from its front, its entries where they stand, and what it reads as.
use Rattle.std.specs.Prelude.{◌≡◌, ℕ, ◌+◌, ◌-◌, ◌<◌, ◌≤◌, true, false, List, [], ◌∷◌, ◌++◌, length, take, drop, ◌≢◌, Ok}
use Rattle.std.proofs.Math.Path.{refl}
use Rattle.std.proofs.Common.{sym, ap, ◌∙◌, inl, inr, arith, add_assoc, length-drop, drop_of_length-le, length-take-le, ne_eqb}
use Rattle.std.proofs.lemmas.List.{take-append-le, drop-append-le}
use Rattle.terms.specs.Paper.{answer}
use Rattle.terms.specs.declared.SessionNumber.{SessionNumber}
use Rattle.terms.specs.declared.Refusal.TheVariants.{Sum, Time, Field}
use Rattle.octets.specs.Octets.{be, sum8}
use Rattle.octets.specs.Numerals.{numeral_take, numeral_drop}
use Rattle.calendar.specs.Calendar.{real_time}
use Rattle.rules.specs.Table.{kind_of}
use Rattle.rules.proofs.Outcomes.{judge_time, judge_field, judge_fine}
use Rattle.rules.specs.declared.Kind.{Kind}
use Rattle.rules.specs.declared.Kind.TheVariants.{S001, S002, S003, P001, P002, M101, M102, M201, Unknown}
use Rattle.rules.specs.declared.Layout.{Layout}
use Rattle.rules.specs.declared.Layout.TheVariants.{Order, Trade, Other}
use Rattle.rules.specs.Fields.{s001_ok, s002_ok, p001_ok, p002_ok, named_in, suits_tail, tail_ok, m201_ok, m102_values_ok, m102_fixed_ok, entry_ok, fields_ok}
use Rattle.rules.specs.Sizes.{Wide, entry_part}
use Rattle.frame_spec.specs.Frame.{msg_type, sending_time, msg_seq_num, body_length, body, plain, check_sum, read_of, Whole}
use Rattle.frame_spec.specs.Outcomes.{read_sum, read_judgement, read_frame}
use Rattle.frame_spec.specs.Places.{body_length_lem}
use Rattle.frame_view.specs.declared.View.{View}
use Rattle.frame_view.specs.View.{view_of}
use Rattle.reading.specs.declared.Seen.{Seen}
use Rattle.reading.specs.Seen.{blank, seen_of}
use Rattle.reading.proofs.SeenLaws.{seen_refused, seen_read}
use Rattle.reading_parts.specs.Parts.{Gathers, Long}
use Rattle.reading_parts.specs.PartLaws.{drop_parts, rest_of, gathered_part}

-- no layout has more than 184 bytes
suits_long : (l : Layout) (n m : ℕ) → 184 < n → 184 < m → suits_tail l n ≡ suits_tail l m
unfolding suits_tail
suits_long Order n m h k = ne_eqb n 184 (λ e. omega arith) ∙ sym (ne_eqb m 184 (λ e. omega arith))
suits_long Trade n m h k = ne_eqb n 98 (λ e. omega arith) ∙ sym (ne_eqb m 98 (λ e. omega arith))
suits_long Other n m h k = refl

module _ (front s : List ℕ) (l : Long front s) where
  -- the header, and the body's first bytes
  pub in_front : (w at : ℕ) → at + w ≤ 512 → be w at front ≡ be w at s
  in_front w at h = ap (be w at) l.begins ∙ numeral_take 256 w at 512 s h

  pub in_body : (w at : ℕ) → at + w ≤ 484 → be w (24 + at) front ≡ be w at (body s)
  in_body w at h =
      in_front w (24 + at) (omega arith)
      ∙ sym (numeral_take 256 w at (body_length s) (drop 24 s) (omega (arith, l.big)) ∙ numeral_drop 256 w 24 at s)

  behind : (w at : ℕ) → at + w ≤ 484 → be w at (drop 24 front) ≡ be w at (body s)
  behind w at h = numeral_drop 256 w 24 at front ∙ in_body w at h

  pub body_is : length (body s) ≡ body_length s
  body_is = body_length_lem s l.whole.there

  pub front_long : length front ≡ 512
  front_long = ap length l.begins ∙ length-take-le 512 s (omega (arith, l.whole.there, l.big))

  tail_front : tail_ok (drop 24 front) ≡ tail_ok (body s)
  unfolding tail_ok
  tail_front =
      rw (behind 5 11 (omega arith), behind 1 28 (omega arith))
      (suits_long (named_in (body s)) (length (drop 24 front)) (length (body s)) (rw (length-drop 24 front, front_long) (omega arith)) (omega (arith, body_is, l.big)))

  -- what the rules of a body ask, but for an M102's
  fields_front : (k : Kind) → (k ≡ M102 → ⊥) → fields_ok k (drop 24 front) ≡ fields_ok k (body s)
  unfolding fields_ok s001_ok s002_ok p001_ok p002_ok m201_ok
  fields_front S001 e = rw (behind 2 64 (omega arith))
  fields_front S002 e = rw (behind 4 0 (omega arith))
  fields_front S003 e = refl
  fields_front P001 e = rw (behind 1 0 (omega arith), behind 2 1 (omega arith), behind 8 3 (omega arith), behind 1 11 (omega arith))
  fields_front P002 e = rw (behind 2 0 (omega arith), behind 1 2 (omega arith), behind 8 3 (omega arith), behind 8 11 (omega arith), behind 1 19 (omega arith))
  fields_front M101 e = refl
  fields_front M102 e = absurd (e refl)
  fields_front M201 e =
      rw (behind 1 0 (omega arith), behind 2 1 (omega arith), behind 8 3 (omega arith), behind 4 24 (omega arith), behind 1 28 (omega arith), behind 8 29 (omega arith), behind 8 37 (omega arith), tail_front)
  fields_front Unknown e = refl

  -- the part of the front behind the header, as it is lent
  pub fields_lent : (k : Kind) → (k ≡ M102 → ⊥) → fields_ok k (take (length front - 24) (drop 24 front)) ≡ fields_ok k (body s)
  fields_lent k e = ap (fields_ok k) (rest_of 24 front) ∙ fields_front k e

  -- and of an M102's fixed part
  fixed_front : m102_fixed_ok (drop 24 front) ≡ m102_fixed_ok (body s)
  unfolding m102_values_ok
  fixed_front =
      rw (behind 1 0 (omega arith), behind 5 10 (omega arith), behind 1 1 (omega arith), behind 4 2 (omega arith), behind 4 6 (omega arith), behind 8 31 (omega arith), behind 8 39 (omega arith), behind 8 47 (omega arith), behind 8 55 (omega arith))

  pub fixed_lent : m102_fixed_ok (take (length front - 24) (drop 24 front)) ≡ m102_fixed_ok (body s)
  fixed_lent = ap m102_fixed_ok (rest_of 24 front) ∙ fixed_front

  -- what is shown of it
  view_front : (k : Kind) → view_of k (drop 24 front) ≡ view_of k (body s)
  unfolding view_of
  view_front S001 = refl
  view_front S002 = refl
  view_front S003 = refl
  view_front P001 = rw (behind 2 1 (omega arith), behind 8 3 (omega arith))
  view_front P002 = rw (behind 2 0 (omega arith), behind 8 3 (omega arith), behind 8 11 (omega arith), behind 1 19 (omega arith))
  view_front M101 = refl
  view_front M102 = refl
  view_front M201 = rw (behind 2 1 (omega arith), behind 8 3 (omega arith))
  view_front Unknown = refl

  pub view_lent : (k : Kind) → view_of k (take (length front - 24) (drop 24 front)) ≡ view_of k (body s)
  view_lent k = ap (view_of k) (rest_of 24 front) ∙ view_front k

-- AN ENTRY WHERE IT STANDS

-- of both parts from a place on
entry_of : (w at : ℕ) (s e : List ℕ) → Wide w → e ≡ take w (drop at s) → entry_ok w 0 e ≡ entry_ok w at s
entry_of w at s e x p =
    let z : at + w - at ≡ w = omega arith in
    ap (entry_ok w 0) p ∙ ap (λ (k : ℕ). entry_ok w 0 (take k (drop at s))) (sym z) ∙ entry_part w at (at + w) s x refl

-- it lies in the second part
pub entry_second : (w at f t : ℕ) (a b : List ℕ) → Wide w → length a ≤ at → f ≡ at - length a → t ≡ f + w → entry_ok w 0 (take (t - f) (drop f b)) ≡ entry_ok w at (a ++ b)
entry_second w at f t a b x h p q =
    let z : t - f ≡ w = omega arith in
    entry_of w at (a ++ b) _ x (rw (z, p, drop_parts at a b, drop_of_length-le a {i = at} h))

-- in the first
pub entry_first : (w at t : ℕ) (a b : List ℕ) → Wide w → at + w ≤ length a → t ≡ at + w → entry_ok w 0 (take (t - at) (drop at a)) ≡ entry_ok w at (a ++ b)
entry_first w at t a b x h p =
    let z : t - at ≡ w = omega arith in
    let l : w ≤ length (drop at a) = simp length-drop (omega arith) in
    entry_of w at (a ++ b) _ x (rw (z, drop-append-le at a b (omega arith), take-append-le w (drop at a) b l))

-- an entry's own bytes are enough
entry_own : (w : ℕ) (e : List ℕ) → Wide w → entry_ok w 0 (take w e) ≡ entry_ok w 0 e
unfolding entry_ok
entry_own w e (inl x) = rw (x, numeral_take 256 8 (0 + 2) 10 e (omega arith))
entry_own w e (inr x) = rw (x, numeral_take 256 8 (0 + 2) 19 e (omega arith), numeral_take 256 8 (0 + 10) 19 e (omega arith), numeral_take 256 1 (0 + 18) 19 e (omega arith))

wide_small : (w : ℕ) → Wide w → w ≤ 19
wide_small w (inl x) = omega arith
wide_small w (inr x) = omega arith

-- across both
pub entry_across : (w at r : ℕ) (s e : List ℕ) → Wide w → Gathers 19 (drop at s) e r → at + w ≤ length s → entry_ok w 0 e ≡ entry_ok w at s
entry_across w at r s e x g h = sym (entry_own w e x) ∙ entry_of w at s (take w e) x (gathered_part 19 w r at s e g (wide_small w x) h)

-- in a body, by its place there
field_inside : (k j at n : ℕ) (s : List ℕ) → at + j + k ≤ n → be k (24 + at + j) s ≡ be k (at + j) (take n (drop 24 s))
field_inside k j at n s h = ap (λ (p : ℕ). be k p s) (add_assoc 24 at j) ∙ sym (numeral_take 256 k (at + j) n (drop 24 s) h ∙ numeral_drop 256 k 24 (at + j) s)

pub entry_inside : (w at n : ℕ) (s : List ℕ) → Wide w → at + w ≤ n → entry_ok w (24 + at) s ≡ entry_ok w at (take n (drop 24 s))
unfolding entry_ok
entry_inside w at n s (inl x) h = rw (x, field_inside 8 2 at n s (omega arith))
entry_inside w at n s (inr x) h = rw (x, field_inside 8 2 at n s (omega arith), field_inside 8 10 at n s (omega arith), field_inside 1 18 at n s (omega arith))

-- WHAT A LONG FRAME READS AS, check by check

module _ (s : List ℕ) (w : Whole s) where
  pub seen_sum : (n stored v : ℕ) → n ≡ body_length s → stored ≡ be 4 (24 + n) s → v ≡ sum8 (take (24 + n) s) → (stored ≢ v) → blank Sum ≡ seen_of s
  seen_sum n stored v e p q ne =
      let p' : stored ≡ check_sum s = p ∙ ap (λ (k : ℕ). be 4 (24 + k) s) e in
      let q' : v ≡ sum8 (plain s) = q ∙ ap (λ (k : ℕ). sum8 (take (24 + k) s)) e in
      seen_refused s Sum (sym (read_sum s w (λ x. ne (p' ∙ x ∙ sym q'))))

  pub summed : (n stored v : ℕ) → n ≡ body_length s → stored ≡ be 4 (24 + n) s → v ≡ sum8 (take (24 + n) s) → stored ≡ v → check_sum s ≡ sum8 (plain s)
  summed n stored v e p q h =
      sym (p ∙ ap (λ (k : ℕ). be 4 (24 + k) s) e) ∙ h ∙ q ∙ ap (λ (k : ℕ). sum8 (take (24 + k) s)) e

  module _ (sum : check_sum s ≡ sum8 (plain s)) where
    pub seen_time : real_time (sending_time s) ≡ false → blank Time ≡ seen_of s
    seen_time r = seen_refused s Time (sym (read_judgement s w sum 7 (judge_time _ _ _ r) (λ e. omega arith)))

    pub seen_field : real_time (sending_time s) ≡ true → fields_ok (kind_of (msg_type s)) (body s) ≡ false → blank Field ≡ seen_of s
    seen_field r f = seen_refused s Field (sym (read_judgement s w sum 6 (judge_field _ _ _ r f) (λ e. omega arith)))

    pub seen_fine : (t n : ℕ) (q : SessionNumber) (k : Kind) (v : View) → t ≡ msg_type s → q.0 ≡ msg_seq_num s → n ≡ body_length s → k ≡ kind_of (msg_type s) → v ≡ view_of k (body s)
        → real_time (sending_time s) ≡ true → fields_ok (kind_of (msg_type s)) (body s) ≡ true
        → ◌≡◌ {A = Seen} (record { answer = Ok tt; msg_type = t; seq = q; channel = v.channel; tick = v.tick; status = v.status; body_len = n; size = 28 + n }) (seen_of s)
    seen_fine t n q k v is_type is_seq is_length is-kind is_view r f =
        let paper : answer 0 (t ∷ sending_time s ∷ q.0 ∷ n ∷ []) ≡ read_of s = rw (is_type, is_seq, is_length) (sym (read_frame s w sum (judge_fine _ _ _ r f))) in
        seen_read s t (sending_time s) n q k v paper (is-kind ∙ ap kind_of (sym is_type)) is_view
