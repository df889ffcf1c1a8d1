-- What is written is read, and what is read is written.
use Rattle.std.specs.Prelude.{ℕ, suc, ◌+◌, ◌-◌, ◌<◌, ◌≤◌, ◌≡◌, true, false, length, get_or, take}
use Rattle.std.proofs.Math.Path.{refl, ap}
use Rattle.std.proofs.Common.{sym, ◌∙◌, ⊎_elim, add-zero, arith, lit≤, take_at, drop_at, drop-drop, get_or-drop}
use mathlib.Core.List.{List, [], ◌∷◌, ◌++◌, append_assoc}
use Rattle.std.proofs.Math.ListN.{drop, length-append, get_or-append}
use Rattle.std.proofs.lemmas.List.{get_or_at}
use Rattle.std.proofs.Math.Seq.{take-append-add}
use Rattle.terms.specs.Paper.{answer}
use Rattle.terms.specs.Cases.{two}
use Rattle.terms.specs.Checks.{else_on}
use Rattle.octets.specs.Octets.{sum8}
use Rattle.digits.specs.Digits.{is_digit, all_digits, said_by, decimal_at, shown_of, width_of, number, plain}
use Rattle.digits.specs.Laws.{both, length_decimal, all_decimal, said_decimal}
use Rattle.digits.specs.Texts.{Says, given_decimal, shown_plain}
use Rattle.digits.specs.Widths.{Width, width_of_lem, width_most}
use Rattle.step_tags.specs.Table.{among, types}
use Rattle.step_spec.specs.Pieces.{SOH, pieces, closed}
use Rattle.step_spec.specs.Fields.{judge_of, sound_of, sound_from, unreal_in}
use Rattle.step_spec.specs.Frame.{begin, length_tag, type_tag, trailer_of, front, digit_run, window, length_check, body_start, body_length, body_end, frame_length, kind_check, type_check, head_of, sum_check, kind, fields, step_read_of}
use Rattle.step_spec.specs.FrontLaws.{front_of_lem}
use Rattle.step_spec.specs.HeadLaws.{long_on, type_is, read_frame}
use Rattle.step_spec.specs.Written.{plain_of, frame_of}
use Rattle.step_spec.proofs.FieldLaws.{judged_7, judged_26}
use Rattle.step_spec.proofs.HeadLaws.{length_good, sum_is}
use Rattle.step_spec.specs.RoundTrip.{text_of, last_soh, text_is}

-- fields that pass end in SOH
pub judged_sound : (type : ℕ) (s : List ℕ) → judge_of type s ≡ 0 → sound_of type s ≡ true
judged_sound type s j =
    ⊎_elim (λ (t : sound_of type s ≡ true). t)
    (λ (f : sound_of type s ≡ false). absurd (⊎_elim (λ (u : unreal_in (pieces s) ≡ true). omega (arith, j, judged_7 type s u)) (λ (u : unreal_in (pieces s) ≡ false). omega (arith, j, judged_26 type s u f)) (two (unreal_in (pieces s)))))
    (two (sound_of type s))

pub judged_closed : (type : ℕ) (s : List ℕ) → judge_of type s ≡ 0 → closed s ≡ true
unfolding sound_of sound_from
judged_closed type s j = (both (closed s) _ (judged_sound type s j)).0

-- THE LENGTH FIELD

run_of : (ds r : List ℕ) → all_digits ds ≡ true → digit_run (ds ++ (SOH ∷ r)) ≡ length ds
unfolding digit_run all_digits
run_of [] r h = refl
run_of (x ∷ xs) r h = rw (both (is_digit x) (all_digits xs) h).0 (ap suc (run_of xs r (both (is_digit x) (all_digits xs) h).1))

-- digits, then SOH, seen through a window of ten bytes
module _ (ds r : List ℕ) (d : all_digits ds ≡ true) (one : 1 ≤ length ds) (few : length ds ≤ 9) (p : plain (length ds) (get_or ds 0 0) ≡ true) where
  abbrev w : List ℕ
  w = take 10 (ds ++ (SOH ∷ r))

  w_is : w ≡ ds ++ (SOH ∷ take (9 - length ds) r)
  w_is =
      let e : 10 ≡ length ds + (1 + (9 - length ds)) = omega arith in
      ap (λ (n : ℕ). take n (ds ++ (SOH ∷ r))) e ∙ take-append-add ds (SOH ∷ r) (1 + (9 - length ds)) ∙ ap (λ (t : List ℕ). ds ++ t) (one_more (9 - length ds))
    where
      one_more : (n : ℕ) → take (1 + n) (SOH ∷ r) ≡ SOH ∷ take n r
      one_more n = let e : 1 + n ≡ suc n = omega arith in rw e

  pub window_run : digit_run w ≡ length ds
  window_run = rw w_is (run_of ds (take (9 - length ds) r) d)

  w_long : length ds < length w
  w_long = rw w_is (simp length-append (omega arith))

  w_says : Says 0 (length ds) w (said_by ds)
  w_says =
      let e : take (length ds) w ≡ ds = rw w_is (take_at ds (SOH ∷ take (9 - length ds) r) (length ds) refl) in
      record { place = record { some = one; few = omega arith; within = omega (arith, w_long) }; digits = rw e d; says = rw e }

  first_is : get_or w 0 0 ≡ get_or ds 0 0
  first_is = rw w_is (first ds one)
    where
      first : (xs : List ℕ) → 1 ≤ length xs → get_or (xs ++ (SOH ∷ take (9 - length ds) r)) 0 0 ≡ get_or xs 0 0
      first [] h = absurd (omega arith)
      first (x ∷ xs) h = refl

  pub window_says : decimal_at 0 (length ds) w ≡ number (said_by ds)
  window_says = given_decimal 0 (length ds) w (said_by ds) w_says (rw first_is p)

  pub window_good : length_check w ≡ 0
  window_good = length_good w (length ds) window_run few (rw first_is p) w_long (rw w_is (get_or_at ds SOH (take (9 - length ds) r) 0 (length ds) refl)) (said_by ds) window_says

module _ (type : ℕ) (fs r : List ℕ) (small : length fs ≤ 8192) where
  abbrev m : ℕ
  m = length fs + 5

  abbrev ds : List ℕ
  ds = shown_of m

  abbrev T : List ℕ
  T = text_of type fs r

  width : Width m (width_of m)
  width = width_of_lem m (omega arith)

  pub digits_few : width_of m ≤ 9
  digits_few = width_most 9 width (lit≤ tt) (omega arith)

  ds_long : length ds ≡ width_of m
  ds_long = length_decimal (width_of m) m

  -- behind the length field
  abbrev X : List ℕ
  X = type_tag ++ (type ∷ SOH ∷ (fs ++ r))

  behind_13 : drop 13 T ≡ ds ++ (SOH ∷ X)
  unfolding text_of
  behind_13 = refl

  run_is : digit_run (window T) ≡ width_of m
  run_is = rw behind_13 (window_run ds X (all_decimal (width_of m) m) (omega (arith, ds_long, width.some)) (omega (arith, ds_long, digits_few)) (rw ds_long (shown_plain m (omega arith))) ∙ ds_long)

  pub starts_is : body_start T ≡ 14 + width_of m
  unfolding body_start
  starts_is = rw run_is

  pub length_is : body_length T ≡ m
  unfolding body_length
  length_is =
      let e : decimal_at 0 (width_of m) (window T) ≡ number m
      = rw behind_13 (rw ds_long at (window_says ds X (all_decimal (width_of m) m) (omega (arith, ds_long, width.some)) (omega (arith, ds_long, digits_few)) (rw ds_long (shown_plain m (omega arith)))) ∙ ap number (said_decimal (width_of m) m width.below)) in
      rw (run_is, e)

  length_passes : length_check (window T) ≡ 0
  length_passes = rw behind_13 (window_good ds X (all_decimal (width_of m) m) (omega (arith, ds_long, width.some)) (omega (arith, ds_long, digits_few)) (rw ds_long (shown_plain m (omega arith))))

  -- behind the body's start
  behind_start : (j : ℕ) → drop (14 + width_of m + j) T ≡ drop j X
  behind_start j =
      let e : 14 + width_of m + j ≡ 13 + (length (ds ++ (SOH ∷ [])) + j) = omega (arith, ds_long, length-append ds (SOH ∷ [])) in
      let a : ds ++ (SOH ∷ X) ≡ (ds ++ (SOH ∷ [])) ++ X = simp append_assoc in
      rw e (sym (drop-drop (length (ds ++ (SOH ∷ [])) + j) 13 T) ∙ rw (behind_13, a) (sym (drop-drop j (length (ds ++ (SOH ∷ []))) ((ds ++ (SOH ∷ [])) ++ X)) ∙ ap (drop j) (drop_at (ds ++ (SOH ∷ [])) X (length (ds ++ (SOH ∷ []))) refl)))

  pub kind_is : kind T ≡ type
  kind_is = rw starts_is (sym (get_or-drop (14 + width_of m + 3) T 0 0 ∙ rw (add-zero (14 + width_of m + 3))) ∙ ap (λ (l : List ℕ). get_or l 0 0) (behind_start 3))

  pub fields_is : fields T ≡ fs
  fields_is = rw (starts_is, length_is, behind_start 5) (take_at fs r (m - 5) (omega arith))

  type_passes : among type types ≡ true → type_check T ≡ 0
  unfolding kind_check
  type_passes t =
      let z : drop (14 + width_of m) T ≡ X = rw (add-zero (14 + width_of m)) at (behind_start 0) in
      let k : kind_check (type ∷ SOH ∷ (fs ++ r)) ≡ 0 = rw t (front_of_lem 25 (SOH ∷ []) (fs ++ r)) in
      type_is T (rw length_is (omega arith)) ∙ rw (starts_is, z, behind_start 3) (else_on _ _ (front_of_lem 25 type_tag (type ∷ SOH ∷ (fs ++ r))) ∙ k)

  head_passes : 14 + width_of m + m + 7 ≤ 8192 → among type types ≡ true → head_of T ≡ 0
  unfolding head_of text_of
  head_passes s t =
      else_on _ _ (front_of_lem 23 begin (drop 11 T))
      ∙ else_on _ _ (front_of_lem 24 length_tag (drop 13 T))
      ∙ else_on _ _ length_passes
      ∙ else_on _ _ (long_on T (rw (starts_is, length_is) s))
      ∙ type_passes t

  pub plain_long : length (plain_of type fs) ≡ 14 + width_of m + m
  unfolding plain_of
  plain_long = simp length-append (omega (arith, ds_long))

  last_byte : closed fs ≡ true → get_or T (14 + width_of m + m - 1) 0 ≡ SOH
  last_byte c =
      let e : 14 + width_of m + m - 1 ≡ 14 + width_of m + 4 + length fs = omega arith in
      rw e (sym (get_or-drop (14 + width_of m + 4) T (length fs) 0) ∙ rw (behind_start 4) (get_or-append (SOH ∷ fs) r 0 (length fs) (omega arith) ∙ last_soh fs c))

module _ (type : ℕ) (fs rest : List ℕ) (small : length (frame_of type fs) ≤ 8192) where
  abbrev v : ℕ
  v = sum8 (plain_of type fs)

  pub few : length fs ≤ 8192
  unfolding frame_of plain_of
  few = omega (arith, simp length-append at small)

  abbrev F : List ℕ
  F = text_of type fs (trailer_of v ++ rest)

  pub frame_is : frame_of type fs ++ rest ≡ F
  unfolding frame_of
  frame_is = append_assoc (plain_of type fs) (trailer_of v) rest ∙ text_is type fs (trailer_of v ++ rest)

  pub frame_long : length (frame_of type fs) ≡ 14 + width_of (length fs + 5) + (length fs + 5) + 7
  unfolding frame_of trailer_of
  frame_long = simp (length-append, length_decimal) (omega (arith, plain_long type fs [] few))

  sum_passes : closed fs ≡ true → sum_check (body_end F) F ≡ 0
  sum_passes c =
      let t = trailer_of v ++ rest in
      let e : body_end F ≡ 14 + width_of (length fs + 5) + (length fs + 5) = rw (starts_is type fs t few, length_is type fs t few) in
      let l : length (plain_of type fs) ≡ body_end F = plain_long type fs t few ∙ sym e in
      let f : F ≡ plain_of type fs ++ t = sym (text_is type fs t) in
      let a : take (body_end F) F ≡ plain_of type fs = ap (take (body_end F)) f ∙ take_at (plain_of type fs) t (body_end F) l in
      let b : drop (body_end F) F ≡ t = ap (drop (body_end F)) f ∙ drop_at (plain_of type fs) t (body_end F) l in
      sum_is (body_end F) F (omega (arith, ap length f, length-append (plain_of type fs) t)) (ap (λ (n : ℕ). get_or F (n - 1) 0) e ∙ last_byte type fs t few c)
      ∙ ap (λ (p : List ℕ). front 5 (trailer_of (sum8 p)) (drop (body_end F) F)) a
      ∙ ap (front 5 (trailer_of v)) b
      ∙ front_of_lem 5 (trailer_of v) rest

  -- what is written reads, with its type and its fields, whatever follows it
  pub read_of_written : among type types ≡ true → judge_of type fs ≡ 0 → step_read_of (frame_of type fs ++ rest) ≡ answer 0 (type ∷ (length (frame_of type fs) - 7 - length fs) ∷ length fs ∷ length (frame_of type fs) ∷ [])
  read_of_written t j =
      let r = trailer_of v ++ rest in
      let k = kind_is type fs r few in
      let g = fields_is type fs r few in
      let p : 14 + width_of (length fs + 5) + 5 ≡ length (frame_of type fs) - 7 - length fs = omega (arith, frame_long) in
      let n : length fs + 5 - 5 ≡ length fs = omega arith in
      rw frame_is (read_frame F (head_passes type fs r few (omega (arith, frame_long)) t) (sum_passes (judged_closed type fs j)) (rw (k, g) j)
      ∙ rw (k, starts_is type fs r few, length_is type fs r few, p, n, ← frame_long))

  -- a frame's own words, whatever follows it
  pub kind_of_frame : kind (frame_of type fs ++ rest) ≡ type
  kind_of_frame = rw frame_is (kind_is type fs (trailer_of v ++ rest) few)

  pub fields_of_frame : fields (frame_of type fs ++ rest) ≡ fs
  fields_of_frame = rw frame_is (fields_is type fs (trailer_of v ++ rest) few)

  pub length_of_frame : frame_length (frame_of type fs ++ rest) ≡ length (frame_of type fs)
  length_of_frame = rw frame_is (rw (starts_is type fs (trailer_of v ++ rest) few, length_is type fs (trailer_of v ++ rest) few) (sym frame_long))
