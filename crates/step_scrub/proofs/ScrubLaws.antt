-- Painting the fields and renewing the sum gives the frame of the painted fields.
use Rattle.std.specs.Prelude.{ℕ, ◌+◌, ◌-◌, ◌^◌, ◌<◌, ◌≤◌, ◌≡◌, true, get_or}
use Rattle.std.proofs.Math.Path.{sym, ap}
use Rattle.std.proofs.Common.{◌∙◌, arith}
use mathlib.Core.List.{List, [], ◌∷◌, ◌++◌, append_assoc}
use Rattle.std.proofs.Math.Dec.{lit≤}
use Rattle.std.proofs.Math.ListN.{length, take, drop, length-append}
use Rattle.std.proofs.Math.Seq.{take_at, drop_at}
use Rattle.terms.specs.Paper.{Paper, answer, one_number}
use Rattle.octets.specs.Octets.{sum8, laid}
use Rattle.octets.specs.Sums.{sum8_below}
use Rattle.digits.specs.Digits.{decimal_of, digits_at, number}
use Rattle.digits.specs.Laws.{length_decimal, all_decimal, said_decimal}
use Rattle.digits.specs.Texts.{Says, given_number}
use Rattle.step_spec.specs.Pieces.{SOH, pieces, closed}
use Rattle.step_spec.specs.Frame.{trailer_of, body_start, body_length, body_end, frame_length, kind, fields, step_read_of}
use Rattle.step_spec.specs.FrontLaws.{reads_on}
use Rattle.step_spec.specs.Written.{plain_of, frame_of}
use Rattle.step_spec.proofs.RoundTrip.{judged_closed, judged_sound}
use Rattle.step_spec.specs.Exactly.{Good, good, passed}
use Rattle.step_spec.proofs.Exactly.{is_frame, frame_ends, fields_long, plain_ends}
use Rattle.step_scrub.specs.Scrubbed.{painted, all_fields, scrubbed_of}
use Rattle.octets.specs.Overlays.{laid_mid}
use Rattle.step_scrub.specs.Moved.{sum_moved, moved_behind}
use Rattle.step_scrub.proofs.Turns.{painted_length}
use Rattle.step_scrub.specs.ScrubLaws.{before, sound_fields}

-- WHAT READING SAYS

pub record Told (s : List ℕ) (k p n t : ℕ) : Type 0 where
  pub goods : Good s
  pub place : p ≡ body_start s + 5
  pub long : n ≡ body_length s - 5
  pub total : t ≡ frame_length s

pub told : (s : List ℕ) (k p n t : ℕ) → answer 0 (k ∷ p ∷ n ∷ t ∷ []) ≡ step_read_of s → Told s k p n t
told s k p n t e =
    let z = sym (one_number e) in
    let w = e ∙ reads_on s (passed s z) in
    record {
      goods = good s z;
      place = ap (λ (q : Paper). get_or q.values 1 0) w;
      long = ap (λ (q : Paper). get_or q.values 2 0) w;
      total = ap (λ (q : Paper). get_or q.values 3 0) w;
    }

plain_cut : (type : ℕ) (fs : List ℕ) → plain_of type fs ≡ before type (length fs) ++ fs
unfolding plain_of before
plain_cut type fs = simp append_assoc

-- the trailer around its digits
abbrev ten : List ℕ
ten = 49 ∷ 48 ∷ 61 ∷ []

trailer_cut : (v : ℕ) (r : List ℕ) → trailer_of v ++ r ≡ ten ++ (decimal_of 3 v ++ (SOH ∷ r))
unfolding trailer_of
trailer_cut v r = ap (λ (l : List ℕ). ten ++ l) (append_assoc (decimal_of 3 v) (SOH ∷ []) r)

module _ (s : List ℕ) (g : Good s) where
  abbrev k : ℕ
  k = kind s

  abbrev f : List ℕ
  f = fields s

  abbrev r : List ℕ
  r = drop (frame_length s) s

  abbrev tail : List ℕ
  tail = trailer_of (sum8 (plain_of k f)) ++ r

  pub closed_fields : closed f ≡ true
  closed_fields = judged_closed k f g.judged

  pub all_fields_lem : all_fields (pieces f) ≡ true
  all_fields_lem = sound_fields k f (judged_sound k f g.judged)

  pub same_long : length (painted f) ≡ length f
  same_long = painted_length f closed_fields all_fields_lem

  pub whole : frame_length s ≤ length s
  whole = omega (arith, ap length (is_frame s g), length-append (frame_of k f) r, frame_ends s g)

  cut : s ≡ before k (length f) ++ (f ++ tail)
  unfolding frame_of
  cut = is_frame s g ∙ append_assoc (plain_of k f) (trailer_of (sum8 (plain_of k f))) r ∙ ap (λ (l : List ℕ). l ++ tail) (plain_cut k f) ∙ append_assoc (before k (length f)) f tail

  before_long : length (before k (length f)) ≡ body_start s + 5
  before_long = omega (arith, plain_ends s g, ap length (plain_cut k f), length-append (before k (length f)) f, fields_long s g, g.five)

  -- with the fields painted
  pub painted_in : laid (body_start s + 5) (painted f) s ≡ plain_of k (painted f) ++ tail
  painted_in =
      ap (laid (body_start s + 5) (painted f)) cut
      ∙ laid_mid (body_start s + 5) (before k (length f)) f tail (painted f) before_long same_long
      ∙ sym (append_assoc (before k (length f)) (painted f) tail)
      ∙ ap (λ (l : List ℕ). l ++ tail) (ap (λ (n : ℕ). before k n ++ painted f) (sym same_long) ∙ sym (plain_cut k (painted f)))

  plain_long : length (plain_of k (painted f)) ≡ body_end s
  plain_long = ap length (plain_cut k (painted f)) ∙ rw same_long (simp length-append (omega (arith, before_long, same_long, fields_long s g, g.five)))

  painted_plain : take (body_end s) (laid (body_start s + 5) (painted f) s) ≡ plain_of k (painted f)
  painted_plain = ap (take (body_end s)) painted_in ∙ take_at (plain_of k (painted f)) tail (body_end s) plain_long

  -- THE SUM: the trailer says the old one; moved by what was painted it is the new one
  plain_is : take (body_end s) s ≡ plain_of k f
  unfolding frame_of
  plain_is = ap (take (body_end s)) (is_frame s g ∙ append_assoc (plain_of k f) (trailer_of (sum8 (plain_of k f))) r) ∙ take_at (plain_of k f) tail (body_end s) (plain_ends s g)

  pub sum_stands : digits_at (body_end s + 3) 3 s ≡ number (sum8 (take (body_end s) s))
  unfolding frame_of
  sum_stands =
      let v = sum8 (plain_of k f) in
      let c : s ≡ (plain_of k f ++ ten) ++ (decimal_of 3 v ++ (SOH ∷ r)) = is_frame s g ∙ append_assoc (plain_of k f) (trailer_of v) r ∙ ap (λ (l : List ℕ). plain_of k f ++ l) (trailer_cut v r) ∙ sym (append_assoc (plain_of k f) ten (decimal_of 3 v ++ (SOH ∷ r))) in
      let d : drop (body_end s + 3) s ≡ decimal_of 3 v ++ (SOH ∷ r) = ap (drop (body_end s + 3)) c ∙ drop_at (plain_of k f ++ ten) (decimal_of 3 v ++ (SOH ∷ r)) (body_end s + 3) (simp length-append (omega (arith, plain_ends s g))) in
      let e : take 3 (drop (body_end s + 3) s) ≡ decimal_of 3 v = ap (take 3) d ∙ take_at (decimal_of 3 v) (SOH ∷ r) 3 (length_decimal 3 v) in
      let b : v < 10 ^ 3 = omega (arith, sum8_below (plain_of k f)) in
      let y : Says (body_end s + 3) 3 s v = record { place = record { some = lit≤ tt; few = lit≤ tt; within = omega (arith, whole) }; digits = rw e (all_decimal 3 v); says = rw e (said_decimal 3 v b) } in
      rw plain_is (given_number (body_end s + 3) 3 s v y)

  pub sum_moved_lem : (v : ℕ) → v ≡ sum8 (take (body_end s) s) → sum_moved v f (painted f) ≡ sum8 (take (body_end s) (laid (body_start s + 5) (painted f) s))
  sum_moved_lem v e =
      moved_behind (before k (length f)) f (painted f) v (e ∙ ap sum8 (plain_is ∙ plain_cut k f))
      ∙ ap sum8 (sym (painted_plain ∙ plain_cut k (painted f) ∙ ap (λ (n : ℕ). before k n ++ painted f) same_long))

  -- and the sum renewed
  pub renewed : laid (body_end s + 3) (decimal_of 3 (sum8 (take (body_end s) (laid (body_start s + 5) (painted f) s)))) (laid (body_start s + 5) (painted f) s) ≡ scrubbed_of s
  unfolding scrubbed_of frame_of
  renewed =
      let v = sum8 (plain_of k f) in
      let w = sum8 (plain_of k (painted f)) in
      let b : laid (body_start s + 5) (painted f) s ≡ (plain_of k (painted f) ++ ten) ++ (decimal_of 3 v ++ (SOH ∷ r)) = painted_in ∙ ap (λ (l : List ℕ). plain_of k (painted f) ++ l) (trailer_cut v r) ∙ sym (append_assoc (plain_of k (painted f)) ten (decimal_of 3 v ++ (SOH ∷ r))) in
      let l : length (plain_of k (painted f) ++ ten) ≡ body_end s + 3 = simp length-append (omega (arith, plain_long)) in
      ap (λ (x : List ℕ). laid (body_end s + 3) (decimal_of 3 (sum8 x)) (laid (body_start s + 5) (painted f) s)) painted_plain
      ∙ ap (laid (body_end s + 3) (decimal_of 3 w)) b
      ∙ laid_mid (body_end s + 3) (plain_of k (painted f) ++ ten) (decimal_of 3 v) (SOH ∷ r) (decimal_of 3 w) l (length_decimal 3 w ∙ sym (length_decimal 3 v))
      ∙ append_assoc (plain_of k (painted f)) ten (decimal_of 3 w ++ (SOH ∷ r))
      ∙ ap (λ (x : List ℕ). plain_of k (painted f) ++ x) (sym (trailer_cut w r))
      ∙ sym (append_assoc (plain_of k (painted f)) (trailer_of w) r)

-- the fields of a frame as the part that its paper names
module _ (s : List ℕ) (k p n t : ℕ) (w : Told s k p n t) where
  pub end_is : p + n ≡ body_end s
  end_is = omega (arith, w.place, w.long, w.goods.five)

  pub part_is : take (p + n - p) (drop p s) ≡ fields s
  part_is =
      let e : p + n - p ≡ body_length s - 5 = omega (arith, w.long) in
      rw (e, w.place)

  pub end_in : p + n + 7 ≤ length s
  end_in = omega (arith, end_is, whole s w.goods)

  pub sum_there : digits_at (p + n + 3) 3 s ≡ number (sum8 (take (p + n) s))
  sum_there = rw end_is (sum_stands s w.goods)

  pub painting : laid p (painted (take (p + n - p) (drop p s))) s ≡ laid (body_start s + 5) (painted (fields s)) s
  painting = ap (λ (x : List ℕ). laid p (painted x) s) part_is ∙ ap (λ (q : ℕ). laid q (painted (fields s)) s) w.place

  pub renewing : (b : List ℕ) (u v : ℕ) → b ≡ laid (body_start s + 5) (painted (fields s)) s → u ≡ sum8 (take (p + n) s) → v ≡ sum_moved u (take (p + n - p) (drop p s)) (painted (take (p + n - p) (drop p s))) → laid (p + n + 3) (decimal_of 3 v) b ≡ scrubbed_of s
  renewing b u v e old new =
      let m : v ≡ sum8 (take (p + n) (laid (body_start s + 5) (painted (fields s)) s))
      = new ∙ ap (λ (x : List ℕ). sum_moved u x (painted x)) part_is ∙ sum_moved_lem s w.goods u (old ∙ ap (λ (q : ℕ). sum8 (take q s)) end_is) ∙ ap (λ (q : ℕ). sum8 (take q (laid (body_start s + 5) (painted (fields s)) s))) (sym end_is) in
      ap (λ (x : List ℕ). laid (p + n + 3) (decimal_of 3 v) x) e
      ∙ ap (λ (x : ℕ). laid (p + n + 3) (decimal_of 3 x) (laid (body_start s + 5) (painted (fields s)) s)) m
      ∙ ap (λ (q : ℕ). laid (q + 3) (decimal_of 3 (sum8 (take q (laid (body_start s + 5) (painted (fields s)) s)))) (laid (body_start s + 5) (painted (fields s)) s)) end_is
      ∙ renewed s w.goods
