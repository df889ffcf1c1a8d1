-- Two parts, one behind the other: their first bytes, bytes laid together, and what the front of
-- both says of all.
use Rattle.std.specs.Prelude.{◌≡◌, ℕ, zero, suc, ◌+◌, ◌-◌, ◌%◌, ◌^◌, ◌<◌, ◌≤◌, min, Bool, true, false, ◌⊎◌, List, [], ◌∷◌, ◌++◌, length, take, drop, ◌≢◌, nat_lt, refl}
use Rattle.std.proofs.Common.{sym, ap, ◌∙◌, inl, inr, ⊎_elim, arith, add-zero, length-append, length-take, length-drop, take-append-drop, drop_of_length-le, take_all, take-take, length-take-le, le-leb, le-ltb, lt-ltb}
use Rattle.std.proofs.lemmas.Bool.{lt-leb}
use Rattle.terms.specs.Cases.{less}
use Rattle.terms.specs.Paper.{Paper, refusal, one_number}
use Rattle.terms.specs.Refusals.{refusal_of}
use Rattle.octets.specs.Octets.{be, sum8, laid}
use Rattle.octets.specs.Numerals.{numeral_take, numeral_drop}
use Rattle.octets.specs.Overlays.{take_front, length_laid, laid_nil}
use Rattle.octets.specs.Papers.{laid_if_room, lay_next}
use Rattle.octets.specs.Sums.{sum8_append}
use Rattle.rules.specs.Table.{kind_of}
use Rattle.rules.specs.Outcomes.{measure_same, measure_not_more}
use Rattle.rules.proofs.Outcomes.{judge_not_more}
use Rattle.frame_spec.specs.Frame.{msg_type, body_length, read_of, Whole}
use Rattle.frame_spec.specs.Outcomes.{measure, Reading, r_short, r_measure, r_cut, r_sum, r_judged, r_frame, reading, read_short, read_cut}
use Rattle.reading.specs.declared.Seen.{Seen}
use Rattle.reading.specs.Seen.{blank, seen_of, seen_number}
use Rattle.reading.specs.SeenLaws.{more_says}
use Rattle.reading.proofs.SeenLaws.{seen_kept, seen_answer, seen_blank}
use Rattle.reading_parts.specs.Parts.{wanted_by, Gathers, Long, Tells}

-- the first n bytes of both parts, and the bytes behind them
take_parts : (n : ℕ) (a b : List ℕ) → take n (a ++ b) ≡ take n a ++ take (n - length a) b
take_parts zero a b = let e : 0 - length a ≡ 0 = omega arith in rw e
take_parts (suc n) [] b = let e : suc n - 0 ≡ suc n = omega arith in rw e
take_parts (suc n) (x ∷ a) b = let e : suc n - suc (length a) ≡ n - length a = omega arith in rw (e, take_parts n a b)

pub drop_parts : (n : ℕ) (a b : List ℕ) → drop n (a ++ b) ≡ drop n a ++ drop (n - length a) b
drop_parts zero a b = let e : 0 - length a ≡ 0 = omega arith in rw e
drop_parts (suc n) [] b = let e : suc n - 0 ≡ suc n = omega arith in rw e
drop_parts (suc n) (x ∷ a) b = let e : suc n - suc (length a) ≡ n - length a = omega arith in rw e (drop_parts n a b)

-- a list's own end is the end of what is taken or dropped of it
take_lower : (n : ℕ) (s : List ℕ) → take (min (length s) n) s ≡ take n s
take_lower n s =
    ⊎_elim (λ (l : n < length s). let e : min (length s) n ≡ n = omega arith in rw e)
    (λ (l : length s ≤ n). let e : min (length s) n ≡ length s = omega arith in rw e (take_all (length s) s (omega arith) ∙ sym (take_all n s l)))
    (less n (length s))

drop_lower : (n : ℕ) (s : List ℕ) → drop (min (length s) n) s ≡ drop n s
drop_lower n s =
    ⊎_elim (λ (l : n < length s). let e : min (length s) n ≡ n = omega arith in rw e)
    (λ (l : length s ≤ n). let e : min (length s) n ≡ length s = omega arith in rw e (drop_of_length-le s {i = length s} (omega arith) ∙ sym (drop_of_length-le s {i = n} l)))
    (less n (length s))

-- both parts from a place on, each from its own
drop_both : (at n m : ℕ) (a b : List ℕ) → n ≡ min (length a) at → m ≡ min (length b) (at - n) → drop n a ++ drop m b ≡ drop at (a ++ b)
drop_both at n m a b h k =
    let r : at - n ≡ at - length a = omega arith in
    let i : drop n a ≡ drop at a = ap (λ (x : ℕ). drop x a) h ∙ drop_lower at a in
    let j : drop m b ≡ drop (at - length a) b = ap (λ (x : ℕ). drop x b) k ∙ drop_lower (at - n) b ∙ ap (λ (x : ℕ). drop x b) r in
    rw (i, j) (sym (drop_parts at a b))

-- the sum of both parts' shares
pub sum_both : (n m x y : ℕ) (a b : List ℕ) → m ≡ n - length a → x ≡ sum8 (take n a) → y ≡ sum8 (take m b) → (x + y) % 2 ^ 8 ≡ sum8 (take n (a ++ b))
sum_both n m x y a b h p q = rw (take_parts n a b, sum8_append, p, q, h)

-- whether bytes are missing of w, asked without the sum
pub none_lacks : (a b w : ℕ) → w ≤ a → false ≡ nat_lt (a + b) w
none_lacks a b w h = sym (le-ltb (a + b) w (omega arith))

pub some_lack : (a b w : ℕ) → a < w → nat_lt b (w - a) ≡ nat_lt (a + b) w
some_lack a b w h =
    ⊎_elim (λ (l : b < w - a). lt-ltb b (w - a) l ∙ sym (lt-ltb (a + b) w (omega arith))) (λ (l : w - a ≤ b). le-ltb b (w - a) l ∙ sym (le-ltb (a + b) w (omega arith))) (less b (w - a))

-- BYTES LAID TOGETHER

module _ (a b d e f : List ℕ) (n m : ℕ) (h : n ≡ min (length a) (length d)) (k : m ≡ min (length b) (length d - n)) (p : e ≡ laid_if_room 0 (take n a) d) (q : f ≡ laid_if_room n (take m b) e) where
  one : length (take n a) ≡ n
  one = length-take-le n a (omega arith)

  two : length (take m b) ≡ m
  two = length-take-le m b (omega arith)

  both : f ≡ laid 0 (take n a ++ take m b) d
  both = lay_next n (take n a) (take m b) d e f q (lay_next 0 [] (take n a) d d e p (sym (laid_nil 0 d)) refl (omega (arith, one))) one (omega (arith, two))

  long : length (take n a ++ take m b) ≡ n + m
  long = length-append (take n a) (take m b) ∙ rw (one, two)

  pub gathered : Gathers (length d) (a ++ b) f (n + m)
  gathered =
      let l : length f ≡ length d = ap length both ∙ length_laid 0 (take n a ++ take m b) d (omega (arith, long)) in
      let r : length d - n ≡ length d - length a = omega arith in
      let i : take n a ≡ take (length d) a = ap (λ (x : ℕ). take x a) h ∙ take_lower (length d) a in
      let j : take m b ≡ take (length d - length a) b = ap (λ (x : ℕ). take x b) k ∙ take_lower (length d - n) b ∙ ap (λ (x : ℕ). take x b) r in
      record {
        inside = omega arith;
        same = ap (take (n + m)) both ∙ take_front (n + m) (take n a ++ take m b) d long ∙ rw (i, j) (sym (take_parts (length d) a b));
      }

-- what is lent of a part from a place on
pub rest_of : (n : ℕ) (s : List ℕ) → take (length s - n) (drop n s) ≡ drop n s
rest_of n s = take_all (length s - n) (drop n s) (omega (arith, length-drop n s))

pub gathers_from : (at n m : ℕ) (a b e : List ℕ) (k r : ℕ) → n ≡ min (length a) at → m ≡ min (length b) (at - n) → Gathers k (take (length a - n) (drop n a) ++ take (length b - m) (drop m b)) e r → Gathers k (drop at (a ++ b)) e r
gathers_from at n m a b e k r h i g = rw (rest_of n a, rest_of m b, drop_both at n m a b h i) at g

-- what is laid together is a front
pub front_of : (n r : ℕ) (s e : List ℕ) → Gathers n s e r → take r e ≡ take (length (take r e)) s
front_of n r s e g =
    let l : length (take r e) ≡ min (length s) n = omega (arith, ap length g.same, length-take n s) in
    g.same ∙ sym (ap (λ (k : ℕ). take k s) l ∙ take_lower n s)

-- k bytes from a place on, of those laid together
pub gathered_part : (n k r at : ℕ) (s e : List ℕ) → Gathers n (drop at s) e r → k ≤ n → at + k ≤ length s → take k e ≡ take k (drop at s)
gathered_part n k r at s e g l h =
    let a : length (take r e) ≡ r = length-take-le r e g.inside in
    let b : length (take n (drop at s)) ≡ min n (length (drop at s)) = length-take n (drop at s) in
    let d : length (drop at s) ≡ length s - at = length-drop at s in
    let c : k ≤ r = omega (arith, ap length g.same) in
    sym (take-take k r e c) ∙ ap (take k) g.same ∙ take-take k n (drop at s) l

pub gathered_number : (r at : ℕ) (s e : List ℕ) → Gathers 4 (drop at s) e r → at + 4 ≤ length s → be 4 0 e ≡ be 4 at s
gathered_number r at s e g h =
    sym (numeral_take 256 4 0 4 e (omega arith))
    ∙ ap (be 4 0) (gathered_part 4 4 r at s e g (omega arith) h)
    ∙ numeral_take 256 4 0 4 (drop at s) (omega arith)
    ∙ numeral_drop 256 4 at 0 s
    ∙ ap (λ (p : ℕ). be 4 p s) (add-zero at)

-- WHAT A FRONT SAYS

-- LAW 1: it says what all say, unless it says that bytes are missing
seen_front : (n : ℕ) (s : List ℕ) → (seen_number (seen_of (take n s)) ≢ 1) → seen_of (take n s) ≡ seen_of s
seen_front n s ne = sym (ap seen_of (sym (take-append-drop n s)) ∙ seen_kept (take n s) (drop n s) (λ e. ne (more_says _ e)))

-- a frame of which not all is there: its header is, and it is right
record Cut (h : List ℕ) : Type 0 where
  header : 24 ≤ length h
  measured : measure h ≡ 0
  short : length h < 28 + body_length h

missing_of : (h : List ℕ) (p : Paper) → Reading h p → p.number ≡ 1 → (length h < 24) ⊎ Cut h
missing_of h p (r_short e l) z = inl l
missing_of h p (r_measure e l m) z = absurd (measure_not_more _ _ (sym (one_number e) ∙ z))
missing_of h p (r_cut e l m c) z = inr (record { header = l; measured = m; short = c })
missing_of h p (r_sum e w n) z = absurd (omega (arith, one_number e))
missing_of h p (r_judged e w f n) z = absurd (judge_not_more _ _ _ (sym (one_number e) ∙ z))
missing_of h p (r_frame e g) z = absurd (omega (arith, one_number e))

missing : (h : List ℕ) → seen_number (seen_of h) ≡ 1 → (length h < 24) ⊎ Cut h
missing h z = missing_of h (read_of h) (reading h) (sym (seen_answer h) ∙ z)

pub wanted_header : (h : List ℕ) → length h < 24 → wanted_by h ≡ 24
unfolding wanted_by
wanted_header h l = rw (lt-leb 24 (length h) l)

pub wanted_frame : (h : List ℕ) → 24 ≤ length h → wanted_by h ≡ 28 + body_length h
unfolding wanted_by
wanted_frame h l = rw (le-leb 24 (length h) l)

-- the header of a front is that of all
module _ (k : ℕ) (s : List ℕ) (c : Cut (take k s)) where
  far : 24 ≤ k
  far = omega (arith, c.header, length-take k s)

  there : 24 ≤ length s
  there = omega (arith, c.header, length-take k s)

  same_length : body_length (take k s) ≡ body_length s
  same_length = numeral_take 256 4 20 k s (omega (arith, far))

  same_measure : measure s ≡ 0
  same_measure =
      let t : msg_type (take k s) ≡ msg_type s = numeral_take 256 4 0 k s (omega (arith, far)) in
      sym (measure_same _ _ _ _ (ap kind_of t) same_length) ∙ c.measured

  cut_still : length s < wanted_by (take k s) → read_of s ≡ refusal 1
  cut_still l = read_cut s there same_measure (omega (arith, l, wanted_frame (take k s) c.header, same_length))

  cut_whole : wanted_by (take k s) ≤ length s → Whole s
  cut_whole l = record { header = there; measured = same_measure; there = omega (arith, l, wanted_frame (take k s) c.header, same_length) }

read_still : (k : ℕ) (s : List ℕ) → (length (take k s) < 24) ⊎ Cut (take k s) → length s < wanted_by (take k s) → read_of s ≡ refusal 1
read_still k s (inl h) l = read_short s (omega (arith, l, wanted_header (take k s) h))
read_still k s (inr c) l = cut_still k s c l

blank_one : (s : List ℕ) → (read_of s).number ≡ 1 → seen_of s ≡ blank (refusal_of 1)
blank_one s z = seen_blank s (λ (e : (read_of s).number ≡ 0). omega arith) ∙ ap (λ (x : ℕ). blank (refusal_of x)) z

-- where bytes are missing for it, and all has fewer than it wants, they are missing for all
seen_still : (k : ℕ) (h s : List ℕ) → h ≡ take k s → seen_number (seen_of h) ≡ 1 → length s < wanted_by h → seen_of h ≡ seen_of s
seen_still k h s e z l =
    let z' : (read_of h).number ≡ 1 = sym (seen_answer h) ∙ z in
    let o : read_of s ≡ refusal 1 = read_still k s (missing (take k s) (ap (λ (x : List ℕ). seen_number (seen_of x)) (sym e) ∙ z)) (rw (← e) l) in
    blank_one h z' ∙ sym (blank_one s (one_number o))

long_of : (s : List ℕ) → (length (take 512 s) < 24) ⊎ Cut (take 512 s) → wanted_by (take 512 s) ≤ length s → Long (take 512 s) s
long_of s (inl h) l = absurd (omega (arith, h, l, wanted_header (take 512 s) h, length-take 512 s))
long_of s (inr c) l =
    record {
      begins = refl;
      whole = cut_whole 512 s c l;
      big = omega (arith, c.short, l, wanted_frame (take 512 s) c.header, same_length 512 s c, length-take 512 s);
    }

-- else it is a long frame
pub long_frame : (front s : List ℕ) → front ≡ take 512 s → seen_number (seen_of front) ≡ 1 → wanted_by front ≤ length s → Long front s
long_frame front s e z l = rw e (long_of s (missing (take 512 s) (ap (λ (x : List ℕ). seen_number (seen_of x)) (sym e) ∙ z)) (rw (← e) l))

-- THE SAME OF WHAT THE CODE ASKS

module _ (h s : List ℕ) (x : Seen) (e : h ≡ take (length h) s) (seen : x ≡ seen_of h) where
  -- what is seen, unless bytes are missing
  pub seen_told : (seen_number x ≢ 1) → x ≡ seen_of s
  seen_told ne =
      seen ∙ ap seen_of e ∙ seen_front (length h) s (λ (z : seen_number (seen_of (take (length h) s)) ≡ 1). ne (ap seen_number (seen ∙ ap seen_of e) ∙ z))

  module _ (z : seen_number x ≡ 1) where
    missed : seen_number (seen_of h) ≡ 1
    missed = ap seen_number (sym seen) ∙ z

    -- and where all lack some of what is wanted
    pub seen_cut : length s < wanted_by h → x ≡ seen_of s
    seen_cut l = seen ∙ seen_still (length h) h s e missed l

    pub seen_lacks : wanted_by h ≤ length s → (seen_number (seen_of h) ≡ 1) × (wanted_by h ≤ length s)
    seen_lacks l = (missed, l)

-- and what the code's own answer to that says
pub tells_all : (b : Bool) (h s : List ℕ) → Tells b h s → b ≡ true → seen_of h ≡ seen_of s
tells_all b h s t e = rw e at t

pub tells_lack : (b : Bool) (h s : List ℕ) → Tells b h s → b ≡ false → (seen_number (seen_of h) ≡ 1) × (wanted_by h ≤ length s)
tells_lack b h s t e = rw e at t
