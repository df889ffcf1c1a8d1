-- The loops of `pass` and `is_clean`: behind what is done, what is left at a place gives what the
-- whole capture gives. Assumes nothing.
use Prim.Native.Nat.{ℕ, ◌+◌, ◌-◌, ◌≤◌, ◌<◌}
use Rattle.std.specs.Prelude.{Result, Ok, Err, is_ok, not, ◌&&◌, Bool}
use Rattle.std.specs.Int.{from_bool}
use Rattle.std.specs.Result.{result_unwrap_or}
use mathlib.Core.Path.{◌≡◌, refl, sym, ap, ap₂, ◌∙◌}
use mathlib.Core.Logic.{⊎_elim}
use mathlib.Core.List.{List, [], ◌∷◌, ◌++◌}
use native.Mathlib.Omega.{arith}
use lib.ListN.{length, take, drop, length-append, take-append-drop, length-drop}
use lib.Seq.{drop-drop, length-take-le}
use native.Mathlib.Nat.{add-zero}
use mathlib.Core.Bool.{true, false, not-not}
use lib.Dec.{eqb, leb}
use borrow.Author.Tests.{le-leb, leb-true}
use Rattle.terms.specs.Paper.{pick, answer}
use Rattle.terms.specs.Refusals.{refusal_not_0}
use Rattle.terms.specs.Verdicts.{verdict_number}
use Rattle.terms.specs.declared.Refusal.{Refusal}
use Rattle.terms.specs.Cases.{two}
use Rattle.octets.specs.Octets.{laid}
use Rattle.octets.specs.Papers.{laid_if_room, laid_there, laid_kept}
use Rattle.octets.specs.Overlays.{laid_nil, laid_append, length_laid, take_front}
use Rattle.private.specs.Scrub.{scrubbed}
use Rattle.walk_laws.specs.Literal.{from_of, from_end}
use Rattle.walk_laws.specs.Frames.{joined, each_of}
use Rattle.reading.specs.declared.Seen.{Seen}
use Rattle.reading.specs.Seen.{seen_of, seen_number, says_of}
use Rattle.walk_laws.specs.Walk.{Sight}
use Rattle.walk_spec.specs.Walk.{sights, accepts, frames_of}
use Rattle.clean.specs.declared.Cleaned.{Cleaned}
use Rattle.clean_spec.specs.Clean.{frames_in, clean_in, clean_of, found_by, found_in, found_of, differ_of, check_of}
use Rattle.clean_spec.specs.Kept.{kept_of, size_of, kept_number, kept_size}
use Rattle.clean.specs.Passes.{cleaned_of}
use Rattle.clean_spec.specs.Steps.{Steps}
use Rattle.clean_spec.specs.Differ.{differ_end, differ_more, differ_behind, differ_there, differ_inside}
use Rattle.walk_spec.specs.Onward.{onward_of, frames_next}
use Rattle.clean_spec.specs.Turns.{size_inside, size_small, steps_onward, frame_length, adds}

-- whatever has room, the buffer keeps its length
laid_length : (at : ℕ) (bs d : List ℕ) → length (laid_if_room at bs d) ≡ length d
laid_length at bs d =
    ⊎_elim (λ (t : leb (at + length bs) (length d) ≡ true). ap length (laid_there at (length bs) bs d refl t) ∙ length_laid at bs d (leb-true (at + length bs) (length d) t))
    (λ (f : leb (at + length bs) (length d) ≡ false). ap length (laid_kept at (length bs) bs d refl f))
    (two (leb (at + length bs) (length d)))

-- the cleaned bytes of what is read from a place on
abbrev left_of : ℕ → List ℕ → List ℕ
left_of p s = clean_in s (from_of seen_of says_of p s)

-- one reading, and what is left behind it
module _ (s : List ℕ) (p r : ℕ) (x : Seen) (e : x ≡ seen_of (drop p s)) (g : Steps s p x.size r) where
  left_next : left_of p s ≡ scrubbed (take x.size (drop p s)) ++ left_of r s
  left_next = ap (clean_in s) g.goes.rest ∙ adds s p x e (from_of seen_of says_of r s)

  found_next : (before : ℕ) → found_in before (from_of seen_of says_of p s) ≡ found_by before (seen_number x) + found_in (seen_number x) (from_of seen_of says_of r s)
  unfolding found_in
  found_next before = rw (g.goes.rest, e)

-- The invariant of `pass`: bytes, frames and found frames of what is left, added to those so far,
-- are those of the whole; and where the whole has room, what is left laid behind what is written
-- gives the whole.
pub record Left (s out₀ out : List ℕ) (p bytes frames found : ℕ) (damaged : Bool) : Type 0 where
  pub inside : p ≤ length s
  pub few : bytes ≤ p
  pub frames_few : frames ≤ p
  pub found_few : found ≤ p
  pub room : length out ≡ length out₀
  pub counted : bytes + length (left_of p s) ≡ length (clean_of s)
  pub read : frames + frames_of (from_of seen_of says_of p s) ≡ frames_of (sights s)
  pub searched : found + found_in (pick damaged 1 0) (from_of seen_of says_of p s) ≡ found_of s
  pub written : length (clean_of s) ≤ length out₀ → laid bytes (left_of p s) out ≡ laid 0 (clean_of s) out₀

pub left_start : (s out : List ℕ) → Left s out out 0 0 0 0 false
unfolding clean_of
left_start s out =
    record {
      inside = omega arith;
      few = omega arith;
      frames_few = omega arith;
      found_few = omega arith;
      room = refl;
      counted = omega arith;
      read = omega arith;
      searched = omega arith;
      written = λ h. refl;
    }

-- that the one before was refused is all that the search is told of it
by_flag : (b : Bool) → eqb (pick b 1 0) 0 ≡ not b
by_flag true = refl
by_flag false = refl

flagged : (before : ℕ) (xs : List (Sight Seen)) → found_in (pick (not (eqb before 0)) 1 0) xs ≡ found_in before xs
unfolding found_in found_by
flagged before [] = refl
flagged before (x ∷ xs) = rw (by_flag (not (eqb before 0)), not-not (eqb before 0))

-- a frame, and a frame behind damage, counted
pub one_accepted : (r : Result ℕ Refusal) → from_bool (is_ok r) ≡ accepts (verdict_number r)
unfolding accepts
one_accepted (Ok n) = refl
one_accepted (Err w) = rw (refusal_not_0 w)

pub one_found : (damaged : Bool) (r : Result ℕ Refusal) → from_bool (damaged && is_ok r) ≡ found_by (pick damaged 1 0) (verdict_number r)
unfolding found_by accepts
one_found true (Ok n) = refl
one_found true (Err w) = rw (refusal_not_0 w)
one_found false r = refl

damaged_by : (r : Result ℕ Refusal) → not (is_ok r) ≡ not (eqb (verdict_number r) 0)
damaged_by (Ok n) = refl
damaged_by (Err w) = rw (refusal_not_0 w)

bool_few : (b : Bool) → from_bool b ≤ 1
bool_few true = omega arith
bool_few false = omega arith

pub left_step : {s out₀ out out' : List ℕ} {p r bytes frames found : ℕ} {damaged : Bool} (x : Result ℕ Refusal) (w : Left s out₀ out p bytes frames found damaged)
    → (x ≡ kept_of (seen_of (drop p s))) × (out' ≡ laid_if_room bytes (scrubbed (take (seen_of (drop p s)).size (drop p s))) out) → Steps s p (result_unwrap_or x 0) r
    → Left s out₀ out' r (bytes + result_unwrap_or x 0) (frames + from_bool (is_ok x)) (found + from_bool (damaged && is_ok x)) (not (is_ok x))
left_step {s} {out₀} {out} {out'} {p} {r} {bytes} {frames} {found} {damaged} x w h g₀ =
    let seen = seen_of (drop p s) in
    let size : result_unwrap_or x 0 ≡ seen.size = ap size_of h.0 ∙ kept_size (drop p s) in
    let number : verdict_number x ≡ seen_number seen = ap verdict_number h.0 ∙ kept_number seen in
    let g : Steps s p seen.size r = rw size at g₀ in
    let k : from_bool (is_ok x) ≡ accepts (seen_number seen) = one_accepted x ∙ ap accepts number in
    let j : from_bool (damaged && is_ok x) ≡ found_by (pick damaged 1 0) (seen_number seen) = one_found damaged x ∙ ap (found_by (pick damaged 1 0)) number in
    let frame = scrubbed (take seen.size (drop p s)) in
    let next = left_next s p r seen refl g in
    let long : length frame ≡ seen.size = frame_length s p seen refl w.inside in
    let all : length (left_of p s) ≡ seen.size + length (left_of r s) = ap length next ∙ length-append frame (left_of r s) ∙ ap (λ (n : ℕ). n + length (left_of r s)) long in
    let rest = from_of seen_of says_of r s in
    let behind : found_in (pick (not (is_ok x)) 1 0) rest ≡ found_in (seen_number seen) rest = ap (λ (b : Bool). found_in (pick b 1 0) rest) (damaged_by x) ∙ flagged (verdict_number x) rest ∙ ap (λ (n : ℕ). found_in n rest) number in
    record {
      inside = g.goes.inside;
      few = omega (arith, size, w.few, g.past);
      frames_few = omega (arith, w.frames_few, g.goes.further, bool_few (is_ok x));
      found_few = omega (arith, w.found_few, g.goes.further, bool_few (damaged && is_ok x));
      room = ap length h.1 ∙ laid_length bytes frame out ∙ w.room;
      counted = omega (arith, size, w.counted, all);
      read = omega (arith, k, w.read, frames_next s p r seen refl g.goes);
      searched = omega (arith, j, w.searched, found_next s p r seen refl g (pick damaged 1 0), behind);
      written = λ (f : length (clean_of s) ≤ length out₀).
          let fits : bytes + length frame ≤ length out = omega (arith, long, all, f, w.counted, w.room) in
          let q : out' ≡ laid bytes frame out = h.1 ∙ laid_there bytes (length frame) frame out refl (le-leb (bytes + length frame) (length out) fits) in
          ap (laid (bytes + result_unwrap_or x 0) (left_of r s)) q
          ∙ ap (λ (n : ℕ). laid (bytes + n) (left_of r s) (laid bytes frame out)) (size ∙ sym long)
          ∙ sym (laid_append bytes frame (left_of r s) out fits)
          ∙ ap (λ (l : List ℕ). laid bytes l out) (sym next)
          ∙ w.written f;
    }

-- at the end nothing is left
left_none : (s : List ℕ) (p : ℕ) → length s ≤ p → left_of p s ≡ []
unfolding frames_in each_of joined
left_none s p h = rw (from_end seen_of says_of p s h)

pub left_end : {s out₀ out : List ℕ} {p bytes frames found : ℕ} {damaged : Bool} (w : Left s out₀ out p bytes frames found damaged) → length s ≤ p
    → (◌≡◌ {A = Cleaned} (record { bytes = bytes; frames = frames; after_damage = found }) (cleaned_of s)) × (length (clean_of s) ≤ length out₀ → out ≡ laid 0 (clean_of s) out₀)
unfolding cleaned_of frames_of found_in
left_end {s} {out₀} {out} {p} {bytes} {frames} {found} {damaged} w h =
    let e = from_end seen_of says_of p s h in
    let n = left_none s p h in
    let c : bytes ≡ length (clean_of s) = omega (arith, rw n at w.counted) in
    let f : frames ≡ frames_of (sights s) = omega (arith, rw e at w.read) in
    let d : found ≡ found_of s = omega (arith, rw e at w.searched) in
    (rw (c, f, d), λ (r : length (clean_of s) ≤ length out₀). sym (laid_nil bytes out) ∙ ap (λ (l : List ℕ). laid bytes l out) (sym n) ∙ w.written r)

-- ONE READING, by what became of it: how many bytes its frame has, what it adds, and where the
-- next reading is
module _ (s : List ℕ) (p : ℕ) (x : Result ℕ Refusal) (e : x ≡ kept_of (seen_of (drop p s))) where
  size_is : size_of x ≡ (seen_of (drop p s)).size
  size_is = ap size_of e ∙ kept_size (drop p s)

  pub kept_inside : p ≤ length s → p + size_of x ≤ length s
  kept_inside h = rw size_is (size_inside s p (seen_of (drop p s)) refl h)

  pub kept_small : size_of x ≤ 8192
  kept_small = rw size_is (size_small s p (seen_of (drop p s)) refl)

  abbrev scrubbed_at : List ℕ
  scrubbed_at = scrubbed (take (size_of x) (drop p s))

  kept_length : p ≤ length s → length scrubbed_at ≡ size_of x
  kept_length h = rw size_is (frame_length s p (seen_of (drop p s)) refl h)

  kept_next : (q : ℕ) → Steps s p (size_of x) q → left_of p s ≡ scrubbed_at ++ left_of q s
  kept_next q g = rw size_is (left_next s p q (seen_of (drop p s)) refl (rw size_is at g))

  pub kept_steps : p < length s → (r : ℕ) → r ≡ onward_of s p (size_of x) → Steps s p (size_of x) r
  kept_steps h r o = rw size_is (steps_onward s p (seen_of (drop p s)) refl h r (rw size_is at o))

-- The invariant of `is_clean`: what stands from n on differs from what is left to be cleaned where
-- the capture differs from the cleaned one.
pub record Same (s one : List ℕ) (p n : ℕ) : Type 0 where
  pub inside : p ≤ length s
  pub few : n ≤ p
  pub room : length one ≡ 8192
  pub differs : differ_of n (drop n s) (left_of p s) ≡ differ_of 0 s (clean_of s)

pub same_start : (s one : List ℕ) → length one ≡ 8192 → Same s one 0 0
unfolding clean_of
same_start s one l = record { inside = omega arith; few = omega arith; room = l; differs = refl }

-- the reading at p made its frame at the front of one
module _ (s one one' : List ℕ) (p n : ℕ) (x : Result ℕ Refusal) (w : Same s one p n)
    (h : (x ≡ kept_of (seen_of (drop p s))) × (one' ≡ laid_if_room 0 (scrubbed (take (seen_of (drop p s)).size (drop p s))) one)) where
  abbrev frame : List ℕ
  frame = scrubbed (take (size_of x) (drop p s))

  is_laid : one' ≡ laid_if_room 0 frame one
  is_laid = h.1 ∙ ap (λ (m : ℕ). laid_if_room 0 (scrubbed (take m (drop p s))) one) (sym (size_is s p x h.0))

  made : one' ≡ laid 0 frame one
  made = is_laid ∙ laid_there 0 (size_of x) frame one (kept_length s p x h.0 w.inside) (le-leb (0 + size_of x) (length one) (omega (arith, kept_small s p x h.0, w.room)))

  front : take (size_of x) one' ≡ frame
  front = ap (take (size_of x)) made ∙ take_front (size_of x) frame one (kept_length s p x h.0 w.inside)

  pub one_long : length one' ≡ 8192
  one_long = ap length is_laid ∙ laid_length 0 frame one ∙ w.room

  -- it is compared with what stands at n
  long : length (take (size_of x) one') ≡ size_of x
  long = length-take-le (size_of x) one' (omega (arith, kept_small s p x h.0, one_long))

  there : length (take (size_of x) (drop n s)) ≡ size_of x
  there = length-take-le (size_of x) (drop n s) (omega (arith, length-drop n s, kept_inside s p x h.0 w.inside, w.few))

  z : length (take (size_of x) (drop n s)) ≡ length (take (size_of x) one')
  z = there ∙ sym long

  parts_are : (m : ℕ) → m ≡ size_of x → (take (n + m - n) (drop n s) ≡ take (size_of x) (drop n s)) × (take m one' ≡ take (size_of x) one')
  parts_are m e = (ap (λ (k : ℕ). take k (drop n s)) (omega (arith, e)), ap (λ (k : ℕ). take k one') e)

  pub parts_long : (m : ℕ) → m ≡ size_of x → length (take (n + m - n) (drop n s)) ≡ length (take m one')
  parts_long m e = let f = parts_are m e in ap length f.0 ∙ z ∙ sym (ap length f.1)

  pub front_long : (m : ℕ) → m ≡ size_of x → m ≡ length (take m one')
  front_long m e = e ∙ sym long ∙ sym (ap length (parts_are m e).1)

  -- a place where they differ lies in the capture
  pub place_inside : (m i : ℕ) → m ≡ size_of x → i ∷ [] ≡ differ_of 0 (take (n + m - n) (drop n s)) (take m one') → n + i ≤ length s
  place_inside m i e f = omega (arith, differ_inside 0 i _ _ f, ap length (parts_are m e).0, there, kept_inside s p x h.0 w.inside, w.few)

  module _ (q : ℕ) (g : Steps s p (size_of x) q) (m : ℕ) (e : m ≡ size_of x) (l : List ℕ) (f₀ : l ≡ differ_of 0 (take (n + m - n) (drop n s)) (take m one')) where
    f : l ≡ differ_of 0 (take (size_of x) (drop n s)) (take (size_of x) one')
    f = let k = parts_are m e in f₀ ∙ ap₂ (differ_of 0) k.0 k.1

    differs : differ_of 0 s (clean_of s) ≡ differ_of n (drop n s) (take (size_of x) one' ++ left_of q s)
    differs = sym w.differs ∙ ap (differ_of n (drop n s)) (kept_next s p x h.0 q g ∙ ap (λ (l : List ℕ). l ++ left_of q s) (sym front))

    parts : drop n s ≡ take (size_of x) (drop n s) ++ drop (n + size_of x) s
    parts = sym (take-append-drop (size_of x) (drop n s)) ∙ rw (drop-drop (size_of x) n s)

    whole : differ_of n (drop n s) (take (size_of x) one' ++ left_of q s) ≡ differ_of n (take (size_of x) (drop n s) ++ drop (n + size_of x) s) (take (size_of x) one' ++ left_of q s)
    whole = ap (λ (l : List ℕ). differ_of n l (take (size_of x) one' ++ left_of q s)) parts

    pub same_step : [] ≡ l → Same s one' q (n + m)
    same_step none =
        record {
          inside = g.goes.inside;
          few = omega (arith, e, w.few, g.past);
          room = one_long;
          differs = sym (differs ∙ whole ∙ differ_behind 0 n _ _ (drop (n + size_of x) s) (left_of q s) z (none ∙ f) ∙ ap (λ (k : ℕ). differ_of (n + k) (drop (n + size_of x) s) (left_of q s)) there ∙ ap (λ (k : ℕ). differ_of (n + k) (drop (n + k) s) (left_of q s)) (sym e));
        }

    pub same_here : (i : ℕ) → i ∷ [] ≡ l → answer 0 ((n + i) ∷ []) ≡ check_of s
    unfolding check_of
    same_here i one = ap (answer 0) (sym (differs ∙ whole ∙ ap (λ (k : ℕ). differ_of k (take (size_of x) (drop n s) ++ drop (n + size_of x) s) (take (size_of x) one' ++ left_of q s)) (sym (add-zero n)) ∙ differ_there n 0 i _ _ (drop (n + size_of x) s) (left_of q s) z (one ∙ f)))

-- at the end nothing is left to be cleaned
module _ {s one : List ℕ} {p n : ℕ} (w : Same s one p n) (h : length s ≤ p) where
  ended : differ_of n (drop n s) [] ≡ differ_of 0 s (clean_of s)
  ended = ap (differ_of n (drop n s)) (sym (left_none s p h)) ∙ w.differs

  pub same_more : n < length s → answer 0 (n ∷ []) ≡ check_of s
  unfolding check_of
  same_more f = ap (answer 0) (sym (differ_more s n f) ∙ ended)

  pub same_end : length s ≤ n → answer 0 [] ≡ check_of s
  unfolding check_of
  same_end f = ap (answer 0) (sym (differ_end s n f) ∙ ended)
