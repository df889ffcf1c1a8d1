-- The window of a push: the kept bytes and the piece behind them; and what a run over it leaves, in
-- front of zeros.
use Rattle.std.specs.Prelude.{ℕ, zero, suc, ◌+◌, ◌-◌, ◌≤◌, ◌<◌, ◌≡◌, refl, Bool, true, false, List, [], ◌∷◌, ◌++◌, length, take, drop, get_or, set, replicate}
use Rattle.std.proofs.Math.Path.{sym}
use Rattle.std.proofs.Common.{ap, ◌∙◌, arith, add-one, length-append, length-drop, le-leb}
use Rattle.octets.specs.Octets.{laid}
use Rattle.octets.specs.Overlays.{laid_next, take_front, laid_front, laid_append, laid_one, laid_nil, length_laid}
use Rattle.octets.specs.Papers.{laid_if_room, laid_there}
use Rattle.record.specs.declared.Record.{Record}
use Rattle.walk_laws.specs.Walk.{more}
use Rattle.walk_laws.specs.WaitLaws.{mode_of}
use Rattle.walk_laws.specs.Closing.{final_not_more}
use Rattle.walk_laws.specs.Kept.{settled, few}
use Rattle.walk_laws.specs.Cuts as Cuts
use Rattle.reading.specs.Seen.{seen_of, says_of}
use Rattle.reading.proofs.SeenLaws.{seen_enough}
use Rattle.walk_spec.specs.Tables.{written_from}
use Rattle.stream_spec.specs.declared.Stream.{Stream}
use Rattle.stream_spec.specs.declared.Tally.{Tally}
use Rattle.stream_spec.specs.State.{head_of, is_seeking, meant_by, value_of}
use Rattle.stream_spec.specs.Run.{says_in, got_of, accounted_of, RanIs}
use Rattle.stream_spec.specs.Calls.{feed_of, given_of, behind_of}

pub length_head : (n : ℕ) (l : List ℕ) → length (head_of n l) ≡ n
unfolding head_of
length_head zero l = refl
length_head (suc n) l = simp (length-append, length_head n l) (omega arith)

pub joined_length : (n : ℕ) (l cut : List ℕ) → length (head_of n l ++ cut) ≡ n + length cut
joined_length n l cut = length-append (head_of n l) cut ∙ rw (length_head n l)

pub dropped : (a n : ℕ) (w : List ℕ) → length w ≡ n → n - a ≡ length (drop a w)
dropped a n w e = rw (length-drop a w, e)

-- bytes laid where there is room
pub laid_in : (at : ℕ) (bs d e : List ℕ) → at + length bs ≤ length d → e ≡ laid_if_room at bs d → e ≡ laid at bs d
laid_in at bs d e h p = p ∙ laid_there at (length bs) bs d refl (le-leb (at + length bs) (length d) h)

-- the kept bytes and the piece behind them, at the front of a window that takes both
pub window_is : (n : ℕ) (kept cut d e f : List ℕ) → n + length cut ≤ length d → e ≡ laid 0 (head_of n kept) d → f ≡ laid_if_room n cut e → take (n + length cut) f ≡ head_of n kept ++ cut
window_is n kept cut d e f k p q =
    let l = length_head n kept in
    let m : length e ≡ length d = ap length p ∙ length_laid 0 (head_of n kept) d (omega arith) in
    rw (laid_next n (head_of n kept) cut d e f (laid_in n cut e f (omega arith) q) p l (omega arith))
    (take_front (n + length cut) (head_of n kept ++ cut) d (length-append (head_of n kept) cut ∙ rw l))

-- one byte more is held
pub head_more : (i : ℕ) (kept d e : List ℕ) → i < length d → e ≡ laid 0 (head_of i kept) d → set e i (get_or kept i 0) ≡ laid 0 (head_of (i + 1) kept) d
unfolding head_of
head_more i kept d e h q =
    let l = length_head i kept in
    let z : 0 + length (head_of i kept) ≡ i = omega arith in
    let m : length (laid 0 (head_of i kept) d) ≡ length d = length_laid 0 (head_of i kept) d (omega arith) in
    rw (q, add-one, laid_append 0 (head_of i kept) (get_or kept i 0 ∷ []) d (omega arith), z, laid_one i (get_or kept i 0) (laid 0 (head_of i kept) d) (omega arith))

pub head_none : (kept d : List ℕ) → d ≡ laid 0 (head_of 0 kept) d
unfolding head_of
head_none kept d = sym (laid_nil 0 d)

take_none : (n : ℕ) → ◌≡◌ {A = List ℕ} (take n []) []
take_none zero = refl
take_none (suc n) = refl

pub take_drop : (a m : ℕ) (l : List ℕ) → a ≤ m → take (m - a) (drop a l) ≡ drop a (take m l)
take_drop zero m l h = let e : m - 0 ≡ m = omega arith in rw e
take_drop (suc a) zero l h = absurd (omega arith)
take_drop (suc a) (suc m) [] h = take_none (suc m - suc a)
take_drop (suc a) (suc m) (x ∷ l) h = let e : suc m - suc a ≡ m - a = omega arith in rw e (take_drop a m l (omega arith))

drop_zeros : (k n : ℕ) → drop k (replicate {A = ℕ} n 0) ≡ replicate (n - k) 0
drop_zeros zero n = let e : n - 0 ≡ n = omega arith in rw e
drop_zeros (suc k) zero = let e : 0 - suc k ≡ 0 = omega arith in rw e
drop_zeros (suc k) (suc n) = let e : suc n - suc k ≡ n - k = omega arith in rw e (drop_zeros k n)

-- what a run leaves, in front of zeros
pub padded : (l d e : List ℕ) (m : ℕ) → e ≡ laid 0 l d → d ≡ replicate m 0 → e ≡ l ++ replicate (m - length l) 0
padded l d e m p q = p ∙ laid_front l d ∙ rw (q, drop_zeros (length l) m)

-- 8,192 bytes never wait, at the closing call or before it
pub enough_in : (closing : Bool) (s : List ℕ) → 8192 ≤ length s → says_in closing (seen_of s) ≡ more → ⊥
enough_in true s l e = final_not_more (says_of (seen_of s)) e
enough_in false s l e = seen_enough s l e

pub kept_few : (w : List ℕ) (base : ℕ) (seek closing : Bool) (start : Tally) (k at : ℕ) (seeking : Bool) (count : ℕ) (tally : Tally) → RanIs w base seek closing start k at seeking count tally → length (drop at w) ≤ 8191
kept_few w base seek closing start k at seeking count tally z =
    let g = settled seen_of (says_in closing) (mode_of seek) base (base + length w) w refl in
    rw z.kept at (few seen_of (says_in closing) (enough_in closing) _ g.rests)

seeking_is : (b : Bool) → is_seeking (mode_of b) ≡ b
unfolding is_seeking
seeking_is true = refl
seeking_is false = refl

module _ (x : Stream) (closing : Bool) (cut w : List ℕ) (e : w ≡ head_of x.len x.kept ++ cut) where
  parts : feed_of closing (meant_by x) cut ≡ record { records = (accounted_of x.place x.seeking closing x.tally w).records; stream = record { mode = (got_of x.place x.seeking closing w).mode; place = (got_of x.place x.seeking closing w).place; kept = (got_of x.place x.seeking closing w).kept; ledger = (accounted_of x.place x.seeking closing x.tally w).ledger } }
  unfolding meant_by Cuts.feed_of accounted_of
  parts = rw e

  pub given_is : (accounted_of x.place x.seeking closing x.tally w).records ≡ given_of x closing cut
  unfolding given_of
  given_is = sym (ap (λ (y : Cuts.Fed Tally Record). y.records) parts)

  -- so the records that a run laid are those that the cut gives
  pub given_written : (k : ℕ) (d d' : List ℕ) → d' ≡ written_from k (accounted_of x.place x.seeking closing x.tally w).records d → d' ≡ written_from k (given_of x closing cut) d
  given_written k d d' p = p ∙ rw given_is

  pub behind_is : (k at : ℕ) (seeking : Bool) (count : ℕ) (tally : Tally) (next : List ℕ) (n : ℕ) → RanIs w x.place x.seeking closing x.tally k at seeking count tally
      → next ≡ drop at w ++ replicate (8191 - length (drop at w)) 0 → n ≡ length (drop at w)
      → ◌≡◌ {A = Stream} (record { place = x.place + at; seeking = seeking; closed = closing; len = n; kept = next; tally = tally }) (behind_of x closing cut)
  unfolding behind_of value_of
  behind_is k at seeking count tally next n z f g = rw (parts, z.mode, seeking_is seeking, z.place, z.kept, z.ends, f, g)
