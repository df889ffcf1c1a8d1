-- Span number i of short rows, a small sum stored, and all spans painted within a buffer.
use Rattle.std.specs.Prelude.{ℕ, ◌+◌, ◌/◌, ◌%◌, ◌<◌, ◌≤◌, ◌≡◌, true, List, [], ◌∷◌, ◌++◌, take, drop, replicate}
use Rattle.std.proofs.Common.{sym, ap, ◌∙◌, arith, length-drop, length-take-le}
use Rattle.std.proofs.Math.ListN.{length}
use Rattle.std.proofs.lemmas.List.{length-replicate}
use Rattle.octets.specs.Octets.{digits_of, laid, bytes_of, sum8}
use Rattle.octets.specs.Numerals.{length_digits}
use Rattle.octets.specs.Sums.{sum8_below}
use Rattle.octets.specs.Overlays.{laid_append, laid_same, mid_laid, drop_laid, length_laid}
use Rattle.rules.specs.declared.Kind.{Kind}
use Rattle.rules.specs.Table.{suits}
use Rattle.private.specs.declared.Span.{Span}
use Rattle.private.specs.Private.{private_of, span_at}
use Rattle.private.specs.Scrub.{painted, summed}
use Rattle.private.specs.Within.{body_in, span_in, span_painted, scrubbed_as, SmallSum}
use Rattle.private.specs.Paint.{Within, length_painted, painted_more, painted_agrees, within_take, within_at}
use Rattle.private.specs.PrivateLaws.{private_few, private_within, private_same}
use Rattle.octets.specs.Places.{laid_inner}

-- A SUM IN FOUR BYTES, the first three of which are 0: only the last is stored
bytes_small : (v : ℕ) → v < 256 → bytes_of 4 v ≡ (0 ∷ 0 ∷ 0 ∷ []) ++ (v ∷ [])
unfolding digits_of
bytes_small v h =
    let q : v / 256 ≡ 0 = omega arith in
    let r : v % 256 ≡ v = omega arith in
    rw (q, r)

pub summed_last : (m v : ℕ) (d : List ℕ) → m + 4 ≤ length d → v ≡ sum8 (take m d) → SmallSum m d → laid (m + 3) (v ∷ []) d ≡ summed m d
unfolding summed
summed_last m v d h e s =
    let zeros : List ℕ = 0 ∷ 0 ∷ 0 ∷ [] in
    let still : laid m zeros d ≡ d = ap (λ (x : List ℕ). laid m x d) (sym s) ∙ laid_same m 3 d (omega arith) in
    ap (laid (m + 3) (v ∷ [])) (sym still)
    ∙ sym (laid_append m zeros (v ∷ []) d (omega arith))
    ∙ ap (λ (x : List ℕ). laid m x d) (sym (bytes_small v (omega (arith, e, sum8_below (take m d)))) ∙ ap (bytes_of 4) e)

-- THE LOOP OVER THE SPANS, of a body of n bytes within d: after i of them, d is what it was with
-- the body so far painted
module _ (k : Kind) (n : ℕ) (d : List ℕ) (h : 24 + n ≤ length d) (m : suits k n ≡ true) where
  abbrev so_far : ℕ → List ℕ
  so_far i = painted (take i (private_of k (body_in n d))) (body_in n d)

  long : length (body_in n d) ≡ n
  long = length-take-le n (drop 24 d) (simp length-drop (omega arith))

  within : Within (length (body_in n d)) (private_of k (body_in n d))
  within = private_within k (body_in n d) (rw long m)

  so_long : (i : ℕ) → length (so_far i) ≡ n
  so_long i = length_painted (take i (private_of k (body_in n d))) (body_in n d) (within_take (length (body_in n d)) i (private_of k (body_in n d)) within) ∙ long

  room : (i : ℕ) → 24 + length (so_far i) ≤ length d
  room i = rw (so_long i) h

  pub start : laid 24 (so_far 0) d ≡ d
  unfolding painted
  start = laid_same 24 n d h

  body_so : (i : ℕ) → body_in n (laid 24 (so_far i) d) ≡ so_far i
  body_so i = ap (λ (x : ℕ). take x (drop 24 (laid 24 (so_far i) d))) (sym (so_long i)) ∙ mid_laid 24 (so_far i) d (room i)

  -- the span that is read from the body so far is the one of the body as it was
  span_so : (i : ℕ) → span_in k n i (laid 24 (so_far i) d) ≡ span_at i (private_of k (body_in n d))
  span_so i =
      ap (λ (b : List ℕ). span_at i (private_of k b)) (body_so i)
      ∙ ap (span_at i) (sym (private_same k (body_in n d) (so_far i) (painted_agrees i (private_of k (body_in n d)) (body_in n d) within)))

  module _ (i : ℕ) (e : List ℕ) (q : e ≡ laid 24 (so_far i) d) where
    pub now_long : length e ≡ length d
    now_long = ap length q ∙ length_laid 24 (so_far i) d (room i)

    span_now : span_in k n i e ≡ span_at i (private_of k (body_in n d))
    span_now = ap (span_in k n i) q ∙ span_so i

    fits : (span_at i (private_of k (body_in n d))).place + (span_at i (private_of k (body_in n d))).len ≤ n
    fits = rw long at (within_at (length (body_in n d)) i (private_of k (body_in n d)) within)

    pub span_fits : (span_in k n i e).place + (span_in k n i e).len ≤ n
    span_fits = rw span_now fits

    pub one_more : span_painted (span_in k n i e) e ≡ laid 24 (so_far (i + 1)) d
    one_more =
        let p = span_at i (private_of k (body_in n d)) in
        ap (λ (x : Span). span_painted x e) span_now
        ∙ ap (span_painted p) q
        ∙ laid_inner 24 p.place (replicate p.len p.fill) (so_far i) d (rw (length-replicate p.len p.fill, so_long i) fits) (room i)
        ∙ ap (λ (b : List ℕ). laid 24 b d) (sym (painted_more i (private_of k (body_in n d)) (body_in n d)))

    -- the same of a span that was read from the body as it was
    pub one_more_of : (p : Span) → p ≡ span_at i (private_of k (body_in n d)) → span_painted p e ≡ laid 24 (so_far (i + 1)) d
    one_more_of p r = ap (λ (x : Span). span_painted x e) (r ∙ sym span_now) ∙ one_more

    pub fits_of : (p : Span) → p ≡ span_at i (private_of k (body_in n d)) → p.place + p.len ≤ n
    fits_of p r = rw r fits

  -- four spans are more than there are
  pub all_spans : laid 24 (so_far 4) d ≡ laid 24 (painted (private_of k (body_in n d)) (body_in n d)) d
  all_spans = ap (λ (ps : List Span). laid 24 (painted ps (body_in n d)) d) (private_few k (body_in n d))

  -- painting leaves the bytes behind the body
  pub small_kept : SmallSum (24 + n) d → SmallSum (24 + n) (laid 24 (painted (private_of k (body_in n d)) (body_in n d)) d)
  small_kept s =
      let e = so_long 4 in
      let kept : drop (24 + n) (laid 24 (so_far 4) d) ≡ drop (24 + n) d = rw e at (drop_laid 24 (so_far 4) d (room 4)) in
      ap (λ (x : List ℕ). take 3 (drop (24 + n) x)) (sym all_spans) ∙ ap (take 3) kept ∙ s

  -- scrubbed there, d has as many bytes
  pub as_long : 28 + n ≤ length d → length (scrubbed_as k n d) ≡ length d
  unfolding summed
  as_long l =
      let over = laid 24 (painted (private_of k (body_in n d)) (body_in n d)) d in
      let same : length over ≡ length d = now_long 4 over (sym all_spans) in
      length_laid (24 + n) (bytes_of 4 (sum8 (take (24 + n) over))) over (rw (length_digits 256 4 (sum8 (take (24 + n) over)), same) (omega arith)) ∙ same
