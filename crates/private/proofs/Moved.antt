-- The sum of header and body moved along spans, for any spans, overlapping ones too: each painted
-- byte is taken off and its fill added (document 02, CR 4).
use Rattle.std.specs.Prelude.{ℕ, ◌+◌, ◌≤◌, ◌≡◌, List, [], ◌∷◌, length, take, replicate}
use Rattle.std.proofs.Common.{arith}
use Rattle.std.proofs.lemmas.List.{length-replicate}
use Rattle.octets.specs.Octets.{sum8}
use Rattle.octets.proofs.Sums.{sum_after_part}
use Rattle.octets.specs.Overlays.{length_laid}
use Rattle.private.specs.declared.Span.{Span}
use Rattle.private.specs.Paint.{Within}
use Rattle.private.specs.Within.{span_painted}
use Rattle.private.specs.Moved.{moved_sum, painted_in}

-- A SUM THAT WAS RIGHT IS RIGHT AFTER ALL SPANS ARE PAINTED, whatever the spans
pub moved_right : (n : ℕ) (ps : List Span) (v : ℕ) (d : List ℕ) → 24 + n ≤ length d → Within n ps → v ≡ sum8 (take (24 + n) d) → moved_sum ps v d ≡ sum8 (take (24 + n) (painted_in ps d))
unfolding moved_sum painted_in
moved_right n [] v d h w e = e
moved_right n (p ∷ ps) v d h w e =
    let fits : 24 + p.place + length (replicate p.len p.fill) ≤ length d = rw (length-replicate p.len p.fill) (omega (arith, w.0, h)) in
    let long : length (span_painted p d) ≡ length d = length_laid (24 + p.place) (replicate p.len p.fill) d fits in
    moved_right n ps _ (span_painted p d) (rw long h) w.1 (sum_after_part d (24 + n) (24 + p.place) p.len p.fill v (omega (arith, w.0)) h e)
