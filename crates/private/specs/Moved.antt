-- The sum of header and body moved along spans, for any spans, overlapping ones too: each painted
-- byte is taken off and its fill added (document 02, CR 4).
use Rattle.std.specs.Prelude.{ℕ, ◌+◌, ◌≤◌, ◌≡◌, refl, List, [], ◌∷◌, length, take, drop, replicate}
use Rattle.std.proofs.Common.{ap, ◌∙◌}
use Rattle.std.proofs.lemmas.List.{length-replicate}
use Rattle.octets.specs.Octets.{laid, sum_after}
use Rattle.octets.specs.Places.{laid_inner}
use Rattle.private.specs.declared.Span.{Span}
use Rattle.private.specs.Scrub.{painted}
use Rattle.private.specs.Paint.{Within, over, length_over}
use Rattle.private.specs.Within.{span_painted}

-- the spans of a body painted one after the other where it stands, behind the 24 header bytes of d
unfoldable pub painted_in : List Span → List ℕ → List ℕ
painted_in [] d = d
painted_in (p ∷ ps) d = painted_in ps (span_painted p d)

-- the sum v of header and body moved along: of each span its own bytes are taken off, as they stand
-- then, and its fill is added. No other byte is looked at.
unfoldable pub moved_sum : List Span → ℕ → List ℕ → ℕ
moved_sum [] v d = v
moved_sum (p ∷ ps) v d = moved_sum ps (sum_after v (take p.len (drop (24 + p.place) d)) p.fill) (span_painted p d)

-- painted where it stands, a body is what it is painted alone
pub painted_there : (ps : List Span) (b d : List ℕ) → Within (length b) ps → 24 + length b ≤ length d → painted_in ps (laid 24 b d) ≡ laid 24 (painted ps b) d
unfolding painted_in painted
painted_there [] b d w h = refl
painted_there (p ∷ ps) b d w h =
    let long : length (over p b) ≡ length b = length_over p b w.0 in
    let inner : span_painted p (laid 24 b d) ≡ laid 24 (over p b) d = laid_inner 24 p.place (replicate p.len p.fill) b d (rw (length-replicate p.len p.fill) w.0) h in
    ap (painted_in ps) inner ∙ painted_there ps (over p b) d (rw long w.1) (rw long h)
