-- `store`: the sum is that of what is laid, and the trailer goes behind it. Assumes nothing.
use Rattle.octets.specs.Papers.{lay_next}
use Rattle.step_spec.specs.Written.{plain_of, frame_of}
use Rattle.step_spec.specs.Frame.{trailer_of}
use Rattle.octets.specs.Overlays.{take_front}
use Rattle.octets.specs.Octets.{laid, sum8}
use lib.ListN.{length, take, length-append}
use mathlib.Core.List.{List}
use mathlib.Core.Path.{◌≡◌, refl, sym, ap, ◌∙◌}
use Prim.Native.Nat.{ℕ}
use native.Mathlib.Omega.{arith}
use Rattle.step_frame.proofs.store.Goals as goal

-- the sum of what stands before the trailer
sum_is : (n m : ℕ) (l o p : List ℕ) → n ≡ length p → l ≡ laid 0 p o → m ≡ sum8 (take n l) → m ≡ sum8 p
sum_is n m l o p e f s = s ∙ rw (f, e) (ap sum8 (take_front _ p o refl))

pub returns : goal.returns
unfolding frame_of
returns c =
    let a = c.args in
    let p = c.store_plain-end.ensures in
    let s = sum_is _ _ _ _ _ p.0 p.1 c.sum.ensures in
    let t : c.trailer-trailer.result ≡ trailer_of (sum8 (plain_of a.kind a.fields.now)) = c.trailer-trailer.ensures ∙ ap trailer_of s in
    lay_next _ (plain_of a.kind a.fields.now) (trailer_of (sum8 (plain_of a.kind a.fields.now))) a.out.now _ _ (rw t at c.lay.ensures.1) p.1 (sym p.0) (omega (arith, p.0, simp length-append at c.requires.1))
