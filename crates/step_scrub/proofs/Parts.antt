-- A part of a `&mut` slice that was lent and is back, filled: as bytes laid over the slice.
-- Assumes nothing.
use mathlib.Core.Path.{◌≡◌, ap, ◌∙◌}
use mathlib.Core.List.{List, append_assoc}
use Prim.Native.Nat.{ℕ, ◌-◌, ◌≤◌}
use lib.ListN.{length, take, drop, replicate, length-replicate}
use lib.Seq.{drop-drop}
use borrow.Rule.Slice.PartMut.{put_mid, mid_of, mid_len}
use Rattle.octets.specs.Octets.{laid}
use mathlib.Core.Bool.{true}
use Rattle.step_spec.specs.Pieces.{pieces, closed}
use Rattle.step_scrub.specs.Scrubbed.{painted, all_fields}
use Rattle.step_scrub.proofs.Turns.{painted_length}

back : (a k : ℕ) (xs ys : List ℕ) → length ys ≡ k → put_mid a k xs ys ≡ laid a ys xs
unfolding laid
back a k xs ys e = simp (append_assoc, drop-drop, e)

pub filled : (a e b : ℕ) (xs ys : List ℕ) → a ≤ e → e ≤ length xs → ys ≡ replicate (length (mid_of a (e - a) xs)) b → put_mid a (e - a) xs ys ≡ laid a (replicate (e - a) b) xs
filled a e b xs ys h g p =
    let q : ys ≡ replicate (e - a) b = p ∙ rw (mid_len a e xs g) in
    back a (e - a) xs ys (ap length q ∙ length-replicate (e - a) b) ∙ ap (λ (l : List ℕ). laid a l xs) q

-- a part that was painted
pub painted_back : (a e : ℕ) (xs ys : List ℕ) → e ≤ length xs → closed (mid_of a (e - a) xs) ≡ true → all_fields (pieces (mid_of a (e - a) xs)) ≡ true → ys ≡ painted (mid_of a (e - a) xs) → put_mid a (e - a) xs ys ≡ laid a (painted (take (e - a) (drop a xs))) xs
painted_back a e xs ys h c f p = back a (e - a) xs ys (ap length p ∙ painted_length (mid_of a (e - a) xs) c f ∙ mid_len a e xs h) ∙ ap (λ (l : List ℕ). laid a l xs) p
