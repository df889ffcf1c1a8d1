-- The walk that waits, place by place, as a loop takes it.
use Prim.Native.Nat.{ℕ, zero, suc, ◌+◌, ◌-◌, ◌≤◌, ◌<◌}
use Rattle.std.specs.Prelude.{◌≡◌, Bool, true, false, drop}
use Rattle.std.proofs.Math.Path.{refl}
use Rattle.std.proofs.Common.{ap, ◌∙◌, add-one, drop_of_length-le, drop-cons}
use mathlib.Core.List.{List, [], ◌∷◌}
use native.Mathlib.Omega.{arith}
use Rattle.std.proofs.Math.Nat.{add-zero}
use Rattle.std.proofs.Math.ListN.{length, length-drop}
use Rattle.std.proofs.Math.Seq.{drop-drop}
use Rattle.walk_laws.specs.Walk.{Says, frame, more, bad, Sight, Mode, within, seeking, after, next, noted}
use Rattle.walk_laws.specs.Waits.{waits, Got, halt, behind, ran_of, ran_wait, ran_step}

-- between two frames: searching, or at the start of a reading
abbrev pub mode_of : Bool → Mode
mode_of true = seeking
mode_of false = within zero

-- what is noted at a place that says w
abbrev pub notes : {R : Type 0} → Bool → Says → ℕ → R → List (Sight R)
notes b w p r = noted (mode_of b) w p r

waits_is : (b : Bool) → waits (mode_of b) more ≡ true
unfolding waits
waits_is true = refl
waits_is false = refl

waits_frame : (b : Bool) (n : ℕ) → waits (mode_of b) (frame n) ≡ false
unfolding waits
waits_frame true n = refl
waits_frame false n = refl

waits_bad : (b : Bool) → waits (mode_of b) bad ≡ false
unfolding waits
waits_bad true = refl
waits_bad false = refl

next_is : (b : Bool) (w : Says) → next (mode_of b) w ≡ after w
unfolding next
next_is true w = refl
next_is false w = refl

module _ {R : Type 0} (read_of : List ℕ → R) (says_of : R → Says) where
  -- the run from the place p of w on, where w stands at the place base
  abbrev pub ran_at : Bool → ℕ → ℕ → List ℕ → Got R
  ran_at b base p w = ran_of read_of says_of (mode_of b) (base + p) (drop p w)

  ran_skip : (k p : ℕ) (s : List ℕ) → k ≤ length s → ran_of read_of says_of (within k) p s ≡ ran_of read_of says_of (within zero) (p + k) (drop k s)
  unfolding waits noted next
  ran_skip zero p s h = simp add-zero
  ran_skip (suc k) p [] h = absurd (omega arith)
  ran_skip (suc k) p (b ∷ s) h = let e : p + 1 + k ≡ p + suc k = omega arith in ran_step read_of says_of (within (suc k)) p b s refl ∙ ran_skip k (p + 1) s (omega arith) ∙ rw e

  pub ran_end : (b : Bool) (base p : ℕ) (w : List ℕ) → length w ≤ p → ran_at b base p w ≡ halt (mode_of b) (base + p) []
  unfolding ran_of
  ran_end b base p w h = rw (drop_of_length-le w h)

  module _ (b : Bool) (base p : ℕ) (w : List ℕ) (h : p < length w) where
    pub ran_more : says_of (read_of (drop p w)) ≡ more → ran_at b base p w ≡ halt (mode_of b) (base + p) (drop p w)
    ran_more e = let d = drop-cons w p 0 h in rw d (ran_wait read_of says_of (mode_of b) (base + p) _ (drop (suc p) w) (ap (waits (mode_of b)) (rw d at e) ∙ waits_is b))

    there : (v : Says) → says_of (read_of (drop p w)) ≡ v → waits (mode_of b) v ≡ false
        → ran_at b base p w ≡ behind (notes b v (base + p) (read_of (drop p w))) (ran_of read_of says_of (after v) (base + (p + 1)) (drop (p + 1) w))
    there v e f =
        let d = drop-cons w p 0 h in
        let q : base + p + 1 ≡ base + (p + 1) = omega arith in
        let e' = rw d at e in
        rw d (ran_step read_of says_of (mode_of b) (base + p) _ (drop (suc p) w) (ap (waits (mode_of b)) e' ∙ f) ∙ rw (e', next_is b v, q, add-one))

    pub ran_frame : (n : ℕ) → 1 ≤ n → p + n ≤ length w → says_of (read_of (drop p w)) ≡ frame n
        → ran_at b base p w ≡ behind (notes b (frame n) (base + p) (read_of (drop p w))) (ran_at false base (p + n) w)
    unfolding after
    ran_frame n l m e =
        let q : base + (p + 1) + (n - 1) ≡ base + (p + n) = omega arith in
        let r : p + 1 + (n - 1) ≡ p + n = omega arith in
        let k : n - 1 ≤ length (drop (p + 1) w) = rw length-drop (omega arith) in
        there (frame n) e (waits_frame b n) ∙ rw (ran_skip (n - 1) (base + (p + 1)) (drop (p + 1) w) k, drop-drop (n - 1) (p + 1) w, q, r)

    pub ran_bad : says_of (read_of (drop p w)) ≡ bad → ran_at b base p w ≡ behind (notes b bad (base + p) (read_of (drop p w))) (ran_at true base (p + 1) w)
    unfolding after
    ran_bad e = there bad e (waits_bad b)
