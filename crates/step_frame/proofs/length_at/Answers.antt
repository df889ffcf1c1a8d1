-- `length_at`: the ten bytes are the window, and each return is one outcome of its check.
-- Assumes nothing.
use Rattle.step_frame.proofs.Searches.{window_is, run_is, plain_is}
use Rattle.step_spec.specs.FrontLaws.{run_le}
use Rattle.step_spec.proofs.HeadLaws.{length_many, length_zero, length_more, length_open, length_none, length_good}
use Rattle.step_spec.specs.Frame.{body_start, body_length, window, digit_run, length_check}
use Rattle.terms.specs.Paper.{Paper}
use Rattle.terms.specs.Cases.{less, clash}
use Rattle.terms.specs.Checks.{else_on, else_is}
use Rattle.digits.specs.Digits.{decimal_paper, is_digit, plain}
use Rattle.std.specs.List.{starts_with, take_while}
use Rattle.std.specs.Prelude.{Result, Err, Option}
use Rattle.std.specs.Option.{ok_or}
use Rattle.step_frame.specs.Papers.{step_written_paper}
use Rattle.step_frame.specs.declared.StepRefusal.{StepRefusal}
use Rattle.step_frame.specs.declared.StepRefusal.TheVariants.{Length}
use Rattle.step_spec.specs.HeadLaws.{window_length}
use borrow.Author.Tests.{lt-ltb, le-ltb}
use borrow.Author.Rules.{rules}
use lib.Dec.{ltb, eqb}
use lib.ListN.{length, drop, get_or}
use mathlib.Core.List.{List, [], ◌∷◌}
use mathlib.Core.Bool.{Bool, true, false, not, ◌&&◌, ◌||◌}
use mathlib.Core.Logic.{⊎_elim}
use mathlib.Core.Path.{◌≡◌, refl, sym, ap, ◌∙◌}
use Prim.Native.Nat.{ℕ, ◌+◌, ◌≤◌, ◌<◌}
use native.Mathlib.Omega.{arith}
use Rattle.step_frame.proofs.length_at.Goals as goal

run_of : (k : ℕ) (w : List ℕ) → k ≡ length (take_while is_digit w) → digit_run w ≡ k
run_of k w e = sym (run_is w) ∙ sym e

below : (k : ℕ) (w : List ℕ) → digit_run w ≡ k → (k ≡ length w → ⊥) → k < length w
below k w r n = omega (arith, run_le w, r, n)

-- the test of the count of digits and of the first
module _ {t : Bool} (k : ℕ) (w : List ℕ) (r : digit_run w ≡ k) (s : t ≡ starts_with eqb w (48 ∷ [])) where
  needless : not (ltb 1 k && t) ≡ plain k (get_or w 0 0)
  needless = rw s (plain_is k w r)

  good : (ltb 9 k || (ltb 1 k && t)) ≡ false → (k ≤ 9) × (plain k (get_or w 0 0) ≡ true)
  good h =
      ⊎_elim (λ (l : 9 < k). absurd (clash (rw (lt-ltb 9 k l)) h))
      (λ (l : k ≤ 9). (l, sym needless ∙ ap not (rw (le-ltb 9 k l) at h)))
      (less 9 k)

  bad : (ltb 9 k || (ltb 1 k && t)) ≡ true → length_check w ≡ 24
  bad h =
      ⊎_elim (λ (l : 9 < k). length_many w k r l)
      (λ (l : k ≤ 9). length_zero w k r (sym needless ∙ ap not (rw (le-ltb 9 k l) at h)))
      (less 9 k)

pub returns-then-k-starts_with : goal.returns-then-k-starts_with
returns-then-k-starts_with c =
    let a = c.args in
    let w = window (drop a.at a.bytes.now) in
    let e = window_is a.bytes.now a.at _ c.requires c.min.ensures in
    let r : digit_run w ≡ c.digit_run-k.result = run_of _ w (rw e at c.digit_run-k.ensures) in
    sym (else_is _ _ 24 (bad _ w r (rw e at c.starts_with.ensures.value) c.if-k-starts_with.true) (λ e. omega arith))

pub returns-then-k-window : goal.returns-then-k-window
returns-then-k-window c =
    let a = c.args in
    let w = window (drop a.at a.bytes.now) in
    let e = window_is a.bytes.now a.at _ c.requires c.min.ensures in
    let r : digit_run w ≡ c.digit_run-k.result = run_of _ w (rw e at c.digit_run-k.ensures) in
    let g = good _ w r (rw e at c.starts_with.ensures.value) c.if-k-starts_with.false in
    sym (else_is _ _ 1 (length_more w _ r g.0 g.1 (omega (arith, rw e at c.if-k-window.true))) (λ e. omega arith))

pub returns-then-window-k-ne-SOH : goal.returns-then-window-k-ne-SOH
returns-then-window-k-ne-SOH c =
    let a = c.args in
    let w = window (drop a.at a.bytes.now) in
    let e = window_is a.bytes.now a.at _ c.requires c.min.ensures in
    let r : digit_run w ≡ c.digit_run-k.result = run_of _ w (rw e at c.digit_run-k.ensures) in
    let g = good _ w r (rw e at c.starts_with.ensures.value) c.if-k-starts_with.false in
    let l = below _ w r (λ q. c.if-k-window.false (rw e q)) in
    sym (else_is _ _ 24 (length_open w _ r g.0 g.1 l (rw e at c.if-window-k-ne-SOH.true)) (λ e. omega arith))

pub returns-in_err-n : goal.returns-in_err-n
returns-in_err-n c =
    let a = c.args in
    let w = window (drop a.at a.bytes.now) in
    let e = window_is a.bytes.now a.at _ c.requires c.min.ensures in
    let r : digit_run w ≡ c.digit_run-k.result = run_of _ w (rw e at c.digit_run-k.ensures) in
    let g = good _ w r (rw e at c.starts_with.ensures.value) c.if-k-starts_with.false in
    let l = below _ w r (λ q. c.if-k-window.false (rw e q)) in
    let q = rw e at c.if-window-k-ne-SOH.false in
    let d = c.in_err-n.ensures.ok_part in
    let v : c.from_residual.result ≡ Err c.in_err-n.field-0.0 = search rules in
    let u : ◌≡◌ {A = Result ℕ StepRefusal} (Err c.in_err-n.field-0.0) (Err Length) = c.in_err-n.ensures.value ∙ ap (λ (o : Option ℕ). ok_or {E = StepRefusal} o Length) d in
    rw v (ap (λ (r : Result ℕ StepRefusal). (step_written_paper r).number) u ∙ sym (else_is _ _ 24 (length_none w _ r g.0 g.1 l q (sym (rw e at c.decimal_at.ensures) ∙ ap decimal_paper d)) (λ e. omega arith)))

pub measured-requires : goal.measured-requires
unfolding body_start body_length
measured-requires c =
    let a = c.args in
    let w = window (drop a.at a.bytes.now) in
    let e = window_is a.bytes.now a.at _ c.requires c.min.ensures in
    let r : digit_run w ≡ c.digit_run-k.result = run_of _ w (rw e at c.digit_run-k.ensures) in
    let g = good _ w r (rw e at c.starts_with.ensures.value) c.if-k-starts_with.false in
    let l = below _ w r (λ q. c.if-k-window.false (rw e q)) in
    let n = sym (rw e at c.decimal_at.ensures) ∙ ap decimal_paper c.in_ok-n.ensures.ok_part in
    (omega (arith, l, window_length a.bytes.now a.at c.requires _ refl), omega (arith, g.0), sym (ap (λ (n : ℕ). 14 + n) r), rw r (sym (ap (λ (p : Paper). get_or p.values 0 0) n)))

pub returns : goal.returns
returns c =
    let a = c.args in
    let w = window (drop a.at a.bytes.now) in
    let e = window_is a.bytes.now a.at _ c.requires c.min.ensures in
    let r : digit_run w ≡ c.digit_run-k.result = run_of _ w (rw e at c.digit_run-k.ensures) in
    let g = good _ w r (rw e at c.starts_with.ensures.value) c.if-k-starts_with.false in
    let l = below _ w r (λ q. c.if-k-window.false (rw e q)) in
    let q = rw e at c.if-window-k-ne-SOH.false in
    let n = sym (rw e at c.decimal_at.ensures) ∙ ap decimal_paper c.in_ok-n.ensures.ok_part in
    rw (else_on _ _ (length_good w _ r g.0 g.1 l q c.in_ok-n.n n)) c.measured.ensures
