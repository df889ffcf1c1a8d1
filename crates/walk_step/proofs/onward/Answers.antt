-- `onward`: each of its three ways is one of the definition's. Assumes nothing.
use Rattle.std.proofs.Common.{ℕ, ◌≡◌, ◌+◌, ◌-◌, ◌≤◌, ◌<◌, min, leb, refl, ap, ◌∙◌, ⊎_elim, arith, rules, le-leb}
use Rattle.std.proofs.lemmas.Bool.{lt-leb}
use Rattle.terms.specs.Cases.{less}
use Rattle.terms.specs.Paper.{pick}
use Rattle.walk_spec.specs.Onward.{onward_end, onward_sought, onward_past}
use Rattle.walk_step.proofs.onward.Goals as goal

-- so many bytes further, or the end where that lies beyond it
at_most : (p size n : ℕ) → p ≤ n → p + min size (n - p) ≡ pick (leb (p + size) n) (p + size) n
at_most p size n h =
    ⊎_elim (λ (l : n < p + size). rw (lt-leb (p + size) n l) (omega arith)) (λ (g : p + size ≤ n). rw (le-leb (p + size) n g) (omega arith)) (less n (p + size))

pub returns-then-capture-p : goal.returns-then-capture-p
returns-then-capture-p c = onward_end _ _ _ c.if-capture-p.true

pub returns-then-size-eq0 : goal.returns-then-size-eq0
returns-then-size-eq0 c = c.sought.ensures ∙ onward_sought _ _ _ c.if-size-eq0.true _ refl

pub returns : goal.returns
returns c = ap (λ (n : ℕ). c.args.p + n) c.min.ensures ∙ at_most _ _ _ (search rules) ∙ onward_past _ _ _ c.if-size-eq0.false
