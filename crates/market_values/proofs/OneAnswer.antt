-- For each public function: two answers that its promise allows are equal, so are two later
-- contents of the buffer that it is lent,
-- and a refusal leaves that as it was. Assumes nothing.
use Prim.Native.Nat.{ℕ}
use mathlib.Core.Path.{◌≡◌, sym, ap, ◌∙◌}
use mathlib.Core.List.{List}
use borrow.Author.Tests.{ne_eqb}
use Rattle.terms.specs.Paper.{Paper}
use Rattle.terms.specs.OneAnswer.{OneAnswer}
use Rattle.terms.specs.OneBuffer.{OneBuffer, RefusedKeeps}
use Rattle.std.specs.Prelude.{Result, Err}
use Rattle.market.specs.declared.Wrong.{Wrong}
use Rattle.market.specs.Papers.{fault_number, fault_some, verdict_paper}
use Rattle.market.specs.OneFault.{verdict_one}
use Rattle.market_spec.specs.FileBytes.{laid_if0}
use Rattle.market_values.proofs.values.Reads as values
use Rattle.market_values.proofs.values.Kinds as values-kinds
use Rattle.market_values.proofs.written.Reads as written
use Rattle.market_values.proofs.written.Kinds as written-kinds

-- an answer that is a refusal
abbrev pub Refuses : Result ℕ Wrong → Type 0
Refuses x = (w : Wrong) × (x ≡ Err w)

-- it leaves the buffer
kept : (x : Result ℕ Wrong) (p : Paper) (b d e : List ℕ) → Refuses x → verdict_paper x ≡ p → e ≡ laid_if0 p b d → e ≡ d
kept x p b d e (f, r) h l =
    let z : p.number ≡ fault_number f.fault = ap (λ (y : Paper). y.number) (sym h ∙ ap verdict_paper r) in
    l ∙ rw (ne_eqb p.number 0 (λ w. fault_some f.fault (sym z ∙ w)))

pub values_one_answer : OneAnswer _ values-kinds.ps values-kinds.r values.Post
values_one_answer κs a x y s t p q = verdict_one x y (p.0 ∙ sym q.0)

pub values_one_buffer : OneBuffer _ values-kinds.ps values-kinds.r values.Post (λ κs s. s.1.0.now)
values_one_buffer κs a x y s t p q = p.1 ∙ sym q.1

pub values_refused_keeps : RefusedKeeps _ values-kinds.ps values-kinds.r values.Post (λ κs x. Refuses x) (λ κs a. a.1.0.now) (λ κs s. s.1.0.now)
values_refused_keeps κs a x s p w = kept x _ _ _ _ w p.0 p.1

pub written_one_answer : OneAnswer _ written-kinds.ps written-kinds.r written.Post
written_one_answer κs a x y s t p q = verdict_one x y (p.0 ∙ sym q.0)

pub written_one_buffer : OneBuffer _ written-kinds.ps written-kinds.r written.Post (λ κs s. s.1.0.now)
written_one_buffer κs a x y s t p q = p.1.0 ∙ sym q.1.0

pub written_refused_keeps : RefusedKeeps _ written-kinds.ps written-kinds.r written.Post (λ κs x. Refuses x) (λ κs a. a.1.0.now) (λ κs s. s.1.0.now)
written_refused_keeps κs a x s p w = kept x _ _ _ _ w p.0 p.1.0
