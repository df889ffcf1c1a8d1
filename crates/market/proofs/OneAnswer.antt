-- For each public function: two answers that its promise allows are equal. Assumes nothing.
use Prim.Native.Nat.{ℕ, ◌≤◌}
use Rattle.std.proofs.Math.Bridge.{le_prop}
use mathlib.Core.Path.{◌≡◌, sym, ap, subst, ◌∙◌}
use Rattle.terms.specs.OneAnswer.{OneAnswer}
use Rattle.market.specs.declared.Rows.{Rows}
use Rattle.market.specs.OneFault.{verdict_one}
use Rattle.market.specs.Starts.{start_one}
use Rattle.market.proofs.U64FromFault.from.Reads as number
use Rattle.market.proofs.U64FromFault.from.Kinds as number-kinds
use Rattle.market.proofs.due.Reads as due
use Rattle.market.proofs.due.Kinds as due-kinds
use Rattle.market.proofs.line_type.Reads as line-type
use Rattle.market.proofs.line_type.Kinds as line-type-kinds
use Rattle.market.proofs.LineType.rows.Reads as rows
use Rattle.market.proofs.LineType.rows.Kinds as rows-kinds
use Rattle.market.proofs.rows_of.Reads as rows_of_lem
use Rattle.market.proofs.rows_of.Kinds as rows-of-kinds
use Rattle.market.proofs.check.Reads as check
use Rattle.market.proofs.check.Kinds as check-kinds

pub U64FromFault_from_one_answer : OneAnswer _ number-kinds.ps number-kinds.r number.Post
U64FromFault_from_one_answer κs a x y s t p q = p ∙ sym q

pub due_one_answer : OneAnswer _ due-kinds.ps due-kinds.r due.Post
due_one_answer κs a x y s t p q = p ∙ sym q

pub line_type_one_answer : OneAnswer _ line-type-kinds.ps line-type-kinds.r line-type.Post
line_type_one_answer κs a x y s t p q = start_one x y (p ∙ sym q)

rows_one : (x y : Rows) → x.first ≡ y.first → x.last ≡ y.last → x ≡ y
rows_one x y a b =
    let rows : (f l : ℕ) → l ≤ 58 → Rows = λ f l w. record { first = f; last = l; within = w } in
    ap (λ (f : ℕ). rows f x.last x.within) a
    ∙ subst (λ (l : ℕ). (w : l ≤ 58) → rows y.first x.last x.within ≡ rows y.first l w) b (λ w. ap (rows y.first x.last) (le_prop x.within w)) y.within

pub LineType_rows_one_answer : OneAnswer _ rows-kinds.ps rows-kinds.r rows.Post
LineType_rows_one_answer κs a x y s t p q = rows_one x y (p.1.0 ∙ sym q.1.0) (p.1.1 ∙ sym q.1.1)

pub rows_of_one_answer : OneAnswer _ rows-of-kinds.ps rows-of-kinds.r rows_of_lem.Post
rows_of_one_answer κs a x y s t p q = rows_one x y (p.1.1.0 ∙ sym q.1.1.0) (p.1.1.1 ∙ sym q.1.1.1)

pub check_one_answer : OneAnswer _ check-kinds.ps check-kinds.r check.Post
check_one_answer κs a x y s t p q = verdict_one x y (p ∙ sym q)
