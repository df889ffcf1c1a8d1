-- For each public function: two answers that its promise allows are equal; where it is lent a
-- buffer, so are two later contents of it,
-- and a refusal leaves it as it was. Assumes nothing.
use Prim.Native.Nat.{ℕ}
use mathlib.Core.Path.{◌≡◌, sym, ap, ◌∙◌}
use mathlib.Core.List.{List}
use borrow.Author.Tests.{ne_eqb}
use Rattle.terms.specs.Paper.{Paper}
use Rattle.terms.specs.OneAnswer.{OneAnswer}
use Rattle.terms.specs.OneBuffer.{OneBuffer, RefusedKeeps}
use Rattle.market_spec.specs.FileBytes.{laid_if0}
use Rattle.host_market.specs.declared.Finding.{Finding}
use Rattle.host_market.specs.Findings.{finding_paper, finding_one}
use Rattle.host_market.proofs.FindingFromResultUsizeWrong.from.Reads as finding
use Rattle.host_market.proofs.FindingFromResultUsizeWrong.from.Kinds as finding-kinds
use Rattle.host_market.proofs.rk_market_check.Reads as rk-market-check
use Rattle.host_market.proofs.rk_market_check.Kinds as rk-market-check-kinds
use Rattle.host_market.proofs.rk_market_values.Reads as rk-market-values
use Rattle.host_market.proofs.rk_market_values.Kinds as rk-market-values-kinds
use Rattle.host_market.proofs.rk_market_write.Reads as rk-market-write
use Rattle.host_market.proofs.rk_market_write.Kinds as rk-market-write-kinds

-- any number but 0 is a refusal
abbrev pub Refuses : Finding → Type 0
Refuses x = x.number ≡ 0 → ⊥

kept : (x : Finding) (p : Paper) (b d e : List ℕ) → Refuses x → finding_paper x ≡ p → e ≡ laid_if0 p b d → e ≡ d
kept x p b d e r h l = l ∙ rw (ne_eqb p.number 0 (λ z. r (ap (λ (y : Paper). y.number) h ∙ z)))

pub FindingFromResultUsizeWrong_from_one_answer : OneAnswer _ finding-kinds.ps finding-kinds.r finding.Post
FindingFromResultUsizeWrong_from_one_answer κs a x y s t p q = finding_one x y (p ∙ sym q)

pub rk_market_check_one_answer : OneAnswer _ rk-market-check-kinds.ps rk-market-check-kinds.r rk-market-check.Post
rk_market_check_one_answer κs a x y s t p q = finding_one x y (p ∙ sym q)

pub rk_market_values_one_answer : OneAnswer _ rk-market-values-kinds.ps rk-market-values-kinds.r rk-market-values.Post
rk_market_values_one_answer κs a x y s t p q = finding_one x y (p.0 ∙ sym q.0)

pub rk_market_values_one_buffer : OneBuffer _ rk-market-values-kinds.ps rk-market-values-kinds.r rk-market-values.Post (λ κs s. s.1.0.now)
rk_market_values_one_buffer κs a x y s t p q = p.1 ∙ sym q.1

pub rk_market_values_refused_keeps : RefusedKeeps _ rk-market-values-kinds.ps rk-market-values-kinds.r rk-market-values.Post (λ κs x. Refuses x) (λ κs a. a.1.0.now) (λ κs s. s.1.0.now)
rk_market_values_refused_keeps κs a x s p w = kept x _ _ _ _ w p.0 p.1

pub rk_market_write_one_answer : OneAnswer _ rk-market-write-kinds.ps rk-market-write-kinds.r rk-market-write.Post
rk_market_write_one_answer κs a x y s t p q = finding_one x y (p.0 ∙ sym q.0)

pub rk_market_write_one_buffer : OneBuffer _ rk-market-write-kinds.ps rk-market-write-kinds.r rk-market-write.Post (λ κs s. s.1.0.now)
rk_market_write_one_buffer κs a x y s t p q = p.1 ∙ sym q.1

pub rk_market_write_refused_keeps : RefusedKeeps _ rk-market-write-kinds.ps rk-market-write-kinds.r rk-market-write.Post (λ κs x. Refuses x) (λ κs a. a.1.0.now) (λ κs s. s.1.0.now)
rk_market_write_refused_keeps κs a x s p w = kept x _ _ _ _ w p.0 p.1
