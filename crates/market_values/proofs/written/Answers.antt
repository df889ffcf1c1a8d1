-- `written`: as judging answers; then 47, then 8, or the file laid. Assumes nothing.
use native.Mathlib.Omega.{arith}
use lib.ListN.{length}
use Rattle.std.proofs.lemmas.Result.{err_from_is_err_and}
use Rattle.market.specs.Papers.{fault_some}
use Rattle.market_spec.specs.WrittenAgain.{written_wrong, written_large, written_lacks, written_fine}
use Rattle.market_values.specs.Giving.{not_laid, is_laid, with_bytes}
use Rattle.market_values.specs.Writing.{judged_bad, judged_good, good_file, good_large}
use Rattle.market_values.proofs.written.Goals as goal

pub returns-in_err-good : goal.returns-in_err-good
returns-in_err-good c =
    let p = err_from_is_err_and c.from_residual.result c.from_residual.ensures.1 in
    let z = fault_some c.in_err-good.field-0.0.fault in
    with_bytes (λ i. (c.type_inv.values i).fits) (rw (p.1, p.2) (not_laid _ _ _ _ _ z (written_wrong _ _ _ _ z (judged_bad _ _ _ z c.in_err-good.ensures))))

pub returns-then-good-gt65536 : goal.returns-then-good-gt65536
returns-then-good-gt65536 c =
    let j = judged_good _ _ _ c.in_ok-good.ensures in
    with_bytes (λ i. (c.type_inv.values i).fits) (not_laid _ 47 0 _ _ (λ z. omega arith) (written_large _ _ j.taken (good_large _ _ _ j c.if-good-gt65536.true)))

pub returns-then-out-good : goal.returns-then-out-good
returns-then-out-good c =
    let j = judged_good _ _ _ c.in_ok-good.ensures in
    let f = good_file _ _ _ j c.if-good-gt65536.false in
    with_bytes (λ i. (c.type_inv.values i).fits) (not_laid _ 8 0 _ _ (λ z. omega arith) (written_lacks _ _ j.taken (rw f.1 c.if-good-gt65536.false) (rw f.1 c.if-out-good.true)))

pub put_file-requires : goal.put_file-requires
put_file-requires c = ((good_file _ _ _ (judged_good _ _ _ c.in_ok-good.ensures) c.if-good-gt65536.false).0, c.if-out-good.false)

pub returns : goal.returns
returns c =
    let j = judged_good _ _ _ c.in_ok-good.ensures in
    let f = good_file _ _ _ j c.if-good-gt65536.false in
    with_bytes (λ i. (c.type_inv.values i).fits) (is_laid _ _ _ _ _ (rw f.1 at (written_fine (length c.args.out.now) c.args.values.now j.taken (rw f.1 c.if-good-gt65536.false) (rw f.1 c.if-out-good.false))) c.put_file.ensures)
