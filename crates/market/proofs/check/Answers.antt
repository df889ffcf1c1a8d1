-- `check`: 47 first, then the header, then the lines. Assumes nothing.
use native.Mathlib.Omega.{arith}
use mathlib.Core.Path.{sym, ◌∙◌}
use Rattle.std.proofs.lemmas.Result.{err_from_is_err_and}
use Rattle.market_columns.specs.Columns.{header}
use Rattle.market_spec.proofs.Files.{line_long}
use Rattle.market_spec.specs.Types.{file_large, file_header, file_lines}
use Rattle.market.specs.Papers.{fault_some}
use Rattle.market.proofs.check.Goals as goal

pub returns-then-file-gt65536 : goal.returns-then-file-gt65536
returns-then-file-gt65536 c = sym (file_large _ c.if-file-gt65536.true)

pub returns-in_err-p : goal.returns-in_err-p
returns-in_err-p c = let p = err_from_is_err_and c.from_residual.result c.from_residual.ensures.1 in rw (p.1, p.2) (sym (file_header _ _ _ c.if-file-gt65536.false (fault_some c.in_err-p.field-0.0.fault) (sym c.in_err-p.ensures)))

pub lines_at-requires : goal.lines_at-requires
lines_at-requires c = (line_long 41 header 0 _ _ (λ z. omega arith) (omega arith) (sym c.in_ok-p.ensures)).1

pub returns : goal.returns
returns c = c.lines_at.ensures ∙ sym (file_lines _ _ c.if-file-gt65536.false (sym c.in_ok-p.ensures))
