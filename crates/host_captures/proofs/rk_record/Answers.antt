-- `rk_record`: 1, or the numbers of the record that was read. Assumes nothing.
use native.Mathlib.Omega.{arith}
use borrow.Author.Tests.{lt-ltb, le-ltb}
use Rattle.host_words.specs.Told.{tells_done, tells_refused}
use Rattle.host_captures.specs.Captures.{record_told, record_told_lem}
use Rattle.host_captures.proofs.rk_record.Goals as goal

pub returns-then-bytes-lt64 : goal.returns-then-bytes-lt64
unfolding record_told
returns-then-bytes-lt64 c = tells_refused _ _ 1 (rw (lt-ltb _ _ c.if-bytes-lt64.true)) (λ z. omega arith)

pub returns : goal.returns
returns c =
    let r = c in
    rw (c.value.ensures, c.value-2.ensures, c.value-3.ensures, c.value-4.ensures, c.value-5.ensures)
    (tells_done _ _ _ (record_told_lem _ r.record_at-read.result r.record_at-read.ensures (le-ltb _ _ r.if-bytes-lt64.false)))
