use Rattle.std.proofs.Common.{◌≡◌, ◌+◌, ◌*◌, ◌∙◌, ap, sym, arith, zero-add, List, ℕ, leb, length}
use Rattle.record.specs.declared.Record.{Record}
use Rattle.record.specs.Record.{record_at}
use Rattle.listing_text.specs.Text.{line_of}
use Rattle.listing_text.specs.Laws.{roomy_fits}
use Rattle.listing_text.specs.Rest.{rest_first, rest_end, rest_lacks, rest_fits}
use Rattle.listing_text.proofs.takes.Goals as goal
use Rattle.listing_text.proofs.takes.Goals.{After-line_len-n}

-- the length that the code has of the next line
long : (c : goal.After-line_len-n) → c.line_len-n.result ≡ length (line_of (record_at (64 * c.loop-k.k) c.args.records.now))
long c = c.line_len-n.ensures ∙ ap (λ (r : Record). length (line_of r)) c.record_at.ensures

pub returns-then-roomy : goal.returns-then-roomy
returns-then-roomy c = sym (roomy_fits _ (λ i. omega (arith, c.type_inv.records i)) _ _ (sym c.roomy.ensures ∙ c.if-roomy.true))

pub loop-k-init : goal.loop-k-init
loop-k-init c = ap (λ (x : List ℕ). leb (length x + c.args.end) c.args.room) (rest_first c.args.records.now)

pub returns-then-left-n : goal.returns-then-left-n
returns-then-left-n c = sym (rest_lacks _ _ _ _ _ c.loop-k-test.true (long (goal.at.returns-then-left-n c).After-line_len-n) c.if-left-n.true) ∙ c.loop-k.invariant

pub loop-k-preserved : goal.loop-k-preserved
loop-k-preserved c = rest_fits _ _ _ _ _ c.loop-k-test.true (long (goal.at.loop-k-preserved c).After-line_len-n) c.if-left-n.false ∙ c.loop-k.invariant

pub returns : goal.returns
returns c =
    ap (λ (n : ℕ). leb n c.loop-k.left) (sym (zero-add c.args.end))
    ∙ ap (λ (x : List ℕ). leb (length x + c.args.end) c.loop-k.left) (sym (rest_end _ c.loop-k.k (omega arith))) ∙ c.loop-k.invariant
