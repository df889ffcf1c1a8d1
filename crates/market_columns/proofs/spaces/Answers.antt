-- `spaces`: the first byte that is no space, or the end. Assumes nothing.
use Rattle.std.proofs.Common.{rules, ◌≡◌, sym, ◌∙◌}
use Rattle.std.proofs.lemmas.Iterator.{YieldsList-from_slice, IsFirst-from_position, index_from_first}
use borrow.Author.Tests.{tests}
use native.Mathlib.Omega.{arith}
use Rattle.market_columns.specs.Numbers.{spaces}
use Rattle.market_columns.specs.Pieces.{spaces_nil, spaces_none, spaces_more, spaces_most}
use Rattle.market_columns.proofs.spaces.Goals as goal

counted : (c : goal.After-unwrap_or) → c.unwrap_or.result ≡ spaces c.args.t.now
counted c = c.unwrap_or.ensures ∙ sym (index_from_first spaces (λ b. b ≡ 32 → ⊥) (λ b. b ≡ 32) spaces_nil (λ b t h. spaces_none b t h) (λ b t e. spaces_more b t e) c.args.t.now c.position.result (IsFirst-from_position _ _ _ (λ b. b ≡ 32 → ⊥) (λ b. b ≡ 32) c.position.ensures.ran (YieldsList-from_slice c.args.t.now cc) (λ x q k. search (rules, tests)) (λ x q k. search (rules, tests))))

pub returns : goal.returns
returns c = (counted c, omega (arith, counted c, spaces_most c.args.t.now))
