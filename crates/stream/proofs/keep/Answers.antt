-- `keep`: the first bytes are cleared, and others laid there. Assumes nothing.
use Rattle.std.specs.Prelude.{ℕ, ◌-◌, ◌≡◌, replicate}
use Rattle.std.proofs.Math.Path.{sym}
use Rattle.std.proofs.Common.{ap, ◌∙◌, arith}
use Rattle.octets.specs.Octets.{laid}
use Rattle.stream.specs.StoreLaws.{cleared, kept_instead}
use Rattle.stream.proofs.keep.Goals as goal

pub returns : goal.returns
returns c =
    let s = c.args in
    let whole : s.n - 0 ≡ s.n = omega arith in
    let blank = cleared s.n s.kept.now _ c.requires.0 (c.fill.ensures.after (λ y q. q)) in
    kept_instead s.n s.rest.now s.kept.now _ _ c.requires.0 c.requires.1 (blank ∙ sym (ap (λ (n : ℕ). laid 0 (replicate {A = ℕ} n 0) s.kept.now) whole)) c.lay.ensures.1
