-- Each private span of a frame is filled with spaces.
use Rattle.std.specs.Prelude.{ℕ, refl, List, length}
use Rattle.rules.specs.declared.Kind.{Kind}
use Rattle.rules.specs.declared.Kind.TheVariants.{S001, S002, S003, P001, P002, M101, M102, M201, Unknown}
use Rattle.rules.specs.declared.Layout.{Layout}
use Rattle.rules.specs.declared.Layout.TheVariants.{Order, Trade, Other}
use Rattle.private.specs.Private.{tail_of, tail_spans, private_of}
use Rattle.private.specs.Paint.{Filled}

tail_filled : (l : Layout) (n : ℕ) → Filled 0x20 (tail_spans l n)
tail_filled Order n = (refl, (refl, (refl, refl)))
tail_filled Trade n = refl
tail_filled Other n = (refl, refl)

pub private_filled : (k : Kind) (b : List ℕ) → Filled 0x20 (private_of k b)
private_filled S001 b = (refl, (refl, refl))
private_filled S002 b = (refl, refl)
private_filled S003 b = refl
private_filled P001 b = refl
private_filled P002 b = (refl, refl)
private_filled M101 b = refl
private_filled M102 b = refl
private_filled M201 b = tail_filled (tail_of b) (length b)
private_filled Unknown b = refl
