-- Fields in turn, each told unless it keeps its rule: what is told is the first. Assumes nothing.
use Rattle.std.specs.Prelude.{◌≡◌, refl, Bool, true, false, Option, Some, None}
use Rattle.std.proofs.Common.{ap}
use Rattle.std.specs.Option.{option_or, is_some}
use Rattle.terms.specs.Cases.{clash}
use Rattle.terms.specs.Paper.{pick}
use Rattle.broken.specs.declared.Broken.{Broken}

pub or_unless : (t : Bool) (x : Broken) (r : Option Broken) → option_or (pick t None (Some x)) r ≡ pick t r (Some x)
or_unless true x r = refl
or_unless false x r = refl

pub or_assoc : (a b c : Option Broken) → option_or (option_or a b) c ≡ option_or a (option_or b c)
or_assoc (Some x) b c = refl
or_assoc None b c = refl

pub some_is : (x : Option Broken) → is_some x ≡ true → x ≡ None → ⊥
some_is x e n = clash e (ap is_some n)

pub none_is : (x : Option Broken) → is_some x ≡ false → x ≡ None
none_is (Some y) e = absurd (clash refl e)
none_is None e = refl
