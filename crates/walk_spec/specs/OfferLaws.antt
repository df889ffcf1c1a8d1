-- Which calls a reading makes, from the facts that lead to them.
use Rattle.std.specs.Prelude.{◌≡◌, []}
use Rattle.std.proofs.Common.{eq-eqb, ne_eqb}
use Rattle.rules.specs.Table.{kind_of}
use Rattle.rules.specs.declared.Kind.{Kind}
use Rattle.reading.specs.declared.Seen.{Seen}
use Rattle.reading.specs.Seen.{seen_number}
use Rattle.walk_spec.specs.Offers.{calls_for, calls_by}

module _ (x : Seen) where
  -- a refused reading makes no call
  pub calls_refused : (seen_number x ≡ 0 → ⊥) → calls_by x ≡ []
  unfolding calls_by
  calls_refused ne = rw (ne_eqb (seen_number x) 0 ne)

  -- an accepted one makes those of its type
  pub calls_of_lem : (k : Kind) → seen_number x ≡ 0 → k ≡ kind_of x.msg_type → calls_by x ≡ calls_for k x.channel.0 x.tick.0
  unfolding calls_by
  calls_of_lem k z e = rw (eq-eqb (seen_number x) 0 z, e)
