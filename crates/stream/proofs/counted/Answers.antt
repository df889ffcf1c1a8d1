-- `counted`: the reading is a frame or refused. Assumes nothing.
use mathlib.Core.Path.{◌≡◌, refl}
use Prim.Native.Nat.{◌+◌}
use Rattle.std.specs.Prelude.{⊤, Result, Ok, Err, is_ok, is_err}
use Rattle.std.specs.Int.{from_bool}
use Rattle.terms.specs.Refusals.{refusal_not_0}
use Rattle.terms.specs.Verdicts.{verdict_number}
use Rattle.terms.specs.declared.Refusal.{Refusal}
use Rattle.ledger.specs.declared.Ledger.{Ledger}
use Rattle.walk_spec.specs.Walk.{accepts, refuses}
use Rattle.stream_spec.specs.declared.Tally.{Tally}
use Rattle.stream_spec.specs.Tally.{tally_with}
use Rattle.stream.proofs.counted.Goals as goal

one_more : (t : Tally) (a : Result ⊤ Refusal) (l : Ledger) → ◌≡◌ {A = Tally} (record { frames = t.frames + from_bool (is_ok a); refused = t.refused + from_bool (is_err a); ledger = l }) (tally_with t (verdict_number a) l)
unfolding tally_with accepts refuses
one_more t (Ok u) l = refl
one_more t (Err w) l = rw (refusal_not_0 w)

pub returns : goal.returns
returns c = rw (c.from.ensures, c.from-2.ensures, c.is_ok.ensures.value, c.is_err.ensures.value) (one_more c.args.tally c.args.answer c.args.after)
