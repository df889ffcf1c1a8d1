-- `keep`: each part of the stream but for its store is its word. Assumes nothing.
use mathlib.Core.Path.{◌≡◌, refl}
use mathlib.Core.Bool.{Bool, true, false}
use Rattle.std.specs.Int.{from_bool}
use Rattle.host_stream_spec.specs.Lent.{word_of, state_of}
use Rattle.host_stream.proofs.keep.Goals as goal

flag : (b : Bool) → from_bool b ≡ word_of b
flag true = refl
flag false = refl

pub returns : goal.returns
unfolding state_of
returns c = λ kept. rw (c.from.ensures, c.from-2.ensures, flag c.args.next.seeking, flag c.args.next.closed, c.state_of.ensures)
