-- A row of calls on an empty table, and what the caller sees of it: each call with its answer.
use Rattle.std.specs.Prelude.{List, [], ◌∷◌}
use Rattle.terms.specs.Paper.{Paper}
use Rattle.channels_spec.specs.Table.{Table, empty}
use Rattle.channels_spec.specs.Calls.{Call, answer_to, next_of}

-- no call, or some calls and then one more
infixl 20 ◌▸◌
pub data Calls : Type 0 where
  none : Calls
  ◌▸◌ : Calls → Call → Calls

abbrev pub after : Calls → Table
after none = empty
after (calls ▸ call) = next_of (after calls) call

-- the calls with their answers, and nothing else: no table is seen in a history
infixl 20 ◌▸◌⇒◌
pub data History : Type 0 where
  start : History
  ◌▸◌⇒◌ : History → Call → Paper → History

unfoldable pub trace : Calls → History
trace none = start
trace (calls ▸ call) = trace calls ▸ call ⇒ answer_to (after calls) call

-- some calls, and then these
abbrev pub followed : Calls → List Call → Calls
followed calls [] = calls
followed calls (call ∷ more) = followed (calls ▸ call) more
