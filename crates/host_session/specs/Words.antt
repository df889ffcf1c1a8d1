-- A session as a host keeps it: eight words. What a call on them answers and tells, and the words
-- after it.
use Rattle.std.specs.Prelude.{ℕ, Bool, ◌&&◌, List, [], ◌∷◌, eqb, leb, get_or}
use Rattle.terms.specs.Paper.{Paper, answer, pick}
use Rattle.rules.specs.Table.{kind_paper}
use Rattle.rules.specs.declared.Kind.{Kind as Row}
use Rattle.rules.specs.declared.Kind.TheVariants as row
use Rattle.session_spec.specs.Table.{State, new, waiting, active, leaving, over, Kind, none, S001, S002, S003, P002, Event}
use Rattle.session_spec.specs.Calls.{Line, Answer, one, answer_to, next_of}
use Rattle.session.specs.Arrivals.{event_in, length_in}

-- THE WORDS: state, our next number, the next frame's, the last time, when we last sent, when a
-- frame was last taken, the interval; and 0

abbrev pub state_number : State → ℕ
state_number new = 0
state_number waiting = 1
state_number active = 2
state_number leaving = 3
state_number over = 4

abbrev pub words_of : Line → List ℕ
words_of l = state_number l.state ∷ l.sending ∷ l.expecting ∷ l.last ∷ l.sent ∷ l.heard ∷ l.interval ∷ 0 ∷ []

unfoldable pub state_numbered : ℕ → State
state_numbered n = pick (eqb n 0) new (pick (eqb n 1) waiting (pick (eqb n 2) active (pick (eqb n 3) leaving over)))

-- the first word is a state's, and the last is 0
abbrev pub formed : List ℕ → Bool
formed w = leb (get_or w 0 0) 4 && eqb (get_or w 7 0) 0

-- the session that eight words stand for, sound or not; other words stand for one whose next number
-- is 0, which no state allows: 13 (`unformed` in proofs/)
unfoldable pub line_in : List ℕ → Line
line_in w =
    record {
      state = state_numbered (get_or w 0 0);
      sending = pick (formed w) (get_or w 1 0) 0;
      expecting = get_or w 2 0;
      last = get_or w 3 0;
      sent = get_or w 4 0;
      heard = get_or w 5 0;
      interval = get_or w 6 0;
    }

-- WHAT IS TOLD: the MsgType to send as document 01's table has its letters, 0 for nothing; its
-- MsgSeqNum; 1 where the line was called dead

abbrev pub letters : Row → ℕ
letters k = get_or (kind_paper k).values 0 0

abbrev pub type_number : Kind → ℕ
type_number none = 0
type_number S001 = letters row.S001
type_number S002 = letters row.S002
type_number S003 = letters row.S003
type_number P002 = letters row.P002

abbrev pub paper_of : Answer → Paper
paper_of a = answer a.number (type_number a.kind ∷ a.seq ∷ one a.dead ∷ [])

abbrev pub arrival_paper : Answer → ℕ → Paper
arrival_paper a length = answer a.number (type_number a.kind ∷ a.seq ∷ one a.dead ∷ length ∷ [])

-- A CALL on the words w: what it answers and tells, and the words after it, which a refusal leaves
-- as they were

unfoldable pub call_told : List ℕ → ℕ → Event → Paper
call_told w time e = paper_of (answer_to (line_in w) time e)

unfoldable pub arrival_told : List ℕ → ℕ → List ℕ → Paper
arrival_told w time s = arrival_paper (answer_to (line_in w) time (event_in s)) (length_in s)

unfoldable pub words_after : List ℕ → ℕ → Event → List ℕ
words_after w time e = pick (eqb (answer_to (line_in w) time e).number 0) (words_of (next_of (line_in w) time e)) w
