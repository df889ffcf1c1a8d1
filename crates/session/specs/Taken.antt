-- The commonest call: an ordinary frame, neither a logon nor a logout, that a live line takes.
use Rattle.std.specs.Prelude.{ℕ, ◌+◌, Bool, true, false, ◌&&◌, ◌||◌, not}
use Rattle.session_spec.specs.Table.{Event, Begin, Time, Leave, Ask, Logon, Logout, Other, Faulty, none}
use Rattle.session_spec.specs.Calls.{Line, listening, misnumbered, gone, spent}

abbrev pub is_other : Event → Bool
is_other Begin = false
is_other Time = false
is_other Leave = false
is_other Ask = false
is_other (Logon number heart) = false
is_other (Logout number) = false
is_other (Other number) = true
is_other (Faulty why) = false

-- none of 30, 31 and 32 is given
unfoldable pub takes : Line → ℕ → Event → Bool
takes l t e = is_other e && (listening l.state && (not (misnumbered l e) && not (gone l t e || spent l e none)))

-- the session after it: one frame more was heard
unfoldable pub taken_line : Line → ℕ → Line
taken_line l t =
    record {
      state = l.state;
      sending = l.sending;
      expecting = l.expecting + 1;
      last = t;
      sent = l.sent;
      heard = t;
      interval = l.interval;
    }
