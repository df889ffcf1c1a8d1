-- What a call leaves of the index, of the row that it is about and of the name beside that row, and
-- what it tells.
use Rattle.std.specs.Prelude.{Bool, true, false, ◌&&◌, not, ℕ, min, eqb, leb, ltb, replicate}
use Rattle.terms.specs.Paper.{Paper, answer, refusal, pick}
use Rattle.tick_map.specs.Bits.{is_set}
use Rattle.ledger_spec.specs.State.{Book, sound_of}
use Rattle.ledger_spec.specs.Calls.{Call, Tick, Announce, Request, Reply, Ask, Between, Renew, is_pending, fresh}
use Rattle.ledger.specs.declared.Ledger.{Ledger}
use Rattle.ledger.specs.State.{book_of, ledger_of, next_in}
use Rattle.host_words.specs.Words.{words_of, ledger_in, book_in}
use Rattle.host_words.specs.Told.{retold}
use Rattle.host_words.specs.Calls.{call_told}
use Rattle.host_ledger.specs.Words.{settled_row}
use Rattle.channels_spec.specs.Table.{holds, misses}
use Rattle.channels_spec.specs.Calls.{told_of}
use Rattle.channels.specs.declared.Index.{Index}
use Rattle.channels.specs.declared.Row.{Row}
use Rattle.channels.specs.declared.Turn.{Turn}
use Rattle.channels.specs.declared.ChannelCall.{ChannelCall}
use Rattle.channels.specs.declared.ChannelTold.{ChannelTold}
use Rattle.channels.specs.declared.Answered.{Answered}
use Rattle.channels.specs.Index.{with_bit, open_at, index_sound}
use Rattle.channels.specs.Told.{told_as, named_paper, index_at, agree}

-- the row of a ledger
abbrev pub row_in : Ledger → Row
row_in l = record { words = words_of l }

abbrev pub row_of : Book → Row
row_of b = row_in (ledger_of b)

abbrev pub blank : Row
blank = record { words = replicate 9 0 }

-- ======== 13 of the row: docs/STATES.md tells its rules

-- row and index agree on a place: the ledger is of the channel named beside it, its bit is right,
-- and its request is pending exactly where `asked` says
unfoldable pub row_fits : Book → Index → Turn → Bool
row_fits b x n =
    (eqb n.name b.channel && agree (is_set x.lacking n.at) (misses (holds b)))
    && agree (is_pending b.pending) (eqb x.asked n.at)

-- ======== What is left

-- index, name and row as they were
abbrev pub kept_of : Row → Index → Turn → ChannelTold → Answered
kept_of r x n t = record { index = x; name = n.name; row = r; told = t }

abbrev pub refused_of : Row → Index → Turn → ℕ → Answered
refused_of r x n number = kept_of r x n (told_as (refusal number))

-- the ledger that stands beside an answer, stored
abbrev pub stored_of : Index → Turn → Ledger → ChannelTold → Answered
stored_of x n next t = record { index = index_at x n.at (book_of next); name = n.name; row = row_in next; told = t }

-- 0 and 12 store it, any other refusal leaves all as it was
unfoldable pub left_of : Row → Index → Turn → Ledger → ChannelTold → Answered
left_of r x n next t = pick (eqb t.answer 0) (stored_of x n next t) (pick (eqb t.answer 12) (stored_of x n next t) (kept_of r x n t))

-- ======== What is said to the ledger at a place: it answers, and `form` tells it

abbrev pub plain : Paper → Paper
plain p = p

abbrev pub said_of : (Paper → Paper) → Row → Index → Turn → Call → Answered
said_of form r x n call = left_of r x n (next_in (ledger_in r.words) call) (told_as (form (call_told r.words call)))

-- ---- opening and closing

abbrev pub opened_at : Index → ℕ → Index
opened_at x at = record { used = with_bit true x.used at; lacking = x.lacking; asked = x.asked; last = x.last }

-- its own pending request is cleared; another's stays, and so does the place last asked
unfoldable pub closed_at : Index → ℕ → Index
closed_at x at =
    record {
      used = with_bit false x.used at;
      lacking = with_bit false x.lacking at;
      asked = pick (eqb x.asked at) 32 x.asked;
      last = x.last;
    }

-- "on opening, 10, then 22 already open, then 21 table full": an open place is the channel's own,
-- and its row is judged first
unfoldable pub taken_of : Row → Index → Turn → ℕ → Answered
taken_of r x n channel =
    pick (not (row_fits (book_in r.words) x n && sound_of (book_in r.words))) (refused_of r x n 13)
    (pick (ltb 9999 channel) (refused_of r x n 10) (refused_of r x n 22))

unfoldable pub opened_of : Row → Index → Turn → ℕ → Answered
opened_of r x n channel =
    pick (open_at x.used n.at) (taken_of r x n channel)
    (pick (ltb 9999 channel) (refused_of r x n 10)
    (pick (leb 32 n.at) (refused_of r x n 21)
    (record { index = opened_at x n.at; name = channel; row = row_of (fresh channel); told = told_as (refusal 0) })))

unfoldable pub closed_of : Row → Index → Turn → Answered
closed_of r x n =
    pick (not (sound_of (book_in r.words))) (refused_of r x n 13)
    (record { index = closed_at x n.at; name = 0; row = blank; told = told_as (refusal 0) })

-- ---- a request: answered 0, it moves the place last asked

abbrev pub last_at : Index → ℕ → ℕ → Index
last_at x at number = record { used = x.used; lacking = x.lacking; asked = x.asked; last = pick (eqb number 0) at x.last }

abbrev pub moved_of : Answered → ℕ → Answered
moved_of a at = record { index = last_at a.index at a.told.answer; name = a.name; row = a.row; told = a.told }

abbrev pub requested_of : Row → Index → Turn → Answered
requested_of r x n = moved_of (said_of (named_paper (book_in r.words).channel) r x n (Request (book_in r.words).channel)) n.at

unfoldable pub telling_of : Row → Index → Turn → Answered
telling_of r x n =
    pick (not (sound_of (book_in r.words))) (refused_of r x n 13)
    (kept_of r x n (told_as (answer 0 (told_of (book_in r.words)))))

-- ======== One call

-- where it finds no place: a request is answered 15, a new session 0, any other call 18
abbrev pub none_there : ℕ → ℕ
none_there code = pick (eqb code 4) 15 (pick (eqb code 7) 0 18)

-- a status above 255 is none
abbrev pub status_in : ℕ → ℕ
status_in second = min second 255

unfoldable pub served_of : Row → Index → Turn → ChannelCall → Answered
served_of r x n call =
    pick (eqb call.code 1) (closed_of r x n)
    (pick (eqb call.code 2) (said_of plain r x n (Tick (book_in r.words).channel call.number))
    (pick (eqb call.code 3) (said_of plain r x n (Announce (book_in r.words).channel call.number))
    (pick (eqb call.code 4) (requested_of r x n)
    (pick (eqb call.code 5) (said_of (retold settled_row) r x n (Reply (book_in r.words).channel call.number (status_in call.second)))
    (pick (eqb call.code 6) (said_of plain r x n (Ask (Between (book_in r.words).channel call.number call.second)))
    (pick (eqb call.code 7) (said_of plain r x n Renew)
    (telling_of r x n)))))))

unfoldable pub answered_of : Row → Index → Turn → ChannelCall → Answered
answered_of r x n call =
    pick (not (index_sound x && n.once)) (refused_of r x n 13)
    (pick (eqb call.code 0) (opened_of r x n call.channel)
    (pick (leb 32 n.at) (refused_of r x n (none_there call.code))
    (pick (not (row_fits (book_in r.words) x n)) (refused_of r x n 13)
    (served_of r x n call))))
