-- Every answer of a call on a table, sound or not, is one of the table's numbers. Assumes nothing.
use mathlib.Core.Path.{◌≡◌, refl, ap, ◌∙◌}
use mathlib.Core.Bool.{Bool, true, false, ◌&&◌, not}
use Prim.Native.Nat.{ℕ, ◌+◌}
use lib.Dec.{eqb, leb, ltb}
use Rattle.terms.specs.Paper.{Paper, pick}
use Rattle.ledger_spec.specs.State.{Book, largest, has, sound_of}
use Rattle.ledger_spec.specs.Calls.{Missing, Held, Between, Call, Tick, Announce, Request, Reply, Ask, Renew, tick_number, reply_status, is_pending, starts_at, elsewhere, own_number, checked_of, number_to, answer_to}
use Rattle.host_words.specs.Words.{book_in}
use Rattle.host_words.specs.Told.{retold}
use Rattle.host_ledger.specs.Words.{settled_row}
use Rattle.channels.specs.declared.Channels.{Channels}
use Rattle.channels.specs.declared.Index.{Index}
use Rattle.channels.specs.declared.Row.{Row}
use Rattle.channels.specs.declared.Turn.{Turn}
use Rattle.channels.specs.declared.ChannelCall.{ChannelCall}
use Rattle.channels.specs.declared.ChannelTold.{ChannelTold}
use Rattle.channels.specs.declared.Answered.{Answered}
use Rattle.channels.specs.Index.{open_at, index_sound}
use Rattle.channels.specs.Told.{named_paper}
use Rattle.channels.specs.Answered.{row_fits, refused_of, plain, said_of, status_in, none_there, taken_of, opened_of, closed_of, telling_of, served_of, answered_of}
use Rattle.channels.specs.Serves.{Serves}
use Rattle.channels_seam.specs.Numbers.{table_number}
use Rattle.channels_seam.proofs.Broken.{left_told}

picked : (b : Bool) (m n : ℕ) → table_number m ≡ true → table_number n ≡ true → table_number (pick b m n) ≡ true
picked true m n p q = p
picked false m n p q = q

own : (b : Book) (call : Call) → table_number (own_number b call) ≡ true
unfolding own_number table_number
own b (Tick channel n) = picked (not (tick_number n)) 10 _ refl (picked (has b n) 11 _ refl (picked (ltb (b.floor + 256) n) 12 0 refl refl))
own b (Announce channel n) = picked (ltb largest n) 10 0 refl refl
own b (Request channel) = picked (is_pending b.pending) 14 _ refl (picked (eqb b.top b.floor) 15 0 refl refl)
own b (Reply channel first status) = picked (not (reply_status status)) 17 _ refl (picked (not (starts_at b.pending first)) 16 0 refl refl)
own b (Ask Missing) = refl
own b (Ask Held) = refl
own b (Ask (Between channel a z)) = picked (not (tick_number a && tick_number z)) 10 0 refl refl
own b Renew = refl

calling : (b : Book) (call : Call) → table_number (answer_to b call).number ≡ true
unfolding answer_to number_to checked_of table_number
calling b call = picked (not (sound_of b)) 13 _ refl (picked (elsewhere b call) 18 _ refl (own b call))

-- ---- what is left, and what is told

abbrev Fine : Answered → Type 0
Fine a = table_number a.told.answer ≡ true

either : (b : Bool) (p q : Answered) → Fine p → Fine q → Fine (pick b p q)
either true p q f g = f
either false p q f g = g

said : (form : Paper → Paper) → ((p : Paper) → (form p).number ≡ p.number) → (r : Row) (x : Index) (n : Turn) (c : Call) → Fine (said_of form r x n c)
said form f r x n c = ap (λ (t : ChannelTold). table_number t.answer) (left_told r x n _ _) ∙ ap table_number (f _) ∙ calling (book_in r.words) c

served : (r : Row) (x : Index) (n : Turn) (call : ChannelCall) → Fine (served_of r x n call)
unfolding served_of closed_of telling_of table_number
served r x n call =
    let b : Book = book_in r.words in
    let judged : Bool = not (sound_of b) in
    either (eqb call.code 1) _ _ (either judged (refused_of r x n 13) _ refl refl)
    (either (eqb call.code 2) _ _ (said plain (λ p. refl) r x n (Tick b.channel call.number))
    (either (eqb call.code 3) _ _ (said plain (λ p. refl) r x n (Announce b.channel call.number))
    (either (eqb call.code 4) _ _ (said (named_paper b.channel) (λ p. refl) r x n (Request b.channel))
    (either (eqb call.code 5) _ _ (said (retold settled_row) (λ p. refl) r x n (Reply b.channel call.number (status_in call.second)))
    (either (eqb call.code 6) _ _ (said plain (λ p. refl) r x n (Ask (Between b.channel call.number call.second)))
    (either (eqb call.code 7) _ _ (said plain (λ p. refl) r x n Renew)
    (either judged (refused_of r x n 13) _ refl refl)))))))

opened : (r : Row) (x : Index) (n : Turn) (channel : ℕ) → Fine (opened_of r x n channel)
unfolding opened_of taken_of table_number
opened r x n channel =
    either (open_at x.used n.at) _ _
    (either (not (row_fits (book_in r.words) x n && sound_of (book_in r.words))) (refused_of r x n 13) _ refl (either (ltb 9999 channel) (refused_of r x n 10) (refused_of r x n 22) refl refl))
    (either (ltb 9999 channel) (refused_of r x n 10) _ refl (either (leb 32 n.at) (refused_of r x n 21) _ refl refl))

answering : (r : Row) (x : Index) (n : Turn) (call : ChannelCall) → Fine (answered_of r x n call)
unfolding answered_of table_number
answering r x n call =
    either (not (index_sound x && n.once)) (refused_of r x n 13) _ refl
    (either (eqb call.code 0) _ _ (opened r x n call.channel)
    (either (leb 32 n.at) (refused_of r x n (none_there call.code)) _ (picked (eqb call.code 4) 15 _ refl (picked (eqb call.code 7) 0 18 refl refl))
    (either (not (row_fits (book_in r.words) x n)) (refused_of r x n 13) _ refl (served r x n call))))

pub table_number_lem : {x next : Channels} {told : ChannelTold} (call : ChannelCall) → Serves x call told next → table_number told.answer ≡ true
table_number_lem {x} call s = ap (λ (t : ChannelTold). table_number t.answer) s.told_is ∙ answering _ _ _ call
