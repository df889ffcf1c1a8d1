-- Every answer of a ledger is 0, or one of document 01's table.
use Rattle.std.specs.Prelude.{◌+◌, refl, ◌&&◌, not, eqb, ltb}
use Rattle.terms.specs.Paper.{pick}
use Rattle.ledger_spec.specs.State.{Book, largest, has, sound_of}
use Rattle.ledger_spec.specs.Calls.{Call, Tick, Announce, Request, Reply, Ask, Missing, Held, Between, Renew, tick_number, reply_status, is_pending, starts_at, elsewhere, own_number, checked_of, number_to, answer_to}
use Rattle.promises_words.specs.Words.{in_table, Numbered, done, refused, picked}

own : (b : Book) (call : Call) → Numbered (own_number b call)
unfolding own_number in_table
own b (Tick channel n) =
    picked (not (tick_number n)) 10 (pick (has b n) 11 (pick (ltb (b.floor + 256) n) 12 0)) (refused refl)
    (picked (has b n) 11 (pick (ltb (b.floor + 256) n) 12 0) (refused refl) (picked (ltb (b.floor + 256) n) 12 0 (refused refl) (done refl)))
own b (Announce channel n) = picked (ltb largest n) 10 0 (refused refl) (done refl)
own b (Request channel) =
    picked (is_pending b.pending) 14 (pick (eqb b.top b.floor) 15 0) (refused refl) (picked (eqb b.top b.floor) 15 0 (refused refl) (done refl))
own b (Reply channel first status) =
    picked (not (reply_status status)) 17 (pick (not (starts_at b.pending first)) 16 0) (refused refl) (picked (not (starts_at b.pending first)) 16 0 (refused refl) (done refl))
own b (Ask Missing) = done refl
own b (Ask Held) = done refl
own b (Ask (Between channel a z)) = picked (not (tick_number a && tick_number z)) 10 0 (refused refl) (done refl)
own b Renew = done refl

-- whatever is called, in whatever state
pub calling : (b : Book) (call : Call) → Numbered (answer_to b call).number
unfolding answer_to number_to checked_of in_table
calling b call =
    picked (not (sound_of b)) 13 (pick (elsewhere b call) 18 (own_number b call)) (refused refl)
    (picked (elsewhere b call) 18 (own_number b call) (refused refl) (own b call))
