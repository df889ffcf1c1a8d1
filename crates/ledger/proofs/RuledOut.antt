-- For each call of a ledger: wrong answers that its promise rules out, as tables of what is given
-- and what is then wrong. Assumes nothing.
use Prim.Native.Nat.{ℕ, ◌+◌, ◌-◌, ◌^◌}
use mathlib.Core.Path.{◌≡◌, refl, ap₂}
use mathlib.Core.List.{List, [], ◌∷◌}
use lib.Count.{ones, count_trailing_zeros}
use Rattle.terms.specs.Paper.{Paper, answer, refusal}
use Rattle.terms.specs.RuledOut.{Row, ◌never◌, ◌only◌, Kept, RulesOut, ruled, lists, papers, beside}
use Rattle.terms.specs.Counters.{tick_of, channel_of}
use Rattle.tick_map.specs.Bits.{value_of, bits_in, map_of, run}
use Rattle.tick_map.specs.Ring.{rotated}
use Rattle.ledger_spec.specs.State.{Asked, nothing, range, has, range_rules, map_rules, sound_of}
use Rattle.ledger_spec.specs.Calls.{Call, Tick, Announce, Request, Reply, Ask, Missing, Held, Between, Renew, own_number, checked_of, number_to, passes, taken, reach, leaps, gave_up, handed, replied, raised, waiting, asked, done, missing_count, held_count, between_count, values_of, answer_to, fresh, open_number, open_of}
use Rattle.ledger.specs.State.{book_of, pending_of, ledger_of, next_by, next_in}
use Rattle.ledger.specs.Papers.{tick_paper, request_paper, reply_paper, paper_of, count_paper, pending_paper}
use Rattle.ledger.specs.declared.Ledger.{Ledger}
use Rattle.ledger.proofs.Ledger.tick.Reads as tick
use Rattle.ledger.proofs.Ledger.tick.Kinds as tick-kinds
use Rattle.ledger.proofs.Ledger.announce.Reads as announce
use Rattle.ledger.proofs.Ledger.announce.Kinds as announce-kinds
use Rattle.ledger.proofs.Ledger.request.Reads as request
use Rattle.ledger.proofs.Ledger.request.Kinds as request-kinds
use Rattle.ledger.proofs.Ledger.reply.Reads as reply
use Rattle.ledger.proofs.Ledger.reply.Kinds as reply-kinds
use Rattle.ledger.proofs.Ledger.renewed.Reads as renewed
use Rattle.ledger.proofs.Ledger.renewed.Kinds as renewed-kinds
use Rattle.ledger.proofs.Ledger.missing.Reads as missing
use Rattle.ledger.proofs.Ledger.missing.Kinds as missing-kinds
use Rattle.ledger.proofs.Ledger.held.Reads as held
use Rattle.ledger.proofs.Ledger.held.Kinds as held-kinds
use Rattle.ledger.proofs.Ledger.missing_between.Reads as missing-between
use Rattle.ledger.proofs.Ledger.missing_between.Kinds as missing-between-kinds
use Rattle.ledger.proofs.Ledger.opened.Reads as opened-reads
use Rattle.ledger.proofs.Ledger.opened.Kinds as opened-kinds

-- a ledger of channel 100: floor, top, the places held as one number (number n has place n % 256,
-- so that 2 ^ 7 is number 7), and the pending range
abbrev ledger : ℕ → ℕ → ℕ → Asked → Ledger
ledger floor top places pending = record { channel = channel_of 100; floor = tick_of floor; top = tick_of top; map = map_of places; pending = pending_of pending }

-- the same as a row of numbers: what is seen of the ledger that stands beside an answer
abbrev seen : Ledger → List ℕ
seen l = l.channel.0 ∷ l.floor.0 ∷ l.top.0 ∷ bits_in l.map ∷ (pending_paper l.pending).values

-- a call on a ledger, and what the definitions say of it: the answer, and the ledger beside it
abbrev Input : Type 0
Input = Ledger × Call

abbrev Outcome : Type 0
Outcome = Paper × List ℕ

abbrev shown : Paper → Ledger → Outcome
shown p l = (p, seen l)

abbrev answered : Input → Outcome
answered i = shown (answer_to (book_of i.0) i.1) (next_in i.0 i.1)

-- each call promises its paper and its ledger
both : {p q : Paper} {l m : Ledger} → (p ≡ q) × (l ≡ m) → shown p l ≡ shown q m
both e = ap₂ shown e.0 e.1

abbrev pub Ledger-tick-wrong : List (Row Input Outcome)
Ledger-tick-wrong =
    (ledger 0 0 0 nothing, Tick 100 1) only (answer 0 (1 ∷ 1 ∷ []), seen (ledger 1 1 0 nothing))  -- tick 1 on a fresh ledger
    ∷ (ledger 1 1 0 nothing, Tick 100 2) never (answer 0 (2 ∷ 0 ∷ []), seen (ledger 1 1 0 nothing))  -- tick 2 behind it: a ledger that nods later, and holds nothing
    ∷ (ledger 1 1 0 nothing, Tick 100 2) never (answer 0 (2 ∷ 0 ∷ []), seen (ledger 1 2 0 nothing))  -- the same, with the top raised
    ∷ (ledger 1 1 0 nothing, Tick 100 2) only (answer 0 (2 ∷ 1 ∷ []), seen (ledger 2 2 0 nothing))
    ∷ (ledger 0 0 0 nothing, Tick 100 257) only (refusal 12, seen (ledger 0 257 0 nothing))  -- floor + 257 is not accepted, and 12 raises the top
    ∷ (ledger 0 300 0 nothing, Tick 100 100) only (answer 0 (1 ∷ 0 ∷ []), seen (ledger 0 300 (2 ^ 100) nothing))  -- a number not above the largest known is not ignored
    ∷ (ledger 0 0 0 nothing, Tick 100 257) never (answer 0 (1 ∷ 0 ∷ []), seen (ledger 0 257 (2 ^ 1) nothing))  -- taken, because its place is free
    ∷ (ledger 0 2 (2 ^ 2) nothing, Tick 100 1) never (answer 0 (1 ∷ 0 ∷ []), seen (ledger 0 2 0 nothing))  -- places cleared before they are counted
    ∷ (ledger 0 2 (2 ^ 2) nothing, Tick 100 1) only (answer 0 (1 ∷ 2 ∷ []), seen (ledger 2 2 0 nothing))  -- the floor passes what is held, and its places are free again
    ∷ (ledger 255 255 0 nothing, Tick 100 256) never (answer 0 (256 ∷ 1 ∷ []), seen (ledger 256 256 1 nothing))  -- the place of a number that the floor has passed is not cleared
    ∷ (ledger 250 250 0 nothing, Tick 100 300) never (answer 0 (251 ∷ 0 ∷ []), seen (ledger 250 300 (2 ^ 45) nothing))  -- the place is the remainder by 255
    ∷ (ledger 250 250 0 nothing, Tick 100 300) never (answer 0 (251 ∷ 0 ∷ []), seen (ledger 250 300 (2 ^ 49) nothing))  -- the place is the distance from the floor, as it once was
    ∷ (ledger 250 250 0 nothing, Tick 100 300) only (answer 0 (251 ∷ 0 ∷ []), seen (ledger 250 300 (2 ^ 44) nothing))
    ∷ (ledger 1 1 0 nothing, Tick 100 257) never (refusal 11, seen (ledger 1 1 0 nothing))  -- a tick 256 numbers behind one that was passed is repeated
    ∷ (ledger 0 3 (2 ^ 9) nothing, Tick 100 2) only (refusal 13, seen (ledger 0 3 (2 ^ 9) nothing))  -- a number above the top is not held
    ∷ (ledger 0 3 (2 ^ 1) nothing, Tick 100 2) only (refusal 13, seen (ledger 0 3 (2 ^ 1) nothing))  -- nor is floor + 1; and a refusal gives back the ledger as it is
    ∷ (ledger 5 9 (2 ^ 7) nothing, Tick 100 7) only (refusal 11, seen (ledger 5 9 (2 ^ 7) nothing))
    ∷ (ledger 7 12 0 nothing, Tick 100 5) never (answer 0 (8 ∷ 0 ∷ []), seen (ledger 7 12 (2 ^ 5) nothing))  -- a given-up number, below the floor, taken late
    ∷ (ledger 7 12 0 nothing, Tick 100 5) never (refusal 12, seen (ledger 7 12 0 nothing))  -- or answered 12
    ∷ (ledger 7 12 0 nothing, Tick 100 5) only (refusal 11, seen (ledger 7 12 0 nothing))
    ∷ []

pub Ledger-tick-rules-out : RulesOut (Kept _ tick-kinds.ps tick-kinds.r tick.Post) (λ c. (c.args.0, Tick c.args.1.0.0 c.args.1.1.0.0)) (λ c. shown (tick_paper c.result.answer) c.result.next) Ledger-tick-wrong
unfolding book_of ledger_of next_by rotated map_of value_of number_to own_number checked_of sound_of map_rules range_rules has passes taken raised waiting asked done missing_count values_of answer_to fresh run count_trailing_zeros
Ledger-tick-rules-out = ruled (beside papers lists) answered (λ c p. both p) _ refl

abbrev pub Ledger-announce-wrong : List (Row Input Outcome)
Ledger-announce-wrong =
    (ledger 0 9 0 nothing, Announce 100 3) never (answer 0 [], seen (ledger 0 3 0 nothing))  -- the top lowered
    ∷ (ledger 0 0 0 nothing, Announce 100 3) never (answer 0 [], seen (ledger 3 3 0 nothing))  -- numbers received because they are announced
    ∷ (ledger 0 0 0 nothing, Announce 100 999999999999999999) only (answer 0 [], seen (ledger 0 999999999999999999 0 nothing))  -- the largest number of 18 digits is not refused
    ∷ []

pub Ledger-announce-rules-out : RulesOut (Kept _ announce-kinds.ps announce-kinds.r announce.Post) (λ c. (c.args.0, Announce c.args.1.0.0 c.args.1.1.0.0)) (λ c. shown (paper_of c.result.answer) c.result.next) Ledger-announce-wrong
unfolding book_of ledger_of next_by rotated map_of value_of number_to own_number checked_of sound_of map_rules range_rules raised done values_of answer_to
Ledger-announce-rules-out = ruled (beside papers lists) answered (λ c p. both p) _ refl

abbrev pub Ledger-request-wrong : List (Row Input Outcome)
Ledger-request-wrong =
    (ledger 0 257 0 nothing, Request 100) never (answer 0 (1 ∷ 201 ∷ []), seen (ledger 0 257 0 (range 1 201)))  -- more than 200 numbers asked for
    ∷ (ledger 0 257 0 nothing, Request 100) only (answer 0 (1 ∷ 200 ∷ []), seen (ledger 0 257 0 (range 1 200)))
    ∷ (ledger 0 300 (2 ^ 100) nothing, Request 100) never (answer 0 (1 ∷ 200 ∷ []), seen (ledger 0 300 (2 ^ 100) (range 1 200)))  -- run past a held number: 100
    ∷ (ledger 0 300 (2 ^ 100) nothing, Request 100) only (answer 0 (1 ∷ 99 ∷ []), seen (ledger 0 300 (2 ^ 100) (range 1 99)))
    ∷ (ledger 0 2 (2 ^ 2) (range 1 1), Request 100) only (refusal 14, seen (ledger 0 2 (2 ^ 2) (range 1 1)))  -- not asked again while a request is pending
    ∷ (ledger 0 0 0 nothing, Request 100) only (refusal 15, seen (ledger 0 0 0 nothing))  -- nothing asked for where nothing is missing
    ∷ []

pub Ledger-request-rules-out : RulesOut (Kept _ request-kinds.ps request-kinds.r request.Post) (λ c. (c.args.0, Request c.args.1.0.0)) (λ c. shown (request_paper c.result.answer) c.result.next) Ledger-request-wrong
unfolding book_of ledger_of next_by rotated map_of value_of number_to own_number checked_of sound_of map_rules range_rules waiting asked done values_of answer_to count_trailing_zeros
Ledger-request-rules-out = ruled (beside papers lists) answered (λ c p. both p) _ refl

-- A REPLY names two sets, each as one number whose digit i stands for the first value + i.
-- 1 to 6 was asked for and 1 and 2 came; 4, 7 and 10 are held: 3, 5 and 6 are to be given up, 4 and
-- 7 passed, and 10 stays held.
abbrev waits : Asked → Ledger
waits pending = ledger 2 12 (2 ^ 4 + 2 ^ 7 + 2 ^ 10) pending

abbrev pub Ledger-reply-wrong : List (Row Input Outcome)
Ledger-reply-wrong =
    (ledger 0 3 0 (range 1 3), Reply 100 1 1) never (answer 0 (1 ∷ 0 ∷ 0 ∷ []), seen (ledger 3 3 0 nothing))  -- numbers received because a reply says so
    ∷ (ledger 0 3 0 (range 1 3), Reply 100 1 1) only (answer 0 (1 ∷ 0 ∷ 0 ∷ []), seen (ledger 0 3 0 nothing))
    ∷ (waits (range 1 6), Reply 100 1 3) never (answer 0 (3 ∷ 13 ∷ 18 ∷ []), seen (ledger 7 12 (2 ^ 10) nothing))  -- status 3 gives up too
    ∷ (waits (range 1 6), Reply 100 1 3) only (answer 0 (3 ∷ 0 ∷ 0 ∷ []), seen (waits nothing))
    ∷ (waits (range 1 6), Reply 100 1 4) never (answer 0 (3 ∷ 0 ∷ 0 ∷ []), seen (waits nothing))  -- status 4 only clears
    ∷ (waits (range 1 6), Reply 100 1 4) never (answer 0 (1 ∷ 55 ∷ 72 ∷ []), seen (ledger 7 12 (2 ^ 10) nothing))  -- given up from the range's first number on, received ones too
    ∷ (waits (range 1 6), Reply 100 1 4) never (answer 0 (3 ∷ 13 ∷ 31 ∷ []), seen (ledger 7 12 (2 ^ 10) nothing))  -- given-up numbers named for delivery
    ∷ (waits (range 1 6), Reply 100 1 4) never (answer 0 (3 ∷ 15 ∷ 18 ∷ []), seen (ledger 7 12 (2 ^ 10) nothing))  -- a received number, 4, given up
    ∷ (waits (range 1 6), Reply 100 1 4) never (answer 0 (3 ∷ 13 ∷ 2 ∷ []), seen (ledger 6 12 (2 ^ 7 + 2 ^ 10) nothing))  -- the floor stops before the received run behind the range
    ∷ (waits (range 1 6), Reply 100 1 4) never (answer 0 (3 ∷ 13 ∷ 16 ∷ []), seen (ledger 7 12 (2 ^ 10) nothing))  -- passed numbers named from the range on alone: 4 is lost
    ∷ (waits (range 1 6), Reply 100 1 4) never (answer 0 (3 ∷ 13 ∷ 18 ∷ []), seen (ledger 7 12 (2 ^ 10) (range 1 6)))  -- the request stays pending
    ∷ (waits (range 1 6), Reply 100 1 4) never (answer 0 (3 ∷ 13 ∷ 18 ∷ []), seen (ledger 7 13 (2 ^ 10) nothing))  -- the top raised
    ∷ (waits (range 1 6), Reply 100 1 4) never (answer 0 (3 ∷ 13 ∷ 18 ∷ []), seen (ledger 7 12 0 nothing))  -- 10, held behind the new floor, is dropped
    ∷ (waits (range 1 6), Reply 100 1 4) only (answer 0 (3 ∷ 13 ∷ 18 ∷ []), seen (ledger 7 12 (2 ^ 10) nothing))
    ∷ (ledger 2 12 (2 ^ 4) (range 1 6), Reply 100 1 4) never (answer 0 (3 ∷ 29 ∷ 2 ∷ []), seen (ledger 7 12 0 nothing))  -- 7, one past the range, given up
    ∷ (ledger 9 12 0 (range 1 6), Reply 100 1 4) only (answer 0 (10 ∷ 0 ∷ 0 ∷ []), seen (ledger 9 12 0 nothing))  -- the floor has passed the whole range: nothing to give up
    ∷ (ledger 199 455 (2 ^ 256 - 1 - 2 ^ 200) (range 1 200), Reply 100 1 4) only (answer 0 (200 ∷ 1 ∷ (2 ^ 256 - 2) ∷ []), seen (ledger 455 455 0 nothing))  -- 455 is passed, 454 behind the range's first
    ∷ (waits (range 1 6), Reply 100 2 4) only (answer 16 (0 ∷ 0 ∷ 0 ∷ []), seen (waits (range 1 6)))  -- not cleared by a reply with another first number, and no set stands beside 16
    ∷ (waits (range 1 6), Reply 100 1 6) only (answer 17 (0 ∷ 0 ∷ 0 ∷ []), seen (waits (range 1 6)))
    ∷ []

pub Ledger-reply-rules-out : RulesOut (Kept _ reply-kinds.ps reply-kinds.r reply.Post) (λ c. (c.args.0, Reply c.args.1.0.0 c.args.1.1.0.0 c.args.1.1.1.0)) (λ c. shown (reply_paper c.result.answer) c.result.next) Ledger-reply-wrong
unfolding book_of ledger_of next_by rotated map_of value_of number_to own_number checked_of sound_of map_rules range_rules reach leaps gave_up handed replied run done values_of answer_to
Ledger-reply-rules-out = ruled (beside papers lists) answered (λ c p. both (p.0, p.1)) _ refl

-- A NEW SESSION
abbrev pub Ledger-renewed-wrong : List (Row Input Outcome)
Ledger-renewed-wrong =
    (waits (range 1 6), Renew) never (answer 0 [], seen (waits (range 1 6)))  -- the pending request is kept
    ∷ (waits (range 1 6), Renew) never (answer 0 [], seen (ledger 0 12 (2 ^ 4 + 2 ^ 7 + 2 ^ 10) nothing))  -- the floor is forgotten
    ∷ (waits (range 1 6), Renew) never (answer 0 [], seen (ledger 0 0 0 nothing))  -- a fresh ledger
    ∷ (waits (range 1 6), Renew) never (answer 0 [], seen (ledger 2 10 (2 ^ 4 + 2 ^ 7 + 2 ^ 10) nothing))  -- the top is lowered to the last one held
    ∷ (waits (range 1 6), Renew) never (answer 0 [], seen (ledger 2 12 0 nothing))  -- what is held is dropped
    ∷ (waits (range 1 6), Renew) never (answer 0 [], seen (ledger 7 12 (2 ^ 10) nothing))  -- what was asked for is given up
    ∷ (waits (range 1 6), Renew) never (refusal 14, seen (waits (range 1 6)))  -- refused because a request is pending
    ∷ (waits (range 1 6), Renew) only (answer 0 [], seen (waits nothing))
    ∷ (waits nothing, Renew) never (refusal 16, seen (waits nothing))  -- refused because none is
    ∷ (waits nothing, Renew) only (answer 0 [], seen (waits nothing))
    ∷ (ledger 0 3 (2 ^ 1) (range 1 3), Renew) only (refusal 13, seen (ledger 0 3 (2 ^ 1) (range 1 3)))  -- a broken state is refused, and given back as it is
    ∷ []

pub Ledger-renewed-rules-out : RulesOut (Kept _ renewed-kinds.ps renewed-kinds.r renewed.Post) (λ c. (c.args.0, Renew)) (λ c. shown (paper_of c.result.answer) c.result.next) Ledger-renewed-wrong
unfolding book_of ledger_of next_by rotated map_of value_of number_to own_number checked_of sound_of map_rules range_rules waiting done values_of answer_to
Ledger-renewed-rules-out = ruled (beside papers lists) answered (λ c p. both p) _ refl

abbrev pub Ledger-missing-wrong : List (Row Input Outcome)
Ledger-missing-wrong =
    (ledger 0 3 0 nothing, (Ask Missing)) never (answer 0 (2 ∷ []), seen (ledger 0 3 0 nothing))  -- announce 3, missing 2: a count that is invented
    ∷ (ledger 0 3 0 nothing, (Ask Missing)) only (answer 0 (3 ∷ []), seen (ledger 0 3 0 nothing))
    ∷ (ledger 5 9 (2 ^ 7) nothing, (Ask Missing)) never (answer 0 (8 ∷ []), seen (ledger 5 9 (2 ^ 7) nothing))  -- delivered numbers counted as missing
    ∷ (ledger 5 9 (2 ^ 7) nothing, (Ask Missing)) only (answer 0 (3 ∷ []), seen (ledger 5 9 (2 ^ 7) nothing))  -- held ones are not missing
    ∷ (ledger 0 1 (2 ^ 1) nothing, (Ask Missing)) only (answer 13 (0 ∷ []), seen (ledger 0 1 (2 ^ 1) nothing))  -- a state that holds floor + 1 is no state, and no count stands beside 13
    ∷ []

pub Ledger-missing-rules-out : RulesOut (Kept _ missing-kinds.ps missing-kinds.r missing.Post) (λ c. (c.args.0, (Ask Missing))) (λ c. shown (count_paper c.result.answer) c.result.next) Ledger-missing-wrong
unfolding book_of ledger_of next_by rotated map_of value_of number_to own_number checked_of sound_of map_rules range_rules done missing_count values_of answer_to ones
Ledger-missing-rules-out = ruled (beside papers lists) answered (λ c p. both p) _ refl

abbrev pub Ledger-held-wrong : List (Row Input Outcome)
Ledger-held-wrong =
    (ledger 0 3 (2 ^ 2) nothing, (Ask Held)) never (answer 0 (0 ∷ []), seen (ledger 0 3 (2 ^ 2) nothing))  -- nothing is ever held
    ∷ (ledger 0 3 (2 ^ 2) nothing, (Ask Held)) only (answer 0 (1 ∷ []), seen (ledger 0 3 (2 ^ 2) nothing))
    ∷ (ledger 0 300 (2 ^ 2 + 2 ^ 10) nothing, (Ask Held)) only (answer 0 (2 ∷ []), seen (ledger 0 300 (2 ^ 2 + 2 ^ 10) nothing))
    ∷ []

pub Ledger-held-rules-out : RulesOut (Kept _ held-kinds.ps held-kinds.r held.Post) (λ c. (c.args.0, (Ask Held))) (λ c. shown (count_paper c.result.answer) c.result.next) Ledger-held-wrong
unfolding book_of ledger_of next_by rotated map_of value_of number_to own_number checked_of sound_of map_rules range_rules done held_count values_of answer_to ones
Ledger-held-rules-out = ruled (beside papers lists) answered (λ c p. both p) _ refl

-- A SPAN: both its ends count
abbrev pub Ledger-missing-between-wrong : List (Row Input Outcome)
Ledger-missing-between-wrong =
    (ledger 5 9 (2 ^ 7) nothing, Ask (Between 100 1 9)) never (answer 0 (4 ∷ []), seen (ledger 5 9 (2 ^ 7) nothing))  -- held numbers counted as missing: the map is not looked at
    ∷ (ledger 5 9 (2 ^ 7) nothing, Ask (Between 100 1 9)) only (answer 0 (3 ∷ []), seen (ledger 5 9 (2 ^ 7) nothing))
    ∷ (ledger 5 9 (2 ^ 7) nothing, Ask (Between 100 5 6)) only (answer 0 (1 ∷ []), seen (ledger 5 9 (2 ^ 7) nothing))  -- not counted from the floor's number on, nor one short at b
    ∷ (ledger 5 9 (2 ^ 7) nothing, Ask (Between 100 8 20)) never (answer 0 (13 ∷ []), seen (ledger 5 9 (2 ^ 7) nothing))  -- numbers above the top counted
    ∷ (ledger 5 9 (2 ^ 7) nothing, Ask (Between 100 8 20)) never (answer 0 (3 ∷ []), seen (ledger 5 9 (2 ^ 7) nothing))  -- what is missing in all, for every span
    ∷ (ledger 5 9 (2 ^ 7) nothing, Ask (Between 100 8 20)) only (answer 0 (2 ∷ []), seen (ledger 5 9 (2 ^ 7) nothing))
    ∷ (ledger 5 9 (2 ^ 7) nothing, Ask (Between 100 7 7)) only (answer 0 (0 ∷ []), seen (ledger 5 9 (2 ^ 7) nothing))
    ∷ (ledger 5 9 (2 ^ 7) nothing, Ask (Between 100 8 6)) never (answer 10 (0 ∷ []), seen (ledger 5 9 (2 ^ 7) nothing))  -- an empty span refused
    ∷ (ledger 5 9 (2 ^ 7) nothing, Ask (Between 100 8 6)) only (answer 0 (0 ∷ []), seen (ledger 5 9 (2 ^ 7) nothing))  -- and it is no huge number
    ∷ (ledger 5 9 (2 ^ 7) nothing, Ask (Between 101 0 6)) only (answer 18 (0 ∷ []), seen (ledger 5 9 (2 ^ 7) nothing))  -- 18 before 10
    ∷ (ledger 5 9 (2 ^ 7) nothing, Ask (Between 100 0 6)) only (answer 10 (0 ∷ []), seen (ledger 5 9 (2 ^ 7) nothing))
    ∷ (ledger 5 9 (2 ^ 7) nothing, Ask (Between 100 6 1000000000000000000)) only (answer 10 (0 ∷ []), seen (ledger 5 9 (2 ^ 7) nothing))  -- 10 also for b alone
    ∷ (ledger 5 9 (2 ^ 6) nothing, Ask (Between 100 6 9)) only (answer 13 (0 ∷ []), seen (ledger 5 9 (2 ^ 6) nothing))  -- no count beside 13
    ∷ (ledger 5 999999999999999999 0 nothing, Ask (Between 100 300 100000000000000000)) only (answer 0 (99999999999999701 ∷ []), seen (ledger 5 999999999999999999 0 nothing))
    ∷ (ledger 254 400 (2 ^ 1) nothing, Ask (Between 100 200 310)) only (answer 0 (55 ∷ []), seen (ledger 254 400 (2 ^ 1) nothing))  -- over the ring's edge: 257 is held at place 1
    ∷ []

pub Ledger-missing-between-rules-out : RulesOut (Kept _ missing-between-kinds.ps missing-between-kinds.r missing-between.Post) (λ c. (c.args.0, Ask (Between c.args.1.0.0 c.args.1.1.0.0 c.args.1.1.1.0.0))) (λ c. shown (count_paper c.result.answer) c.result.next) Ledger-missing-between-wrong
unfolding book_of ledger_of next_by rotated map_of value_of number_to own_number checked_of sound_of map_rules range_rules done between_count values_of answer_to ones
Ledger-missing-between-rules-out = ruled (beside papers lists) answered (λ c p. both p) _ refl

abbrev pub Ledger-opened-wrong : List (Row ℕ Outcome)
Ledger-opened-wrong =
    100 only (answer 0 [], seen (ledger 0 0 0 nothing))
    ∷ 10000 never (refusal 18, 0 ∷ 0 ∷ 0 ∷ 0 ∷ [])  -- a channel above 9,999 refused by 18
    ∷ 10000 only (refusal 10, 0 ∷ 0 ∷ 0 ∷ 0 ∷ [])  -- beside 10 a ledger for channel 0
    ∷ []

pub Ledger-opened-rules-out : RulesOut (Kept _ opened-kinds.ps opened-kinds.r opened-reads.Post) (λ c. c.args.0.0) (λ c. shown (paper_of c.result.answer) c.result.next) Ledger-opened-wrong
unfolding ledger_of rotated map_of value_of fresh open_of
Ledger-opened-rules-out = ruled (beside papers lists) (λ (n : ℕ). shown (answer (open_number n) []) (ledger_of (open_of n))) (λ c p. both p) _ refl
