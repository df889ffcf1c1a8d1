-- For each function that a host may call on a ledger: wrong answers that its promise rules out, as
-- tables of what is given and what is then wrong. A ledger is nine words: channel, floor, top, the
-- map's four, and the pending range. Assumes nothing.
use Prim.Native.Nat.{ℕ, ◌+◌, ◌^◌}
use mathlib.Core.Path.{◌≡◌, refl, ap, ap₂}
use mathlib.Core.List.{List, [], ◌∷◌}
use lib.ListN.{get_or}
use lib.Count.{ones, count_trailing_zeros}
use Rattle.terms.specs.Paper.{Paper}
use Rattle.terms.specs.RuledOut.{Row, ◌never◌, ◌only◌, Kept, RulesOut, ruled, numbers, lists, beside}
use Rattle.tick_map.specs.Bits.{value_of, map_of, run}
use Rattle.tick_map.specs.Ring.{rotated}
use Rattle.ledger_spec.specs.State.{has, range_rules, map_rules, sound_of}
use Rattle.ledger_spec.specs.Calls.{Call, Tick, Announce, Request, Reply, Ask, Between, Renew, open_number, own_number, checked_of, number_to, passes, taken, reach, leaps, gave_up, handed, replied, raised, waiting, asked, done, missing_count, held_count, between_count, values_of, answer_to, fresh, open_of}
use Rattle.terms.specs.Counters.{tick_of}
use Rattle.ledger.specs.declared.Settled.{Settled}
use Rattle.ledger.specs.State.{book_of, ledger_of, next_by}
use Rattle.host_words.specs.Words.{words_of, pending_in, ledger_in}
use Rattle.host_words.specs.Calls.{kept_by, call_told, words_after}
use Rattle.host_words.specs.Told.{told_by, Tells}
use Rattle.host_ledger.specs.Words.{open_words, ledger_told, row_of, settled_row, reply_told}
use Rattle.host_ledger.proofs.settled_row.Reads as settled-row
use Rattle.host_ledger.proofs.settled_row.Kinds as settled-row-kinds
use Rattle.host_ledger.proofs.rk_ledger_open.Reads as rk-open
use Rattle.host_ledger.proofs.rk_ledger_open.Kinds as rk-open-kinds
use Rattle.host_ledger.proofs.rk_ledger_tick.Reads as rk-tick
use Rattle.host_ledger.proofs.rk_ledger_tick.Kinds as rk-tick-kinds
use Rattle.host_ledger.proofs.rk_ledger_announce.Reads as rk-announce
use Rattle.host_ledger.proofs.rk_ledger_announce.Kinds as rk-announce-kinds
use Rattle.host_ledger.proofs.rk_ledger_request.Reads as rk-request
use Rattle.host_ledger.proofs.rk_ledger_request.Kinds as rk-request-kinds
use Rattle.host_ledger.proofs.rk_ledger_reply.Reads as rk-reply
use Rattle.host_ledger.proofs.rk_ledger_reply.Kinds as rk-reply-kinds
use Rattle.host_ledger.proofs.rk_ledger_renew.Reads as rk-renew
use Rattle.host_ledger.proofs.rk_ledger_renew.Kinds as rk-renew-kinds
use Rattle.host_ledger.proofs.rk_ledger_missing.Reads as rk-missing
use Rattle.host_ledger.proofs.rk_ledger_missing.Kinds as rk-missing-kinds
use Rattle.host_ledger.proofs.rk_ledger_told.Reads as rk-told
use Rattle.host_ledger.proofs.rk_ledger_told.Kinds as rk-told-kinds

-- the words of channel 100: floor, top, the map's first word (2 ^ 7 is number 7), and the pending
-- range, 0 and 0 where there is none
abbrev words : ℕ → ℕ → ℕ → ℕ → ℕ → List ℕ
words floor top held first last = 100 ∷ floor ∷ top ∷ held ∷ 0 ∷ 0 ∷ 0 ∷ first ∷ last ∷ []

-- the number answered, what is told, and the words then
abbrev Outcome : Type 0
Outcome = ℕ × (List ℕ × List ℕ)

abbrev shown : ℕ → List ℕ → List ℕ → Outcome
shown n told w = (n, (told, w))

abbrev tells : Paper → List ℕ → List ℕ → Outcome
tells p was w = shown p.number (told_by p was) w

said : {p : Paper} {was row w w' : List ℕ} {n : ℕ} → Tells p was n row × (w ≡ w') → shown n row w ≡ tells p was w'
said e = ap₂ (λ (n : ℕ) (r : List ℕ × List ℕ). (n, r)) e.0.answered (ap₂ (λ (t w : List ℕ). (t, w)) e.0.told e.1)

-- the same of a function that tells nothing
plain : {n m : ℕ} {w w' : List ℕ} → (n ≡ m) × (w ≡ w') → shown n [] w ≡ shown m [] w'
plain e = ap₂ (λ (n : ℕ) (w : List ℕ). shown n [] w) e.0 e.1

-- OPEN: a channel, and the words before
abbrev pub rk_ledger_open_wrong : List (Row (ℕ × List ℕ) Outcome)
rk_ledger_open_wrong =
    (100, words 7 7 7 7 7) only shown 0 [] (words 0 0 0 0 0)
    ∷ (10000, words 7 7 7 7 7) only shown 10 [] (words 7 7 7 7 7)  -- 10, not 18, and the words are kept
    ∷ []

pub rk_ledger_open_rules_out : RulesOut (Kept _ rk-open-kinds.ps rk-open-kinds.r rk-open.Post) (λ c. (c.args.0, c.args.1.0.now)) (λ c. shown c.result [] c.exit.1.0.now) rk_ledger_open_wrong
unfolding book_of ledger_of next_by rotated map_of value_of number_to own_number checked_of sound_of map_rules range_rules has passes taken reach leaps gave_up handed replied raised waiting asked done missing_count held_count values_of answer_to fresh open_of run count_trailing_zeros ones words_of pending_in ledger_in kept_by words_after told_by open_words ledger_told settled_row
rk_ledger_open_rules_out = ruled (beside numbers (beside lists lists)) (λ (i : ℕ × List ℕ). shown (open_number i.0) [] (open_words i.0 i.1)) (λ c p. plain p) _ refl

-- CALLS: the words, a call, and the told row before
abbrev Input : Type 0
Input = List ℕ × (Call × List ℕ)

abbrev pub rk_ledger_tick_wrong : List (Row Input Outcome)
rk_ledger_tick_wrong =
    (words 1 1 0 0 0, (Tick 100 2, 7 ∷ 7 ∷ [])) never shown 0 (2 ∷ 0 ∷ []) (words 1 2 0 0 0)  -- a ledger that nods after the first tick
    ∷ (words 1 1 0 0 0, (Tick 100 2, 7 ∷ 7 ∷ [])) only shown 0 (2 ∷ 1 ∷ []) (words 2 2 0 0 0)
    ∷ (words 0 0 0 0 0, (Tick 100 257, 7 ∷ 7 ∷ [])) only shown 12 (7 ∷ 7 ∷ []) (words 0 257 0 0 0)  -- 12 raises the top, and tells nothing
    ∷ (words 5 9 0 0 0, (Tick 100 7, 7 ∷ 7 ∷ [])) never shown 0 (6 ∷ 0 ∷ []) (words 5 9 (2 ^ 1) 0 0)  -- kept at its distance from the floor, as it once was
    ∷ (words 5 9 0 0 0, (Tick 100 7, 7 ∷ 7 ∷ [])) only shown 0 (6 ∷ 0 ∷ []) (words 5 9 (2 ^ 7) 0 0)
    ∷ (words 0 0 0 0 0, (Tick 101 1, 7 ∷ 7 ∷ [])) only shown 18 (7 ∷ 7 ∷ []) (words 0 0 0 0 0)
    ∷ []

pub rk_ledger_tick_rules_out : RulesOut (Kept _ rk-tick-kinds.ps rk-tick-kinds.r rk-tick.Post) (λ c. (c.args.0.now, (Tick c.args.1.0 c.args.1.1.0, c.args.1.1.1.0.now))) (λ c. shown c.result c.exit.1.1.1.0.now c.exit.0.now) rk_ledger_tick_wrong
unfolding book_of ledger_of next_by rotated map_of value_of number_to own_number checked_of sound_of map_rules range_rules has passes taken reach leaps gave_up handed replied raised waiting asked done missing_count held_count values_of answer_to fresh open_of run count_trailing_zeros ones words_of pending_in ledger_in kept_by words_after told_by open_words ledger_told settled_row
rk_ledger_tick_rules_out = ruled (beside numbers (beside lists lists)) (λ (i : Input). tells (call_told i.0 i.1.0) i.1.1 (words_after i.0 i.1.0)) (λ c p. said p) _ refl

abbrev pub rk_ledger_request_wrong : List (Row Input Outcome)
rk_ledger_request_wrong =
    (words 0 257 0 0 0, (Request 100, 7 ∷ 7 ∷ [])) never shown 0 (1 ∷ 257 ∷ []) (words 0 257 0 1 257)  -- more than 200 numbers asked for
    ∷ (words 0 257 0 0 0, (Request 100, 7 ∷ 7 ∷ [])) only shown 0 (1 ∷ 200 ∷ []) (words 0 257 0 1 200)
    ∷ (words 0 257 0 1 200, (Request 100, 7 ∷ 7 ∷ [])) only shown 14 (7 ∷ 7 ∷ []) (words 0 257 0 1 200)  -- not asked again
    ∷ []

pub rk_ledger_request_rules_out : RulesOut (Kept _ rk-request-kinds.ps rk-request-kinds.r rk-request.Post) (λ c. (c.args.0.now, (Request c.args.1.0, c.args.1.1.0.now))) (λ c. shown c.result c.exit.1.1.0.now c.exit.0.now) rk_ledger_request_wrong
unfolding book_of ledger_of next_by rotated map_of value_of number_to own_number checked_of sound_of map_rules range_rules has passes taken reach leaps gave_up handed replied raised waiting asked done missing_count held_count values_of answer_to fresh open_of run count_trailing_zeros ones words_of pending_in ledger_in kept_by words_after told_by open_words ledger_told settled_row
rk_ledger_request_rules_out = ruled (beside numbers (beside lists lists)) (λ (i : Input). tells (call_told i.0 i.1.0) i.1.1 (words_after i.0 i.1.0)) (λ c p. said p) _ refl

-- one that tells nothing
abbrev pub rk_ledger_announce_wrong : List (Row (List ℕ × Call) Outcome)
rk_ledger_announce_wrong =
    (words 0 9 0 0 0, Announce 100 3) never shown 0 [] (words 0 3 0 0 0)  -- the top lowered
    ∷ (words 0 9 0 0 0, Announce 100 3) only shown 0 [] (words 0 9 0 0 0)
    ∷ []

pub rk_ledger_announce_rules_out : RulesOut (Kept _ rk-announce-kinds.ps rk-announce-kinds.r rk-announce.Post) (λ c. (c.args.0.now, Announce c.args.1.0 c.args.1.1.0)) (λ c. shown c.result [] c.exit.0.now) rk_ledger_announce_wrong
unfolding book_of ledger_of next_by rotated map_of value_of number_to own_number checked_of sound_of map_rules range_rules has passes taken reach leaps gave_up handed replied raised waiting asked done missing_count held_count values_of answer_to fresh open_of run count_trailing_zeros ones words_of pending_in ledger_in kept_by words_after told_by open_words ledger_told settled_row
rk_ledger_announce_rules_out = ruled (beside numbers (beside lists lists)) (λ (i : List ℕ × Call). shown (call_told i.0 i.1).number [] (words_after i.0 i.1)) (λ c p. plain p) _ refl

-- A REPLY tells nine words: the number that both sets count from, then a map of the given-up
-- numbers and one of those passed, number n at place n % 256
abbrev sets : ℕ → ℕ → ℕ → List ℕ
sets first given_up passed = first ∷ given_up ∷ 0 ∷ 0 ∷ 0 ∷ passed ∷ 0 ∷ 0 ∷ 0 ∷ []

-- 1 to 6 asked for, 1 and 2 passed, 4, 7 and 10 held
abbrev waits : ℕ → ℕ → List ℕ
waits first last = words 2 12 (2 ^ 4 + 2 ^ 7 + 2 ^ 10) first last

abbrev pub rk_ledger_reply_wrong : List (Row Input Outcome)
rk_ledger_reply_wrong =
    (words 0 3 0 1 3, (Reply 100 1 1, sets 9 9 9)) never shown 0 (sets 1 0 0) (words 3 3 0 0 0)  -- numbers received because a reply says so
    ∷ (words 0 3 0 1 3, (Reply 100 1 1, sets 9 9 9)) only shown 0 (sets 1 0 0) (words 0 3 0 0 0)
    ∷ (waits 1 6, (Reply 100 1 4, sets 9 9 9)) never shown 0 (sets 3 0 0) (waits 0 0)  -- status 4 only clears
    ∷ (waits 1 6, (Reply 100 1 4, sets 9 9 9)) never shown 0 (sets 3 (2 ^ 4 + 2 ^ 7) (2 ^ 3 + 2 ^ 5 + 2 ^ 6)) (words 7 12 (2 ^ 10) 0 0)  -- the sets swapped
    ∷ (waits 1 6, (Reply 100 1 4, sets 9 9 9)) only shown 0 (sets 3 (2 ^ 3 + 2 ^ 5 + 2 ^ 6) (2 ^ 4 + 2 ^ 7)) (words 7 12 (2 ^ 10) 0 0)
    ∷ (waits 1 6, (Reply 100 2 4, sets 9 9 9)) never shown 16 (sets 0 0 0) (waits 1 6)  -- sets written beside 16
    ∷ (waits 1 6, (Reply 100 2 4, sets 9 9 9)) only shown 16 (sets 9 9 9) (waits 1 6)
    ∷ []

pub rk_ledger_reply_rules_out : RulesOut (Kept _ rk-reply-kinds.ps rk-reply-kinds.r rk-reply.Post) (λ c. (c.args.0.now, (Reply c.args.1.0 c.args.1.1.0 c.args.1.1.1.0, c.args.1.1.1.1.0.now))) (λ c. shown c.result c.exit.1.1.1.1.0.now c.exit.0.now) rk_ledger_reply_wrong
unfolding book_of ledger_of next_by rotated map_of value_of number_to own_number checked_of sound_of map_rules range_rules has passes taken reach leaps gave_up handed replied raised waiting asked done missing_count held_count values_of answer_to fresh open_of run count_trailing_zeros ones words_of pending_in ledger_in kept_by words_after told_by open_words ledger_told settled_row
rk_ledger_reply_rules_out = ruled (beside numbers (beside lists lists)) (λ (i : Input). tells (reply_told i.0 i.1.0) i.1.1 (words_after i.0 i.1.0)) (λ c p. said p) _ refl

-- SETTLED_ROW: a reply's two sets
abbrev settled : ℕ → ℕ → ℕ → Settled
settled first given_up passed = record { first = tick_of first; given_up = map_of given_up; passed = map_of passed }

abbrev pub settled_row_wrong : List (Row Settled (List ℕ))
settled_row_wrong =
    settled 3 (2 ^ 3 + 2 ^ 70) (2 ^ 4) never (3 ∷ 2 ^ 4 ∷ 0 ∷ 0 ∷ 0 ∷ 2 ^ 3 ∷ 2 ^ 6 ∷ 0 ∷ 0 ∷ [])  -- the received numbers named as given up
    ∷ settled 3 (2 ^ 3 + 2 ^ 70) (2 ^ 4) never (0 ∷ 2 ^ 3 ∷ 2 ^ 6 ∷ 0 ∷ 0 ∷ 2 ^ 4 ∷ 0 ∷ 0 ∷ 0 ∷ [])  -- without the number that they count from
    ∷ settled 3 (2 ^ 3 + 2 ^ 70) (2 ^ 4) only (3 ∷ 2 ^ 3 ∷ 2 ^ 6 ∷ 0 ∷ 0 ∷ 2 ^ 4 ∷ 0 ∷ 0 ∷ 0 ∷ [])
    ∷ []

pub settled_row_rules_out : RulesOut (Kept _ settled-row-kinds.ps settled-row-kinds.r settled-row.Post) (λ c. c.args.0) (λ c. c.result) settled_row_wrong
unfolding map_of
settled_row_rules_out = ruled lists (λ (s : Settled). row_of s.first.0 s.given_up s.passed) (λ c p. p) _ refl

-- A NEW SESSION: the words
abbrev pub rk_ledger_renew_wrong : List (Row (List ℕ) Outcome)
rk_ledger_renew_wrong =
    waits 1 6 never shown 0 [] (waits 1 6)  -- the pending request is kept
    ∷ waits 1 6 never shown 0 [] (words 0 12 (2 ^ 4 + 2 ^ 7 + 2 ^ 10) 0 0)  -- the floor is forgotten
    ∷ waits 1 6 never shown 0 [] (words 2 10 (2 ^ 4 + 2 ^ 7 + 2 ^ 10) 0 0)  -- the top is lowered
    ∷ waits 1 6 never shown 14 [] (waits 1 6)  -- a sound ledger is refused
    ∷ waits 1 6 only shown 0 [] (waits 0 0)
    ∷ waits 0 0 only shown 0 [] (waits 0 0)
    ∷ words 0 3 (2 ^ 1) 1 3 never shown 13 [] (words 0 3 (2 ^ 1) 0 0)  -- cleared beside 13
    ∷ words 0 3 (2 ^ 1) 1 3 only shown 13 [] (words 0 3 (2 ^ 1) 1 3)
    ∷ []

pub rk_ledger_renew_rules_out : RulesOut (Kept _ rk-renew-kinds.ps rk-renew-kinds.r rk-renew.Post) (λ c. c.args.0.now) (λ c. shown c.result [] c.exit.0.now) rk_ledger_renew_wrong
unfolding book_of ledger_of next_by rotated map_of value_of number_to own_number checked_of sound_of map_rules range_rules has passes taken reach leaps gave_up handed replied raised waiting asked done missing_count held_count values_of answer_to fresh open_of run count_trailing_zeros ones words_of pending_in ledger_in kept_by words_after told_by open_words ledger_told settled_row
rk_ledger_renew_rules_out = ruled (beside numbers (beside lists lists)) (λ (w : List ℕ). shown (call_told w Renew).number [] (words_after w Renew)) (λ c p. plain p) _ refl

-- TOLD: the words, and the told row before
abbrev pub rk_ledger_told_wrong : List (Row (List ℕ × List ℕ) (ℕ × List ℕ))
rk_ledger_told_wrong =
    (words 5 9 (2 ^ 7) 6 6, 7 ∷ []) never (0, 100 ∷ 5 ∷ 9 ∷ 4 ∷ 1 ∷ 6 ∷ 6 ∷ [])  -- held numbers counted as missing
    ∷ (words 5 9 (2 ^ 7) 6 6, 7 ∷ []) only (0, 100 ∷ 5 ∷ 9 ∷ 3 ∷ 1 ∷ 6 ∷ 6 ∷ [])
    ∷ (words 5 9 (2 ^ 6) 0 0, 7 ∷ []) only (13, 7 ∷ [])  -- words that stand for no state tell nothing
    ∷ []

pub rk_ledger_told_rules_out : RulesOut (Kept _ rk-told-kinds.ps rk-told-kinds.r rk-told.Post) (λ c. (c.args.0.now, c.args.1.0.now)) (λ c. (c.result, c.exit.1.0.now)) rk_ledger_told_wrong
unfolding book_of ledger_of next_by rotated map_of value_of number_to own_number checked_of sound_of map_rules range_rules has passes taken reach leaps gave_up handed replied raised waiting asked done missing_count held_count values_of answer_to fresh open_of run count_trailing_zeros ones words_of pending_in ledger_in kept_by words_after told_by open_words ledger_told settled_row
rk_ledger_told_rules_out = ruled (beside numbers lists) (λ (i : List ℕ × List ℕ). ((ledger_told i.0).number, told_by (ledger_told i.0) i.1)) (λ c p. ap₂ (λ (n : ℕ) (r : List ℕ). (n, r)) p.answered p.told) _ refl

-- A SPAN: the words, a question, and the told number before
abbrev pub rk_ledger_missing_wrong : List (Row (List ℕ × (Call × ℕ)) (ℕ × ℕ))
rk_ledger_missing_wrong =
    (words 5 9 (2 ^ 7) 0 0, (Ask (Between 100 6 8), 77)) never (0, 3)  -- held numbers counted as missing
    ∷ (words 5 9 (2 ^ 7) 0 0, (Ask (Between 100 6 8), 77)) only (0, 2)
    ∷ (words 5 9 (2 ^ 7) 0 0, (Ask (Between 100 9 6), 77)) never (0, 3)  -- a and b swapped
    ∷ (words 5 9 (2 ^ 7) 0 0, (Ask (Between 100 9 6), 77)) only (0, 0)
    ∷ (words 5 9 (2 ^ 7) 0 0, (Ask (Between 101 6 8), 77)) never (18, 0)  -- something told beside 18
    ∷ (words 5 9 (2 ^ 7) 0 0, (Ask (Between 101 6 8), 77)) only (18, 77)
    ∷ (words 5 9 (2 ^ 7) 0 0, (Ask (Between 100 6 0), 77)) only (10, 77)
    ∷ (words 5 9 (2 ^ 6) 0 0, (Ask (Between 100 6 0), 77)) only (13, 77)
    ∷ []

pub rk_ledger_missing_rules_out : RulesOut (Kept _ rk-missing-kinds.ps rk-missing-kinds.r rk-missing.Post) (λ c. (c.args.0.now, (Ask (Between c.args.1.0 c.args.1.1.0 c.args.1.1.1.0), c.args.1.1.1.1.0.now))) (λ c. (c.result, c.exit.1.1.1.1.0.now)) rk_ledger_missing_wrong
unfolding book_of ledger_of next_by rotated map_of value_of number_to own_number checked_of sound_of map_rules range_rules has passes taken reach leaps gave_up handed replied raised waiting asked done missing_count held_count between_count values_of answer_to fresh open_of run count_trailing_zeros ones words_of pending_in ledger_in kept_by words_after told_by open_words ledger_told settled_row
rk_ledger_missing_rules_out =
    ruled (beside numbers numbers) (λ (i : List ℕ × (Call × ℕ)). ((call_told i.0 i.1.0).number, get_or (told_by (call_told i.0 i.1.0) (i.1.1 ∷ [])) 0 0))
    (λ c p. ap₂ (λ (n m : ℕ). (n, m)) p.answered (ap (λ (l : List ℕ). get_or l 0 0) p.told)) _ refl
