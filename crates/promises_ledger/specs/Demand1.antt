-- Demand 1 of the ledger, sentence by sentence, as Demand1.antt of `promises` has it.
use Rattle.std.specs.Prelude.{ℕ, max, ◌≡◌, refl, true, false, ⊤, Result, Ok, Err}
use Rattle.terms.specs.Counters.{tick_of}
use Rattle.terms.specs.Paper.{Paper}
use Rattle.ledger.specs.declared.Ledger.{Ledger}
use Rattle.terms.specs.declared.Refusal.{Refusal}
use Rattle.ledger.specs.declared.Passed.{Passed}
use Rattle.ledger.specs.declared.Range.{Range}
use Rattle.ledger.specs.declared.Settled.{Settled}
use Rattle.ledger_spec.specs.State.{Book}
use Rattle.ledger_spec.specs.Calls.{Call, Tick, offered, answer_to, next_of}
use Rattle.ledger_spec.specs.Answers.{OnlyTop}
use Rattle.ledger_spec.proofs.Answers.{keeps}
use Rattle.ledger.specs.Papers.{tick_paper, request_paper, reply_paper, count_paper, paper_of}
use Rattle.ledger.specs.Trace.{Promise}
use Rattle.ledger_spec.specs.Words.{answered}
use Rattle.ledger.proofs.Promised.{refused_gives_back, far_raises_top}
use Rattle.tick_map.proofs.OneAnswer as tick_map
use Rattle.ledger.proofs.OneAnswer as ledger
use Rattle.host_words.proofs.OneAnswer as host_words
use Rattle.host_ledger.proofs.OneAnswer as host_ledger
use Rattle.promises_words.specs.Words.{Named, named, refusal_in_table, Numbered, done, refused}

-- "EVERY PUBLIC ENTRY POINT TAKES ALL INPUT"

-- tick_map
map_answers : Named
map_answers =
    let Map-new-one-answer = tick_map.Map-new-one-answer in
    let Map-held-one-answer = tick_map.Map-held-one-answer in
    let Map-holds-one-answer = tick_map.Map-holds-one-answer in
    let Map-with-one-answer = tick_map.Map-with-one-answer in
    let Map-empty-one-answer = tick_map.Map-empty-one-answer in
    let Map-first-from-one-answer = tick_map.Map-first-from-one-answer in
    let Map-run-from-one-answer = tick_map.Map-run-from-one-answer in
    let Map-held-from-one-answer = tick_map.Map-held-from-one-answer in
    let Map-none-but-one-answer = tick_map.Map-none-but-one-answer in
    let Map-cleared-one-answer = tick_map.Map-cleared-one-answer in
    let Map-only-one-answer = tick_map.Map-only-one-answer in
    let Map-lacking-one-answer = tick_map.Map-lacking-one-answer in
    named

-- ledger
ledger_answers : Named
ledger_answers =
    let Ledger-opened-one-answer = ledger.Ledger-opened-one-answer in
    let Ledger-tick-one-answer = ledger.Ledger-tick-one-answer in
    let Ledger-announce-one-answer = ledger.Ledger-announce-one-answer in
    let Ledger-request-one-answer = ledger.Ledger-request-one-answer in
    let Ledger-reply-one-answer = ledger.Ledger-reply-one-answer in
    let Ledger-renewed-one-answer = ledger.Ledger-renewed-one-answer in
    let Ledger-missing-one-answer = ledger.Ledger-missing-one-answer in
    let Ledger-held-one-answer = ledger.Ledger-held-one-answer in
    let Ledger-missing-between-one-answer = ledger.Ledger-missing-between-one-answer in
    named

-- host_words
words_answers : Named
words_answers =
    let ledger_in_one_answer = host_words.ledger_in_one_answer in
    let state_of_one_answer = host_words.state_of_one_answer in
    let first_asked_one_answer = host_words.first_asked_one_answer in
    let last_asked_one_answer = host_words.last_asked_one_answer in
    let keep_one_answer = host_words.keep_one_answer in
    let told_bytes_one_answer = host_words.told_bytes_one_answer in
    named

-- host_ledger
host_ledger_answers : Named
host_ledger_answers =
    let rk_ledger_open_one_answer = host_ledger.rk_ledger_open_one_answer in
    let rk_ledger_tick_one_answer = host_ledger.rk_ledger_tick_one_answer in
    let rk_ledger_announce_one_answer = host_ledger.rk_ledger_announce_one_answer in
    let rk_ledger_request_one_answer = host_ledger.rk_ledger_request_one_answer in
    let rk_ledger_reply_one_answer = host_ledger.rk_ledger_reply_one_answer in
    let rk_ledger_renew_one_answer = host_ledger.rk_ledger_renew_one_answer in
    let rk_ledger_missing_one_answer = host_ledger.rk_ledger_missing_one_answer in
    let settled_row_one_answer = host_ledger.settled_row_one_answer in
    let rk_ledger_told_one_answer = host_ledger.rk_ledger_told_one_answer in
    named

-- "AND REFUSES WHAT IT CAN'T USE WITH A NUMBER FROM DOCUMENT 01"

pub tick_numbered : (x : Result Passed Refusal) → Numbered (tick_paper x).number
tick_numbered (Ok p) = done refl
tick_numbered (Err w) = refused (refusal_in_table w)

pub request_numbered : (x : Result Range Refusal) → Numbered (request_paper x).number
request_numbered (Ok r) = done refl
request_numbered (Err w) = refused (refusal_in_table w)

pub reply_numbered : (x : Result Settled Refusal) → Numbered (reply_paper x).number
reply_numbered (Ok s) = done refl
reply_numbered (Err w) = refused (refusal_in_table w)

-- the counts
pub count_numbered : (x : Result ℕ Refusal) → Numbered (count_paper x).number
count_numbered (Ok n) = done refl
count_numbered (Err w) = refused (refusal_in_table w)

-- opening, announcing, a new session; the walk and cleaning answer counts (`verdict_numbered`)
pub plain_numbered : (x : Result ⊤ Refusal) → Numbered (paper_of x).number
plain_numbered (Ok tt) = done refl
plain_numbered (Err w) = refused (refusal_in_table w)

-- "A REFUSAL WRITES NOTHING INTO A LENT BUFFER"

words_buffers : Named
words_buffers =
    let keep_one_buffer = host_words.keep_one_buffer in
    let told_bytes_one_buffer = host_words.told_bytes_one_buffer in
    let told_bytes_refused_keeps = host_words.told_bytes_refused_keeps in
    named

host_ledger_buffers : Named
host_ledger_buffers =
    let rk_ledger_open_one_buffer = host_ledger.rk_ledger_open_one_buffer in
    let rk_ledger_open_refused_keeps = host_ledger.rk_ledger_open_refused_keeps in
    let rk_ledger_tick_one_buffer = host_ledger.rk_ledger_tick_one_buffer in
    let rk_ledger_tick_refused_keeps = host_ledger.rk_ledger_tick_refused_keeps in
    let rk_ledger_announce_one_buffer = host_ledger.rk_ledger_announce_one_buffer in
    let rk_ledger_announce_refused_keeps = host_ledger.rk_ledger_announce_refused_keeps in
    let rk_ledger_request_one_buffer = host_ledger.rk_ledger_request_one_buffer in
    let rk_ledger_request_refused_keeps = host_ledger.rk_ledger_request_refused_keeps in
    let rk_ledger_reply_one_buffer = host_ledger.rk_ledger_reply_one_buffer in
    let rk_ledger_reply_refused_keeps = host_ledger.rk_ledger_reply_refused_keeps in
    let rk_ledger_renew_one_buffer = host_ledger.rk_ledger_renew_one_buffer in
    let rk_ledger_renew_refused_keeps = host_ledger.rk_ledger_renew_refused_keeps in
    let rk_ledger_missing_one_buffer = host_ledger.rk_ledger_missing_one_buffer in
    let rk_ledger_missing_refused_keeps = host_ledger.rk_ledger_missing_refused_keeps in
    let rk_ledger_told_one_buffer = host_ledger.rk_ledger_told_one_buffer in
    let rk_ledger_told_refused_keeps = host_ledger.rk_ledger_told_refused_keeps in
    named

-- "ONLY A TICK NUMBER TOO FAR AHEAD CHANGES THE LEDGER, AND ONLY ITS KNOWN TOP."
-- For every state that is passed in, sound or not, and every call of the ledger that meets its
-- promise: a refusal other than 12 gives back the very ledger; 12 gives it back with its top raised
-- to that tick if it was lower, and nothing else changed.

pub refusals_keep_the_ledger : (l next : Ledger) (call : Call) (paper : Paper) → Promise l call next paper
    → answered paper 0 ≡ false → answered paper 12 ≡ false → next ≡ l
refusals_keep_the_ledger = refused_gives_back

pub far_raises_the_top : (l next : Ledger) (channel n : ℕ) (paper : Paper) → Promise l (Tick channel n) next paper
    → answered paper 12 ≡ true → next ≡ record { channel = l.channel; floor = l.floor; top = tick_of (max l.top.0 n); map = l.map; pending = l.pending }
far_raises_the_top = far_raises_top

-- and of any call answered 12 on any state: the top is raised to the number offered, and nothing
-- else changes
pub far_changes_the_top_alone : (b : Book) (call : Call) → answered (answer_to b call) 12 ≡ true → OnlyTop b (next_of b call) (offered call)
far_changes_the_top_alone b call = (keeps b call).far
