-- What opening a ledger leaves of its nine words, and what they have to tell.
use Rattle.std.specs.Prelude.{ℕ, ◌≡◌, refl, List, [], ◌∷◌, ◌++◌, get_or, Result, Ok, Err}
use Rattle.std.specs.Result.{result_unwrap_or}
use Rattle.std.proofs.Common.{sym, ap, ◌∙◌}
use Rattle.terms.specs.Verdicts.{verdict_number}
use Rattle.terms.specs.declared.Refusal.{Refusal}
use Rattle.terms.specs.Paper.{Paper, answer}
use Rattle.tick_map.specs.Bits.{map_of}
use Rattle.tick_map.specs.Ring.{laid}
use Rattle.tick_map.specs.declared.Map.{Map}
use Rattle.ledger_spec.specs.Calls.{Call, Ask, Missing, Held, answer_to, open_number, open_of}
use Rattle.ledger.specs.declared.Ledger.{Ledger}
use Rattle.ledger.specs.declared.Settled.{Settled}
use Rattle.ledger.specs.State.{book_of, ledger_of}
use Rattle.ledger.specs.Papers.{reply_paper, laid_reply, count_paper}
use Rattle.host_words.specs.Words.{first_asked, last_asked, ledger_in}
use Rattle.host_words.specs.Told.{retold}
use Rattle.host_words.specs.Calls.{kept_by, call_told}

-- the words after opening: 10 leaves them as they were
unfoldable pub open_words : ℕ → List ℕ → List ℕ
open_words channel was = kept_by (open_number channel) (ledger_of (open_of channel)) was

-- channel, floor, top, how many are missing, how many are held, the pending request's first and
-- last number; or 13
unfoldable pub ledger_told : List ℕ → Paper
ledger_told w =
    answer (call_told w (Ask Missing)).number
    ((ledger_in w).channel.0 ∷ (ledger_in w).floor.0 ∷ (ledger_in w).top.0
    ∷ ((call_told w (Ask Missing)).values ++ ((call_told w (Ask Held)).values ++ (first_asked (ledger_in w).pending ∷ last_asked (ledger_in w).pending ∷ []))))

-- A REPLY'S TWO SETS as nine words: the number that they count from, the four words of a map with
-- the given-up numbers, and of one with the received numbers newly passed. A number's place in
-- either is its remainder by 256, as in the ledger's own map.
abbrev pub row_of : ℕ → Map → Map → List ℕ
row_of first given_up passed =
    first ∷ get_or given_up.words 0 0 ∷ get_or given_up.words 1 0 ∷ get_or given_up.words 2 0 ∷ get_or given_up.words 3 0
    ∷ get_or passed.words 0 0 ∷ get_or passed.words 1 0 ∷ get_or passed.words 2 0 ∷ get_or passed.words 3 0 ∷ []

-- of the values of its paper, where a set is one number whose digit i stands for first + i
unfoldable pub settled_row : List ℕ → List ℕ
settled_row vs = row_of (get_or vs 0 0) (map_of (laid (get_or vs 0 0) (get_or vs 1 0))) (map_of (laid (get_or vs 0 0) (get_or vs 2 0)))

abbrev pub reply_told : List ℕ → Call → Paper
reply_told w call = retold settled_row (call_told w call)

-- PROOFS

-- maps that are laid as they are read
pub settled_row_lem : (s : Settled) → Ok s ≡ laid_reply (Ok s) → row_of s.first.0 s.given_up s.passed ≡ settled_row (reply_paper (Ok s)).values
unfolding settled_row
settled_row_lem s e = ap row_in e
  where
    row_in : Result Settled Refusal → List ℕ
    row_in (Ok r) = row_of r.first.0 r.given_up r.passed
    row_in (Err why) = []

-- a count by its number, 0 beside a refusal
count_beside : (a : Result ℕ Refusal) → count_paper a ≡ answer (verdict_number a) (result_unwrap_or a 0 ∷ [])
count_beside (Ok n) = refl
count_beside (Err why) = refl

pub ledger_told_lem : (w : List ℕ) (l : Ledger) (n missing : ℕ) (held : Result ℕ Refusal) → l ≡ ledger_in w → answer n (missing ∷ []) ≡ answer_to (book_of l) (Ask Missing) → count_paper held ≡ answer_to (book_of l) (Ask Held)
    → answer n (l.channel.0 ∷ l.floor.0 ∷ l.top.0 ∷ missing ∷ result_unwrap_or held 0 ∷ first_asked l.pending ∷ last_asked l.pending ∷ []) ≡ ledger_told w
unfolding ledger_told
ledger_told_lem w l n missing held e f g = rw (← e, ← f, ← (sym (count_beside held) ∙ g))

pub ledger_told_number : (w : List ℕ) (l : Ledger) (n missing : ℕ) → l ≡ ledger_in w → answer n (missing ∷ []) ≡ answer_to (book_of l) (Ask Missing) → n ≡ (ledger_told w).number
unfolding ledger_told
ledger_told_number w l n missing e f = rw (← e, ← f)
