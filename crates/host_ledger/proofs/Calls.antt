-- A ledger call on the ledger that the words stand for is that call through the host: what it
-- answers and tells, and the words after it. Assumes nothing.
use Prim.Native.Nat.{ℕ}
use mathlib.Core.Path.{◌≡◌, ap, ap₂, ◌∙◌}
use mathlib.Core.List.{List}
use Rattle.terms.specs.declared.ChannelNumber.{ChannelNumber}
use Rattle.terms.specs.declared.Refusal.{Refusal}
use Rattle.terms.specs.Paper.{Paper, answer, refusal, one_number}
use Rattle.terms.specs.Refusals.{number_of}
use Rattle.terms.specs.Counters.{channel_of}
use Rattle.ledger_spec.specs.Calls.{Call, answer_to, open_number, open_of}
use Rattle.ledger.specs.declared.Ledger.{Ledger}
use Rattle.std.specs.Prelude.{⊤, refl, Result, Ok, Err}
use Rattle.terms.specs.Verdicts.{verdict_number}
use Rattle.ledger.specs.declared.Settled.{Settled}
use Rattle.ledger.specs.State.{book_of, ledger_of, next_in}
use Rattle.ledger.specs.Papers.{reply_paper, laid_reply, paper_of}
use Rattle.host_words.specs.Told.{Tells, retold, tells_done, tells_why}
use Rattle.host_words.specs.Words.{ledger_in}
use Rattle.host_words.specs.Calls.{kept_by, call_told, words_after}
use Rattle.host_ledger.specs.Words.{open_words, row_of, settled_row, reply_told, settled_row_lem}

-- the call as it is given, on the ledger l, and the ledger next that it gives
module _ (w : List ℕ) {l next : Ledger} {given call : Call} (le : l ≡ ledger_in w) (ce : given ≡ call) (xe : next ≡ next_in l given) where
  paper_is : answer_to (book_of l) given ≡ call_told w call
  paper_is = ap₂ (λ (x : Ledger) (y : Call). answer_to (book_of x) y) le ce

  words_are : {n : ℕ} {row : List ℕ} → n ≡ (answer_to (book_of l) given).number → row ≡ kept_by n next w → row ≡ words_after w call
  unfolding words_after
  words_are {n} {row} ne e = rw (← le, ← ce, ← ne, ← xe) e

  -- a call that tells nothing
  pub answers : {p : Paper} {n : ℕ} {row : List ℕ} → p ≡ answer_to (book_of l) given → n ≡ p.number → row ≡ kept_by n next w
      → (n ≡ (call_told w call).number) × (row ≡ words_after w call)
  answers pe ne e = (ne ∙ one_number (pe ∙ paper_is), words_are (ne ∙ one_number pe) e)

  -- one that tells something, refused: m is the number answered, n the one that the words are kept
  -- by
  pub refuses : (why : Refusal) (was : List ℕ) {m n : ℕ} {row : List ℕ} → refusal (number_of why) ≡ answer_to (book_of l) given → m ≡ number_of why → n ≡ number_of why → row ≡ kept_by n next w
      → Tells (call_told w call) was m was × (row ≡ words_after w call)
  refuses why was pe me ne e = (tells_why _ was why _ me (one_number (pe ∙ paper_is)), words_are (ne ∙ one_number pe) e)

  -- and done
  pub tells : (vs was : List ℕ) {n : ℕ} {row : List ℕ} → answer 0 vs ≡ answer_to (book_of l) given → n ≡ 0 → row ≡ kept_by n next w
      → Tells (call_told w call) was 0 vs × (row ≡ words_after w call)
  tells vs was pe ne e = (tells_done _ was vs (pe ∙ paper_is), words_are (ne ∙ one_number pe) e)

  -- a reply, whose sets are told as words: refused, and done
  pub reply_refuses : (why : Refusal) (was : List ℕ) {m n : ℕ} {row : List ℕ} → reply_paper (Err why) ≡ answer_to (book_of l) given → m ≡ number_of why → n ≡ number_of why → row ≡ kept_by n next w
      → Tells (reply_told w call) was m was × (row ≡ words_after w call)
  reply_refuses why was pe me ne e = (tells_why _ was why _ me (one_number (pe ∙ paper_is)), words_are (ne ∙ one_number pe) e)

  pub reply_tells : (s : Settled) (was : List ℕ) {told row : List ℕ} {n : ℕ} → reply_paper (Ok s) ≡ answer_to (book_of l) given
      → Ok s ≡ laid_reply (Ok s) → told ≡ row_of s.first.0 s.given_up s.passed → n ≡ 0 → row ≡ kept_by n next w
      → Tells (reply_told w call) was 0 told × (row ≡ words_after w call)
  reply_tells s was pe le te ne e =
      (rw (te ∙ settled_row_lem s le) (tells_done (reply_told w call) was _ (ap (retold settled_row) (pe ∙ paper_is))), words_are (ne ∙ one_number pe) e)

-- the number of an answer that tells nothing
pub plain_number : (a : Result ⊤ Refusal) → verdict_number a ≡ (paper_of a).number
plain_number (Ok _) = refl
plain_number (Err why) = refl

-- opening
pub opened_words : (was : List ℕ) {channel : ℕ} {k : ChannelNumber} {n : ℕ} {next : Ledger} {row : List ℕ} → k ≡ channel_of channel → n ≡ open_number channel
    → next ≡ ledger_of (open_of k.0) → row ≡ kept_by n next was → row ≡ open_words channel was
unfolding open_words
opened_words was ke ne xe e = e ∙ ap₂ (λ (m : ℕ) (l : Ledger). kept_by m l was) ne (xe ∙ ap (λ (x : ChannelNumber). ledger_of (open_of x.0)) ke)
