-- The words of a sound ledger stand for it (`words_back`), so a call through the host is that call
-- on the ledger. Words that break the state rules are refused by 13. Assumes nothing.
use Prim.Native.Nat.{ℕ, max, ◌<◌}
use mathlib.Core.Path.{◌≡◌, ap, ap₂, ◌∙◌}
use mathlib.Core.Bool.{true, false}
use mathlib.Core.Logic.{⊎_elim, ◌↔◌}
use mathlib.Core.List.{List}
use lib.Dec.{eqb}
use lib.ListN.{get_or}
use Rattle.terms.specs.Cases.{two}
use Rattle.ledger_spec.specs.State.{Book, StateRules}
use Rattle.ledger_spec.specs.Calls.{Call, Tick, answer_to, next_of}
use Rattle.ledger_spec.proofs.Answers.{keeps}
use Rattle.ledger_spec.proofs.Given.{given_12, given_13}
use Rattle.ledger.specs.declared.Ledger.{Ledger}
use Rattle.ledger.specs.State.{book_of, ledger_of, next_in}
use Rattle.ledger.proofs.Seam.{book_of_lem, topped_of, far_by, next_keeps}
use Rattle.host_words.proofs.Back.{book_words, top_words, channel_too_large}
use Rattle.host_words.specs.Words.{words_of, ledger_in, with_top, book_in}
use Rattle.host_words.specs.Calls.{kept_by, call_told, words_after}

-- A CALL ON THE WORDS OF A SOUND LEDGER IS THE CALL ON THE LEDGER

module _ (b : Book) (r : StateRules b) (call : Call) where
  abbrev words : List ℕ
  words = words_of (ledger_of b)

  abbrev next : List ℕ
  next = words_of (ledger_of (next_of b call))

  -- a refusal other than 12 stores nothing, and then the next ledger is the same
  kept : kept_by (answer_to b call).number (ledger_of (next_of b call)) words ≡ next
  unfolding kept_by
  kept =
      ⊎_elim (λ (t : eqb (answer_to b call).number 0 ≡ true). rw t)
      (λ (f : eqb (answer_to b call).number 0 ≡ false).
      ⊎_elim (λ (t : eqb (answer_to b call).number 12 ≡ true). rw (f, t))
      (λ (g : eqb (answer_to b call).number 12 ≡ false). rw (f, g, (keeps b call).same f g))
      (two (eqb (answer_to b call).number 12)))
      (two (eqb (answer_to b call).number 0))

  pub call_words : words_after words call ≡ next
  unfolding words_after
  call_words =
      ap (λ (l : Ledger). kept_by (answer_to (book_of l) call).number (next_in l call) words) (book_words b r)
      ∙ ap₂ (λ (x : Book) (l : Ledger). kept_by (answer_to x call).number l words) (book_of_lem b r.places) (next_keeps book_of ledger_of b (book_of_lem b r.places) (topped_of b) call) ∙ kept

-- 12 changes the third word alone, the top: it is raised to the tick, if it was lower
pub far_words : (w : List ℕ) (channel n : ℕ) → (call_told w (Tick channel n)).number ≡ 12 → words_after w (Tick channel n) ≡ with_top w (max (get_or w 2 0) n)
unfolding words_after kept_by answer_to ledger_in
far_words w channel n f = rw f (ap words_of (far_by book_of ledger_of (ledger_in w) (Tick channel n) f) ∙ top_words w (max (get_or w 2 0) n) ((given_12 (book_in w) channel n).0 f).rules)

-- WORDS THAT BREAK THE STATE RULES ARE REFUSED

pub words_broken : (w : List ℕ) (call : Call) → ((call_told w call).number ≡ 13) ↔ (StateRules (book_in w) → ⊥)
unfolding answer_to
words_broken w call = given_13 (book_in w) call

-- a channel above 9,999 among them, however large
pub channel_broken : (w : List ℕ) (call : Call) → 9999 < get_or w 0 0 → (call_told w call).number ≡ 13
channel_broken w call h = (words_broken w call).1 (channel_too_large w h)
