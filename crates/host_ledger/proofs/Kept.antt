-- What a refusal leaves: the words as they were. Assumes nothing.
use Prim.Native.Nat.{ℕ}
use mathlib.Core.Path.{◌≡◌}
use mathlib.Core.Bool.{true, false}
use mathlib.Core.Logic.{⊎_elim}
use mathlib.Core.List.{List}
use native.Mathlib.Omega.{arith}
use lib.Dec.{ltb}
use borrow.Author.Tests.{eqb-false}
use Rattle.terms.specs.Cases.{two}
use Rattle.ledger_spec.specs.Calls.{Call, Announce, Request, Reply, Renew, answer_to, open_number}
use Rattle.ledger.proofs.Seam.{announce_not_12, request_not_12, reply_not_12, renew_not_12}
use Rattle.host_words.specs.Words.{book_in}
use Rattle.host_words.specs.Calls.{call_told, words_after, kept_by_lem}
use Rattle.host_ledger.specs.Words.{open_words}

pub call_kept : (w : List ℕ) (call : Call) → ((call_told w call).number ≡ 0 → ⊥) → ((call_told w call).number ≡ 12 → ⊥) → words_after w call ≡ w
unfolding words_after
call_kept w call z f = kept_by_lem _ _ w z f

-- only a tick is answered 12
pub announce_kept : (w : List ℕ) (channel n : ℕ) → ((call_told w (Announce channel n)).number ≡ 0 → ⊥) → words_after w (Announce channel n) ≡ w
unfolding answer_to
announce_kept w channel n z = call_kept w (Announce channel n) z (eqb-false _ 12 (announce_not_12 (book_in w) channel n))

pub request_kept : (w : List ℕ) (channel : ℕ) → ((call_told w (Request channel)).number ≡ 0 → ⊥) → words_after w (Request channel) ≡ w
unfolding answer_to
request_kept w channel z = call_kept w (Request channel) z (eqb-false _ 12 (request_not_12 (book_in w) channel))

pub reply_kept : (w : List ℕ) (channel first status : ℕ) → ((call_told w (Reply channel first status)).number ≡ 0 → ⊥) → words_after w (Reply channel first status) ≡ w
unfolding answer_to
reply_kept w channel first status z = call_kept w (Reply channel first status) z (eqb-false _ 12 (reply_not_12 (book_in w) channel first status))

pub renew_kept : (w : List ℕ) → ((call_told w Renew).number ≡ 0 → ⊥) → words_after w Renew ≡ w
unfolding answer_to
renew_kept w z = call_kept w Renew z (eqb-false _ 12 (renew_not_12 (book_in w)))

open_not_12 : (channel : ℕ) → open_number channel ≡ 12 → ⊥
open_not_12 channel e = ⊎_elim (λ (t : ltb 9999 channel ≡ true). omega (arith, rw t at e)) (λ (f : ltb 9999 channel ≡ false). omega (arith, rw f at e)) (two (ltb 9999 channel))

pub open_kept : (channel : ℕ) (was : List ℕ) → (open_number channel ≡ 0 → ⊥) → open_words channel was ≡ was
unfolding open_words
open_kept channel was z = kept_by_lem _ _ was z (open_not_12 channel)
