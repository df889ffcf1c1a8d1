-- Each offer from the calls that the reading makes.
use Rattle.std.specs.Prelude.{ℕ, ◌≡◌, [], ◌∷◌, refl, ⊤, Result, Ok, Err, MatchResult, IsOkAnd}
use Rattle.terms.specs.declared.Refusal.{Refusal}
use Rattle.terms.specs.Verdicts.{verdict_number}
use Rattle.ledger.specs.Papers.{paper_of, tick_paper}
use Rattle.std.proofs.Common.{sym, ap, ◌∙◌}
use Rattle.tick_map.specs.Bits.{Words}
use Rattle.ledger_spec.specs.State.{Book}
use Rattle.ledger_spec.specs.Calls.{Call, number_to, next_of}
use Rattle.ledger.specs.State.{book_of, ledger_of, next_in}
use Rattle.ledger.specs.declared.Ledger.{Ledger}
use Rattle.ledger.specs.declared.Passed.{Passed}
use Rattle.ledger.proofs.Seam.{ledger_of_lem, next_of_lem}
use Rattle.reading.specs.declared.Seen.{Seen}
use Rattle.reading.specs.Seen.{seen_number}
use Rattle.walk_spec.specs.Offers.{calls_by, offering, offer_of}

-- an answer's number is its paper's
pub verdict_paper : (a : Result ⊤ Refusal) → verdict_number a ≡ (paper_of a).number
verdict_paper (Ok _) = refl
verdict_paper (Err w) = refl

-- and stays that of a tick's where what it passed is left out
pub verdict_mapped : (P : Passed → ⊤ → Type 0) (a : Result Passed Refusal) (b : Result ⊤ Refusal) → MatchResult a (λ x. IsOkAnd b (P x)) (λ w. b ≡ Err w)
    → verdict_number b ≡ (tick_paper a).number
verdict_mapped P (Ok x) (Ok _) h = refl
verdict_mapped P (Ok x) (Err w) h = absurd h
verdict_mapped P (Err w) b h = ap verdict_number h

-- the number n and the ledger k where no call is made, and where one is, from any book
module _ (n : ℕ) (k : Ledger) (b : Book) (x : Seen) where
  pub offer_none : calls_by x ≡ [] → n ≡ seen_number x → k ≡ ledger_of b → (n ≡ (offer_of b x).number) × (k ≡ ledger_of (offer_of b x).book)
  unfolding offer_of offering
  offer_none e p q = rw e (p, q)

  pub offer_one : (call : Call) → calls_by x ≡ call ∷ [] → n ≡ number_to b call → k ≡ ledger_of (next_of b call)
      → (n ≡ (offer_of b x).number) × (k ≡ ledger_of (offer_of b x).book)
  unfolding offer_of offering
  offer_one call e p q = rw e (p, q)

-- the number n and the ledger k are what offering comes to
abbrev pub Offers : Ledger → Seen → ℕ → Ledger → Type 0
Offers l x n k = (n ≡ (offer_of (book_of l) x).number) × (k ≡ ledger_of (offer_of (book_of l) x).book)

-- where no call is made, and where one is
module _ (l : Ledger) (w : Words l.map.words) (x : Seen) where
  pub offers_none : (n : ℕ) → calls_by x ≡ [] → n ≡ seen_number x → Offers l x n l
  offers_none n e p = offer_none n l (book_of l) x e p (sym (ledger_of_lem l w))

  pub offers_one : (call : Call) (n : ℕ) (k : Ledger) → calls_by x ≡ call ∷ [] → n ≡ number_to (book_of l) call → k ≡ next_in l call → Offers l x n k
  offers_one call n k e p q = offer_one n k (book_of l) x call e p (q ∙ next_of_lem l w call)
