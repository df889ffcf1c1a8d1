-- The walk's ledger is the fresh one after the calls that its readings make; and what those calls
-- receive, its records tell.
use Rattle.std.specs.Prelude.{ℕ, ◌≡◌, Bool, true, false, ◌&&◌, List, [], ◌∷◌, eqb}
use Rattle.std.proofs.Math.Path.{refl}
use Rattle.std.proofs.Common.{◌∙◌, ⊎_elim}
use borrow.Author.Tests.{ne_eqb}
use Rattle.terms.specs.Cases.{same}
use Rattle.rules.specs.Table.{kind_of}
use Rattle.rules.specs.declared.Kind.{Kind}
use Rattle.rules.specs.declared.Kind.TheVariants.{S001, S002, S003, P001, P002, M101, M102, M201, Unknown}
use Rattle.ledger_spec.specs.State.{or_else}
use Rattle.ledger_spec.specs.Calls.{answer_to, fresh}
use Rattle.ledger_spec.specs.Trace.{Calls, none, after, trace}
use Rattle.ledger_spec.specs.Words.{received}
use Rattle.walk_laws.specs.Walk.{Sight}
use Rattle.walk_laws.specs.Account as Account
use Rattle.walk_laws.specs.Account.{account_of}
use Rattle.reading.specs.declared.Seen.{Seen}
use Rattle.reading.specs.Seen.{seen_number}
use Rattle.walk_spec.specs.Offers.{calls_for, calls_by, offering, offer_of}
use Rattle.walk_spec.specs.OfferLaws.{calls_refused, calls_of_lem}
use Rattle.walk_spec.specs.Walk.{made_of, record_by, book_by, sights, walk_of, added, calls_from, calls_of}
use Rattle.walk_spec.specs.CallLaws.{is_tick, brings, brought, book_by_lem, or_false}

turned : (a b c : Bool) → or_else b (or_else a c) ≡ or_else (or_else a b) c
turned true true c = refl
turned true false c = refl
turned false true c = refl
turned false false c = refl

and_false : (a : Bool) → a && false ≡ false
and_false true = refl
and_false false = refl

-- one reading
module _ (channel n : ℕ) (calls : Calls) where
  -- an accepted one, by its type
  by_type : (k : Kind) (c t : ℕ) → received (trace channel (added calls (calls_for k c t))) n
      ≡ or_else (is_tick k && (eqb (offering (after channel calls) 0 (calls_for k c t)).number 0 && eqb n t)) (received (trace channel calls) n)
  unfolding received trace offering answer_to
  by_type S001 c t = refl
  by_type S002 c t = refl
  by_type S003 c t = refl
  by_type P001 c t = refl
  by_type P002 c t = refl
  by_type M101 c t = refl
  by_type M102 c t = refl
  by_type M201 c t = refl
  by_type Unknown c t = refl

  accepted : (x : Sight Seen) → seen_number x.read ≡ 0
      → received (trace channel (added calls (calls_by x.read))) n ≡ or_else (brings (record_by (after channel calls) x) n) (received (trace channel calls) n)
  unfolding brings record_by made_of offer_of
  accepted x z = rw (calls_of_lem x.read (kind_of x.read.msg_type) z refl, z) (by_type (kind_of x.read.msg_type) x.read.channel.0 x.read.tick.0)

  -- a refused one brings nothing
  refused : (x : Sight Seen) → (seen_number x.read ≡ 0 → ⊥)
      → received (trace channel (added calls (calls_by x.read))) n ≡ or_else (brings (record_by (after channel calls) x) n) (received (trace channel calls) n)
  unfolding brings record_by made_of offer_of offering
  refused x ne = rw (calls_refused x.read ne, ne_eqb (seen_number x.read) 0 ne, and_false)

  one_more : (x : Sight Seen) → received (trace channel (added calls (calls_by x.read))) n ≡ or_else (brings (record_by (after channel calls) x) n) (received (trace channel calls) n)
  one_more x = ⊎_elim (λ (z : seen_number x.read ≡ 0). accepted x z) (λ (ne : seen_number x.read ≡ 0 → ⊥). refused x ne) (same (seen_number x.read) 0)

received_from : (channel n : ℕ) (calls : Calls) (xs : List (Sight Seen))
    → received (trace channel (calls_from calls xs)) n ≡ or_else (brought (account_of record_by book_by (after channel calls) xs).records n) (received (trace channel calls) n)
unfolding account_of calls_from brought
received_from channel n calls [] = refl
received_from channel n calls (x ∷ xs) =
    received_from channel n (added calls (calls_by x.read)) xs
    ∙ rw (one_more channel n calls x, ← book_by_lem channel calls x)
    (turned (brings (record_by (after channel calls) x) n) (brought (account_of record_by book_by (book_by (after channel calls) x) xs).records n) (received (trace channel calls) n))

-- a number is received exactly if a record brings it
pub walk_received : (s : List ℕ) (n : ℕ) → received (trace 100 (calls_of s)) n ≡ brought (walk_of s).records n
unfolding Account.walk_of calls_of received trace
walk_received s n = received_from 100 n none (sights s) ∙ or_false (brought (account_of record_by book_by (fresh 100) (sights s)).records n)
