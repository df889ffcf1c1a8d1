-- The walk's ledger is the fresh one after the calls that its readings make; and what those calls
-- receive, its records tell.
use Rattle.std.specs.Prelude.{ℕ, ◌≡◌, Bool, true, false, ◌&&◌, List, [], ◌∷◌, eqb}
use Rattle.std.proofs.Math.Path.{refl}
use Rattle.std.proofs.Common.{◌∙◌, ⊎_elim}
use Rattle.terms.specs.Cases.{same}
use Rattle.rules.specs.Table.{kind_of}
use Rattle.rules.specs.declared.Kind.{Kind}
use Rattle.rules.specs.declared.Kind.TheVariants.{S001, S002, S003, P001, P002, M101, M102, M201, Unknown}
use Rattle.ledger_spec.specs.State.{or_else}
use Rattle.ledger_spec.specs.Calls.{Call, number_to}
use Rattle.ledger_spec.specs.Trace.{Calls, none, ◌▸◌, after, trace}
use Rattle.ledger_spec.specs.Words.{given_up}
use Rattle.record.specs.declared.Record.{Record}
use Rattle.walk_laws.specs.Walk.{Sight}
use Rattle.walk_laws.specs.Account as Account
use Rattle.walk_laws.specs.Account.{account_of}
use Rattle.reading.specs.declared.Seen.{Seen}
use Rattle.reading.specs.Seen.{seen_number}
use Rattle.walk_spec.specs.Offers.{calls_for, calls_by, offering, offer_of}
use Rattle.walk_spec.specs.OfferLaws.{calls_refused, calls_of_lem}
use Rattle.walk_spec.specs.Walk.{record_by, book_by, sights, walk_of, added, calls_from, calls_of}

-- ======== The ledger

-- the calls of a reading, made on the book after some calls
pub book_added : (channel : ℕ) (calls : Calls) (n : ℕ) (more : List Call) → (offering (after channel calls) n more).book ≡ after channel (added calls more)
unfolding offering
book_added channel calls n [] = refl
book_added channel calls n (call ∷ more) = book_added channel (calls ▸ call) (number_to (after channel calls) call) more

pub book_by_lem : (channel : ℕ) (calls : Calls) (x : Sight Seen) → book_by (after channel calls) x ≡ after channel (added calls (calls_by x.read))
unfolding book_by offer_of
book_by_lem channel calls x = book_added channel calls (seen_number x.read) (calls_by x.read)

ledger_from : (channel : ℕ) (calls : Calls) (xs : List (Sight Seen)) → (account_of record_by book_by (after channel calls) xs).ledger ≡ after channel (calls_from calls xs)
unfolding account_of calls_from
ledger_from channel calls [] = refl
ledger_from channel calls (x ∷ xs) = rw (book_by_lem channel calls x) (ledger_from channel (added calls (calls_by x.read)) xs)

-- the walk's ledger is the fresh ledger after the calls that its readings make
pub walk_ledger : (s : List ℕ) → (walk_of s).ledger ≡ after 100 (calls_of s)
unfolding Account.walk_of calls_of
walk_ledger s = ledger_from 100 none (sights s)

-- ======== What was received

abbrev pub is_tick : Kind → Bool
is_tick S001 = false
is_tick S002 = false
is_tick S003 = false
is_tick P001 = false
is_tick P002 = false
is_tick M101 = false
is_tick M102 = false
is_tick M201 = true
is_tick Unknown = false

-- a record that brings the number n: an M201 of that number, answered 0
unfoldable pub brings : Record → ℕ → Bool
brings r n = is_tick (kind_of r.msg_type) && (eqb r.answer 0 && eqb n r.tick.0)

unfoldable pub brought : List Record → ℕ → Bool
brought [] n = false
brought (r ∷ rs) n = or_else (brings r n) (brought rs n)

pub or_false : (a : Bool) → or_else a false ≡ a
or_false true = refl
or_false false = refl

-- ======== What was given up: nothing, since the walk offers no reply

module _ (channel n : ℕ) (calls : Calls) where
  given_by : (k : Kind) (c t : ℕ) → given_up (trace channel (added calls (calls_for k c t))) n ≡ given_up (trace channel calls) n
  unfolding given_up trace
  given_by S001 c t = refl
  given_by S002 c t = refl
  given_by S003 c t = refl
  given_by P001 c t = refl
  given_by P002 c t = refl
  given_by M101 c t = refl
  given_by M102 c t = refl
  given_by M201 c t = refl
  given_by Unknown c t = refl

  given_one : (x : Sight Seen) → given_up (trace channel (added calls (calls_by x.read))) n ≡ given_up (trace channel calls) n
  given_one x =
      ⊎_elim (λ (z : seen_number x.read ≡ 0). rw (calls_of_lem x.read (kind_of x.read.msg_type) z refl) (given_by (kind_of x.read.msg_type) x.read.channel.0 x.read.tick.0))
      (λ (ne : seen_number x.read ≡ 0 → ⊥). rw (calls_refused x.read ne))
      (same (seen_number x.read) 0)

given_from : (channel n : ℕ) (calls : Calls) (xs : List (Sight Seen)) → given_up (trace channel (calls_from calls xs)) n ≡ given_up (trace channel calls) n
unfolding calls_from
given_from channel n calls [] = refl
given_from channel n calls (x ∷ xs) = given_from channel n (added calls (calls_by x.read)) xs ∙ given_one channel n calls x

pub walk_gives_up_none : (s : List ℕ) (n : ℕ) → given_up (trace 100 (calls_of s)) n ≡ false
unfolding calls_of given_up trace
walk_gives_up_none s n = given_from 100 n none (sights s)
