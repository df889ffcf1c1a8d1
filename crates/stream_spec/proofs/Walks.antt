-- The stream's tally is the walk's ledger and counts: its ledger is sound, so the code's ledger and
-- its book are one. Assumes nothing.
use Prim.Native.Nat.{ℕ, ◌+◌}
use mathlib.Core.Path.{◌≡◌, refl, ap, ◌∙◌}
use mathlib.Core.Bool.{true}
use mathlib.Core.List.{List, [], ◌∷◌}
use native.Mathlib.Nat.{add-zero, add_assoc}
use lib.Dec.{eqb}
use borrow.Author.Tests.{eqb-true, eq-eqb}
use Rattle.ledger_spec.specs.State as BookState
use Rattle.ledger_spec.specs.State.{Book, StateRules}
use Rattle.ledger_spec.specs.Calls.{Call, number_to, next_of}
use Rattle.ledger_spec.proofs.Tests.{both}
use Rattle.ledger_spec.proofs.Rules.{rules_facts, rules_test}
use Rattle.ledger_spec.proofs.Steps.{rules_kept, step}
use Rattle.ledger.specs.State.{book_of, ledger_of}
use Rattle.ledger.specs.declared.Ledger.{Ledger}
use Rattle.ledger.proofs.Seam.{book_of_lem}
use Rattle.walk_laws.specs.Walk.{Sight}
use Rattle.walk_laws.specs.Account.{account_of}
use Rattle.reading.specs.declared.Seen.{Seen}
use Rattle.reading.specs.Seen.{seen_number}
use Rattle.walk_spec.specs.Offers.{calls_by, offering, offer_of}
use Rattle.walk_spec.specs.Walk.{record_by, book_by, accepts, refuses, frames_of, refused_of}
use Rattle.stream_spec.specs.declared.Tally.{Tally}
use Rattle.stream_spec.specs.Tally.{tally_with, record_at, tally_after, ledger_right}

-- A READING KEEPS THE LEDGER'S RULES

rules_answered : (b : Book) (n : ℕ) (calls : List Call) → StateRules b → StateRules (offering b n calls).book
unfolding offering
rules_answered b n [] r = r
rules_answered b n (call ∷ calls) r = rules_answered (next_of b call) (number_to b call) calls (rules_kept b call r)

channel_answered : (b : Book) (n : ℕ) (calls : List Call) → StateRules b → (offering b n calls).book.channel ≡ b.channel
unfolding offering
channel_answered b n [] r = refl
channel_answered b n (call ∷ calls) r = channel_answered (next_of b call) (number_to b call) calls (rules_kept b call r) ∙ (step b call r).channel_same

pub rules_by : (b : Book) (x : Sight Seen) → StateRules b → StateRules (book_by b x)
unfolding book_by offer_of
rules_by b x r = rules_answered b (seen_number x.read) (calls_by x.read) r

channel_by : (b : Book) (x : Sight Seen) → StateRules b → (book_by b x).channel ≡ b.channel
unfolding book_by offer_of
channel_by b x r = channel_answered b (seen_number x.read) (calls_by x.read) r

-- the ledger's part of the state rules, as facts
pub record Right (l : Ledger) : Type 0 where
  pub channel : l.channel.0 ≡ 100
  pub rules : StateRules (book_of l)

pub right_facts : (l : Ledger) → ledger_right l ≡ true → Right l
unfolding ledger_right
right_facts l e =
    let p = both (eqb l.channel.0 100) (BookState.sound_of (book_of l)) e in
    record { channel = eqb-true _ _ p.0; rules = rules_facts (book_of l) p.1 }

pub right_test : (l : Ledger) → Right l → ledger_right l ≡ true
unfolding ledger_right
right_test l r = rw (eq-eqb l.channel.0 100 r.channel, rules_test (book_of l) r.rules)

channel_of : (l : Ledger) → (book_of l).channel ≡ l.channel.0
unfolding book_of
channel_of l = refl

of_channel : (b : Book) → (ledger_of b).channel.0 ≡ b.channel
unfolding ledger_of
of_channel b = refl

pub right_of : (b : Book) → b.channel ≡ 100 → StateRules b → Right (ledger_of b)
right_of b c r = record { channel = of_channel b ∙ c; rules = rw (book_of_lem b r.places) r }

right_next : (t : Tally) (x : Sight Seen) → Right t.ledger → Right (tally_after t x).ledger
unfolding tally_after tally_with
right_next t x r =
    let b = book_of t.ledger in
    right_of (book_by b x) (channel_by b x r.rules ∙ channel_of t.ledger ∙ r.channel) (rules_by b x r.rules)

pub right_all : (t : Tally) (xs : List (Sight Seen)) → Right t.ledger → Right (account_of record_at tally_after t xs).ledger.ledger
unfolding account_of
right_all t [] r = r
right_all t (x ∷ xs) r = right_all (tally_after t x) xs (right_next t x r)

-- RECORDS, COUNTS AND LEDGER ARE THE WALK'S

abbrev tally_of : ℕ → ℕ → Book → Tally
tally_of frames refused b = record { frames = frames; refused = refused; ledger = ledger_of b }

module _ (f r : ℕ) (b : Book) (x : Sight Seen) (s : StateRules b) where
  record_is : record_at (tally_of f r b) x ≡ record_by b x
  unfolding record_at
  record_is = ap (λ (k : Book). record_by k x) (book_of_lem b s.places)

  tally_is : tally_after (tally_of f r b) x ≡ tally_of (f + accepts (seen_number x.read)) (r + refuses (seen_number x.read)) (book_by b x)
  unfolding tally_after tally_with
  tally_is = ap (λ (k : Book). tally_of (f + accepts (seen_number x.read)) (r + refuses (seen_number x.read)) (book_by k x)) (book_of_lem b s.places)

pub account_tally : (f r : ℕ) (b : Book) (xs : List (Sight Seen)) → StateRules b
    → account_of record_at tally_after (tally_of f r b) xs ≡ record { records = (account_of record_by book_by b xs).records; ledger = tally_of (f + frames_of xs) (r + refused_of xs) (account_of record_by book_by b xs).ledger }
unfolding account_of frames_of refused_of
account_tally f r b [] s = rw (add-zero f, add-zero r)
account_tally f r b (x ∷ xs) s =
    rw (record_is f r b x s, tally_is f r b x s, account_tally (f + accepts (seen_number x.read)) (r + refuses (seen_number x.read)) (book_by b x) xs (rules_by b x s), add_assoc f, add_assoc r)
