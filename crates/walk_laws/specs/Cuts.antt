-- CR 1, for any reading: bytes that come in cuts give what the joined bytes give. It rests on frame
-- laws 1 and 3, not on what reading is.
use Rattle.std.specs.Prelude.{ℕ, zero, ◌+◌, ◌≤◌, ◌≡◌}
use mathlib.Core.List.{List, [], ◌++◌, append_assoc, append-nil}
use Rattle.std.proofs.Math.ListN.{length}
use Rattle.std.proofs.Common.{length-append}
use Rattle.walk_laws.specs.Walk.{Says, more, Sight, Mode, within}
use Rattle.walk_laws.specs.Waits.{Got, ran_of, ran_append}
use Rattle.walk_laws.specs.Closing.{final, final_seen, final_after}
use Rattle.walk_laws.specs.Kept.{settled, few}
use Rattle.walk_laws.specs.Account as Account
use Rattle.walk_laws.specs.Account.{Account, account_of, account_append}

-- what stands between two calls
pub record Stream (L : Type 0) : Type 0 where
  pub mode : Mode
  pub place : ℕ
  pub kept : List ℕ
  pub ledger : L

pub record Fed (L C : Type 0) : Type 0 where
  pub records : List C
  pub stream : Stream L

-- before the first call
abbrev pub fresh_of : {L : Type 0} → L → Stream L
fresh_of l = record { mode = within zero; place = 0; kept = []; ledger = l }

-- more records in front
abbrev pub before : {L C : Type 0} → List C → Fed L C → Fed L C
before l f = record { records = l ++ f.records; stream = f.stream }

module _ {R L C : Type 0} (read_of : List ℕ → R) (says_of : R → Says) (record_of : L → Sight R → C) (next_of : L → Sight R → L) where
  -- how far a stream gets with a run
  abbrev rest_of : L → Got R → Fed L C
  rest_of l g =
      record {
        records = (account_of record_of next_of l g.seen).records;
        stream = record { mode = g.mode; place = g.place; kept = g.kept; ledger = (account_of record_of next_of l g.seen).ledger };
      }

  -- one more cut: the kept bytes and the cut are walked as far as no place waits
  unfoldable pub feed_of : Stream L → List ℕ → Fed L C
  feed_of x cut = rest_of x.ledger (ran_of read_of says_of x.mode x.place (x.kept ++ cut))

  module _ (stays : (s t : List ℕ) → (says_of (read_of s) ≡ more → ⊥) → read_of (s ++ t) ≡ read_of s) where
    -- two cuts are one
    pub feed_append : (x : Stream L) (a b : List ℕ) → feed_of x (a ++ b) ≡ before (feed_of x a).records (feed_of (feed_of x a).stream b)
    unfolding feed_of
    feed_append x a b = rw (← append_assoc x.kept a b, ran_append read_of says_of stays x.mode x.place (x.kept ++ a) b, account_append)

  -- at most 8,191 bytes are kept, and the place is where they stand
  pub feed_keeps : ((s : List ℕ) → 8192 ≤ length s → says_of (read_of s) ≡ more → ⊥) → (x : Stream L) (cut : List ℕ)
      → (length (feed_of x cut).stream.kept ≤ 8191) × ((feed_of x cut).stream.place + length (feed_of x cut).stream.kept ≡ x.place + (length x.kept + length cut))
  unfolding feed_of
  feed_keeps enough x cut =
      let g = settled read_of says_of x.mode x.place (x.place + (length x.kept + length cut)) (x.kept ++ cut) (simp length-append) in
      (few read_of says_of enough _ g.rests, g.whole)

-- EVERY CUTTING: what a stream gives for bytes, and then for the closing call, in which no place
-- waits, is what the closed walk gives
module _ {R L C : Type 0} (read_of : List ℕ → R) (says_of : R → Says) (record_of : L → Sight R → C) (next_of : L → Sight R → L) where
  abbrev pub close_of : Stream L → List ℕ → Fed L C
  close_of x cut = feed_of read_of (λ r. final (says_of r)) record_of next_of x cut

  pub feed_close : (x : Stream L) (a : List ℕ) → close_of x a ≡ before (feed_of read_of says_of record_of next_of x a).records (close_of (feed_of read_of says_of record_of next_of x a).stream [])
  unfolding feed_of
  feed_close x a = rw (append-nil (ran_of read_of says_of x.mode x.place (x.kept ++ a)).kept, final_after read_of says_of x.mode x.place (x.kept ++ a), account_append)

  pub close_walk : (l : L) (s : List ℕ) → ◌≡◌ {A = Account L C} (record { records = (close_of (fresh_of l) s).records; ledger = (close_of (fresh_of l) s).stream.ledger }) (Account.walk_of read_of says_of record_of next_of l s)
  unfolding feed_of Account.walk_of
  close_walk l s = rw (final_seen read_of says_of (within zero) 0 s)
