-- What the figures are: told from the readings alone; those of a scrubbed capture; and for channel
-- 100 those of the walk. Assumes nothing.
use Prim.Native.Nat.{ℕ, ◌≤◌}
use mathlib.Core.Path.{◌≡◌, refl, sym, ap, ◌∙◌}
use mathlib.Core.Bool.{Bool, true, false}
use mathlib.Core.Logic.{⊎_elim}
use mathlib.Core.List.{List, [], ◌∷◌}
use native.Mathlib.Omega.{arith}
use Rattle.terms.specs.Cases.{same}
use Rattle.terms.specs.Paper.{answer, pick}
use Rattle.rules.specs.Table.{kind_of}
use Rattle.rules.specs.declared.Kind.{Kind}
use Rattle.rules.specs.declared.Kind.TheVariants.{S001, S002, S003, P001, P002, M101, M102, M201, Unknown}
use Rattle.ledger_spec.specs.Calls.{Tick, Announce, Ask, Missing, answer_to}
use Rattle.ledger_spec.specs.Trace.{Calls, none, after, trace}
use Rattle.ledger_spec.specs.Words.{answered, one, ticks, ticks_taken, count, known_top, received}
use Rattle.ledger_spec.proofs.Agree.{agrees}
use Rattle.ledger_spec.proofs.Demand3.{demand_3}
use Rattle.reading.specs.declared.Seen.{Seen}
use Rattle.reading.specs.Seen.{seen_number}
use Rattle.walk_spec.specs.Offers.{calls_for, calls_by}
use Rattle.walk_spec.specs.OfferLaws.{calls_refused, calls_of_lem}
use Rattle.walk_spec.specs.Walk.{sights, added, calls_of}
use Rattle.clean_spec.specs.Clean.{clean_of}
use Rattle.clean_spec.specs.Laws.{clean_reads}
use Rattle.clean_spec.specs.Figures.{reads, calls_made, calls_reads}
use Rattle.month_spec.specs.Figures.{ticks_answered, figures_from, figures_of, figures_by, reads_in}

-- THE READINGS ALONE

pub calls_told : (s : List ℕ) → calls_of s ≡ calls_made none (reads_in s)
unfolding calls_of
calls_told s = calls_reads none (sights s)

pub figures_reads : (channel : ℕ) (s : List ℕ) → figures_of channel s ≡ figures_by channel (reads_in s)
unfolding figures_of figures_by
figures_reads channel s = ap (λ (calls : Calls). figures_from channel (trace channel calls) (reads_in s)) (calls_told s)

-- captures whose accepted frames are seen alike have the same figures
pub same_reads : (channel : ℕ) (s t : List ℕ) → reads_in s ≡ reads_in t → figures_of channel s ≡ figures_of channel t
same_reads channel s t e = figures_reads channel s ∙ ap (figures_by channel) e ∙ sym (figures_reads channel t)

-- and so have captures whose walks see the same
pub same_sights : (channel : ℕ) (s t : List ℕ) → sights s ≡ sights t → figures_of channel s ≡ figures_of channel t
same_sights channel s t e = same_reads channel s t (ap reads e)

-- "Their figures equal those of the originals."
pub scrubbed_same : (channel : ℕ) (s : List ℕ) → figures_of channel (clean_of s) ≡ figures_of channel s
scrubbed_same channel s = same_reads channel (clean_of s) s (clean_reads s)

-- THE LEDGER'S OWN COUNTS

pick_one : (b : Bool) → pick b 1 0 ≡ one b
pick_one true = refl
pick_one false = refl

zero_both : (b : Bool) → pick {A = ℕ} b 0 0 ≡ 0
zero_both true = refl
zero_both false = refl

start_same : (channel : ℕ) → ticks_answered 0 (trace channel none) ≡ ticks_taken (trace channel none)
unfolding trace ticks_answered ticks_taken
start_same channel = refl

-- missing, counted number by number, is what the ledger of the channel answers
pub missing_is : (channel : ℕ) → channel ≤ 9999 → (xs : List Seen) → answer_to (after channel (calls_made none xs)) (Ask Missing) ≡ answer 0 ((figures_by channel xs).missing ∷ [])
unfolding figures_by
missing_is channel small xs = (demand_3 channel small (calls_made none xs)).counts.missing_is

-- ticks answered 0, counted over any calls that readings make, are the ticks taken
module _ (channel : ℕ) where
  taken_by : (calls : Calls) (k : Kind) (c t : ℕ) → ticks_answered 0 (trace channel calls) ≡ ticks_taken (trace channel calls)
      → ticks_answered 0 (trace channel (added calls (calls_for k c t))) ≡ ticks_taken (trace channel (added calls (calls_for k c t)))
  unfolding trace ticks_answered ticks_taken ticks
  taken_by calls S001 c t e = e
  taken_by calls S002 c t e = e
  taken_by calls S003 c t e = e
  taken_by calls P001 c t e = omega (arith, zero_both (answered (answer_to (after channel calls) (Announce c t)) 0))
  taken_by calls P002 c t e = e
  taken_by calls M101 c t e = e
  taken_by calls M102 c t e = e
  taken_by calls M201 c t e = omega (arith, pick_one (answered (answer_to (after channel calls) (Tick c t)) 0))
  taken_by calls Unknown c t e = e

  taken_one : (calls : Calls) (x : Seen) → ticks_answered 0 (trace channel calls) ≡ ticks_taken (trace channel calls)
      → ticks_answered 0 (trace channel (added calls (calls_by x))) ≡ ticks_taken (trace channel (added calls (calls_by x)))
  taken_one calls x e =
      ⊎_elim (λ (z : seen_number x ≡ 0). rw (calls_of_lem x (kind_of x.msg_type) z refl) (taken_by calls (kind_of x.msg_type) x.channel.0 x.tick.0 e))
      (λ (ne : seen_number x ≡ 0 → ⊥). rw (calls_refused x ne) e)
      (same (seen_number x) 0)

  taken_all : (calls : Calls) (xs : List Seen) → ticks_answered 0 (trace channel calls) ≡ ticks_taken (trace channel calls)
      → ticks_answered 0 (trace channel (calls_made calls xs)) ≡ ticks_taken (trace channel (calls_made calls xs))
  unfolding calls_made
  taken_all calls [] e = e
  taken_all calls (x ∷ xs) e = taken_all (added calls (calls_by x)) xs (taken_one calls x e)

  -- a tick that is answered 0 brings a new number: so they are the numbers received
  pub received_is : channel ≤ 9999 → (xs : List Seen)
      → (figures_by channel xs).received ≡ count (received (trace channel (calls_made none xs))) (known_top (trace channel (calls_made none xs)))
  unfolding figures_by
  received_is small xs =
      let a = agrees channel small (calls_made none xs) in
      taken_all none xs (start_same channel) ∙ a.taken_is ∙ ap (count (received (trace channel (calls_made none xs)))) a.top_is
