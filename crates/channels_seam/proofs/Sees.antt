-- What the caller sees of a call's numbers is the call's paper. Assumes nothing.
use mathlib.Core.Path.{◌≡◌, refl, ap, ap₂, ◌∙◌}
use mathlib.Core.Logic.{⊎_elim}
use mathlib.Core.List.{[], ◌∷◌}
use Prim.Native.Nat.{ℕ, ◌+◌, ◌%◌, ◌^◌, ◌<◌}
use native.Mathlib.Nat.{lt_of_lt_of_le, lt_of_le_of_lt, mod-le}
use lib.Dec.{eqb}
use lib.ListN.{get_or}
use lib.Pow.{pow_mono, ones_sub-lt}
use Rattle.terms.specs.Cases.{two}
use Rattle.terms.specs.Paper.{Paper, answer, refusal}
use Rattle.tick_map.specs.Bits.{bits_in, map_of}
use Rattle.tick_map.specs.Ring.{rotated, laid}
use Rattle.tick_map.proofs.Rotated.{rotated_laid}
use Rattle.ledger_spec.specs.State.{Asked, nothing, range, Book, StateRules}
use Rattle.ledger_spec.specs.Calls as ledger
use Rattle.ledger_spec.specs.Calls.{reach, leaps, gave_up, handed, values_of, beside}
use Rattle.ledger_spec.proofs.Steps.{reach_near}
use Rattle.ledger.proofs.Seam.{laid_of}
use Rattle.host_words.specs.Told.{retold}
use Rattle.host_ledger.specs.Words.{settled_row}
use Rattle.host_ledger.specs.Called.{sets_in}
use Rattle.channels_spec.specs.Calls.{Said, Tick, Announce, Reply, Between, Request, To, Told, called, pending_told, told_of, unopened}
use Rattle.channels.specs.Told.{padded, told_as, named_paper}
use Rattle.channels_seam.specs.Kept.{seen}

-- a reply's sets are told as nine words
abbrev pub form_of : Said → Paper → Paper
form_of (Tick n) p = p
form_of (Announce n) p = p
form_of (Reply first status) p = retold settled_row p
form_of (Between a z) p = p

pub form_number : (s : Said) (p : Paper) → (form_of s p).number ≡ p.number
form_number (Tick n) p = refl
form_number (Announce n) p = refl
form_number (Reply first status) p = refl
form_number (Between a z) p = refl

pub sees_unopened : (c : ℕ) (s : Said) → seen (To c s) (told_as (refusal 18)) ≡ unopened c s
unfolding seen
sees_unopened c (Tick n) = refl
sees_unopened c (Announce n) = refl
sees_unopened c (Reply first status) = refl
sees_unopened c (Between a z) = refl

-- ---- a reply's two sets, read from the words that tell them

set_back : (s m : ℕ) → m < 2 ^ 256 → rotated s (bits_in (map_of (laid s m))) ≡ m
set_back s m h = ap (rotated s) (laid_of s m h) ∙ rotated_laid s m h

sets_back : (b : Book) (c first status : ℕ) → StateRules b → sets_in (padded (settled_row (values_of b (ledger.Reply c first status)))) ≡ values_of b (ledger.Reply c first status)
unfolding settled_row values_of gave_up handed
sets_back b c first status r =
    ap₂ (λ (x y : ℕ). (b.floor + 1) ∷ x ∷ y ∷ [])
    (set_back (b.floor + 1) _ (lt_of_lt_of_le (ones_sub-lt (reach b status) (b.bits % 2 ^ reach b status)) (pow_mono (reach_near b status r).1)))
    (set_back (b.floor + 1) _ (lt_of_le_of_lt (mod-le b.bits (2 ^ leaps b (reach b status))) r.places))

-- ---- what is said to a ledger

pub sees_said : (b : Book) (c : ℕ) (s : Said) → StateRules b → seen (To c s) (told_as (form_of s (ledger.answer_to b (called c s)))) ≡ ledger.answer_to b (called c s)
unfolding seen ledger.answer_to values_of
sees_said b c (Tick n) r = ⊎_elim (λ y. rw y) (λ y. rw y) (two (eqb (ledger.number_to b (ledger.Tick c n)) 0))
sees_said b c (Announce n) r = ⊎_elim (λ y. rw y) (λ y. rw y) (two (eqb (ledger.number_to b (ledger.Announce c n)) 0))
sees_said b c (Reply first status) r =
    ⊎_elim (λ y. rw y (ap (answer (ledger.number_to b (ledger.Reply c first status))) (sets_back b c first status r)))
    (λ y. rw y) (two (eqb (ledger.number_to b (ledger.Reply c first status)) 0))
sees_said b c (Between x z) r = ⊎_elim (λ y. rw y) (λ y. rw y) (two (eqb (ledger.number_to b (ledger.Ask (ledger.Between c x z))) 0))

-- ---- a granted request, and what a channel has to tell

pub sees_request : (b : Book) (c : ℕ) → ledger.number_to b (ledger.Request c) ≡ 0
    → seen Request (told_as (named_paper c (ledger.answer_to b (ledger.Request c)))) ≡ answer 0 (c ∷ (ledger.answer_to b (ledger.Request c)).values)
unfolding seen ledger.answer_to values_of
sees_request b c e = rw e

pub sees_told : (c : ℕ) (b : Book) → seen (Told c) (told_as (answer 0 (told_of b))) ≡ answer 0 (told_of b)
unfolding seen
sees_told c b = at b.pending
  where
    at : (p : Asked) → answer 0 (b.floor ∷ b.top ∷ ledger.missing_count b ∷ ledger.held_count b ∷ get_or (pending_told p) 0 0 ∷ get_or (pending_told p) 1 0 ∷ [])
        ≡ answer 0 (b.floor ∷ b.top ∷ ledger.missing_count b ∷ ledger.held_count b ∷ pending_told p)
    at nothing = refl
    at (range first last) = refl
