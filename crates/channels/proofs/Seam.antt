-- Between the code's ledgers and the books: what the index becomes, and what a ledger has to tell.
-- Assumes nothing.
use mathlib.Core.Path.{◌≡◌, refl, sym, ap, ◌∙◌}
use mathlib.Core.Bool.{Bool, true, false, not}
use mathlib.Core.List.{[], ◌∷◌}
use Prim.Native.Nat.{ℕ, suc, ◌≤◌}
use lib.Dec.{eqb}
use lib.ListN.{get_or}
use borrow.Author.Tests.{le-ltb}
use Rattle.terms.specs.Cases.{clash}
use Rattle.terms.specs.Paper.{Paper, refusal, pick}
use Rattle.ledger_spec.specs.State.{Asked, nothing, range, Book, sound_of}
use Rattle.ledger_spec.specs.Calls as ledger
use Rattle.ledger_spec.specs.Calls.{Ask, Missing, Held, is_pending, missing_count, held_count}
use Rattle.std.specs.Prelude.{⊤, Result, Ok, Err, Option, Some, None, is_some}
use Rattle.std.specs.Result.{result_unwrap_or, is_ok}
use Rattle.terms.specs.declared.Refusal.{Refusal}
use Rattle.terms.specs.Refusals.{number_of, refusal_not_0}
use Rattle.ledger.specs.declared.Range.{Range}
use Rattle.ledger.specs.Papers.{paper_of, count_paper}
use Rattle.ledger.specs.declared.Ledger.{Ledger}
use Rattle.ledger.specs.State.{asked_of, book_of}
use Rattle.terms.specs.Verdicts.{verdict_number}
use Rattle.tick_map.specs.Bits.{value_of, map_of}
use Rattle.tick_map.specs.Ring.{rotated}
use Rattle.host_ledger.specs.Words.{settled_row}
use Rattle.host_words.specs.Words.{first_asked, last_asked}
use Rattle.channels_spec.specs.Table.{holds, misses}
use Rattle.channels_spec.specs.Calls.{pending_told, told_of}
use Rattle.channels.specs.declared.Index.{Index}
use Rattle.channels.specs.Index.{with_bit}
use Rattle.channels.specs.Told.{padded, index_at}

pub index_is : (x : Index) (at : ℕ) (b : Book) (l a : ℕ) → l ≡ with_bit (misses (holds b)) x.lacking at → a ≡ pick (is_pending b.pending) at (pick (eqb x.asked at) 32 x.asked)
    → record { used = x.used; lacking = l; asked = a; last = x.last } ≡ index_at x at b
unfolding index_at
index_is x at b l a e f = λ i. record { used = x.used; lacking = e i; asked = f i; last = x.last }

-- a request is pending
pub asks_is : (p : Option Range) → is_some p ≡ is_pending (asked_of p)
asks_is None = refl
asks_is (Some r) = refl

-- the ledger's count is refused exactly where it breaks its rules
count_is : (b : Book) → eqb (ledger.answer_to b (Ask Missing)).number 0 ≡ sound_of b
unfolding ledger.answer_to ledger.number_to ledger.checked_of ledger.own_number
count_is b = at (sound_of b)
  where
    at : (t : Bool) → eqb (pick (not t) 13 0) 0 ≡ t
    at true = refl
    at false = refl

ok_is : (a : Result ℕ Refusal) → is_ok a ≡ eqb (count_paper a).number 0
ok_is (Ok n) = refl
ok_is (Err why) = sym (refusal_not_0 why)

pub sound_is : (b : Book) (a : Result ℕ Refusal) → count_paper a ≡ ledger.answer_to b (Ask Missing) → is_ok a ≡ sound_of b
sound_is b a e = ok_is a ∙ ap (λ (p : Paper). eqb p.number 0) e ∙ count_is b

-- ---- what a channel has to tell

-- a count beside 0
counted : (t : Bool) (n : ℕ) → t ≡ true → get_or (pick (eqb (pick (not t) 13 0) 0) (n ∷ []) (0 ∷ [])) 0 0 ≡ n
counted true n f = refl
counted false n f = absurd (clash f refl)

count_beside : (a : Result ℕ Refusal) → get_or (count_paper a).values 0 0 ≡ result_unwrap_or a 0
count_beside (Ok n) = refl
count_beside (Err why) = refl

pub missing_told : (b : Book) (a : Result ℕ Refusal) → sound_of b ≡ true → count_paper a ≡ ledger.answer_to b (Ask Missing) → result_unwrap_or a 0 ≡ missing_count b
unfolding ledger.answer_to ledger.number_to ledger.checked_of ledger.own_number ledger.values_of
missing_told b a s e = sym (count_beside a) ∙ ap (λ (p : Paper). get_or p.values 0 0) e ∙ counted (sound_of b) (missing_count b) s

pub held_told : (b : Book) (a : Result ℕ Refusal) → sound_of b ≡ true → count_paper a ≡ ledger.answer_to b (Ask Held) → result_unwrap_or a 0 ≡ held_count b
unfolding ledger.answer_to ledger.number_to ledger.checked_of ledger.own_number ledger.values_of
held_told b a s e = sym (count_beside a) ∙ ap (λ (p : Paper). get_or p.values 0 0) e ∙ counted (sound_of b) (held_count b) s

pub first_told : (p : Option Range) → first_asked p ≡ get_or (pending_told (asked_of p)) 0 0
first_told None = refl
first_told (Some r) = refl

pub last_told : (p : Option Range) → last_asked p ≡ get_or (pending_told (asked_of p)) 1 0
last_told None = refl
last_told (Some r) = refl

-- and nothing behind them
pub nothing_more : (p : Asked) (k : ℕ) → get_or (pending_told p) (suc (suc k)) 0 ≡ 0
nothing_more nothing k = refl
nothing_more (range first last) k = refl

-- all of it, of a ledger whose count is answered: then it is sound
pub channel_told : (l : Ledger) (missing : ℕ) (held : Result ℕ Refusal) → count_paper (Ok missing) ≡ ledger.answer_to (book_of l) (Ask Missing) → count_paper held ≡ ledger.answer_to (book_of l) (Ask Held)
    → (sound_of (book_of l) ≡ true)
    × (l.floor.0 ∷ l.top.0 ∷ missing ∷ result_unwrap_or held 0 ∷ first_asked l.pending ∷ last_asked l.pending ∷ 0 ∷ 0 ∷ 0 ∷ [] ≡ padded (told_of (book_of l)))
unfolding book_of
channel_told l missing held e f =
    let s : sound_of (book_of l) ≡ true = sym (sound_is (book_of l) (Ok missing) e) in
    let m = missing_told (book_of l) (Ok missing) s e in
    let n = held_told (book_of l) held s f in
    let p = asked_of l.pending in (
      s,
      λ i. l.floor.0 ∷ l.top.0 ∷ m i ∷ n i ∷ first_told l.pending i ∷ last_told l.pending i ∷ sym (nothing_more p 0) i ∷ sym (nothing_more p 1) i ∷ sym (nothing_more p 2) i ∷ [],
    )

-- a refused count is 13
pub count_refused : (b : Book) (why : Refusal) → count_paper (Err why) ≡ ledger.answer_to b (Ask Missing) → (sound_of b ≡ false) × (number_of why ≡ 13)
unfolding ledger.answer_to ledger.number_to ledger.checked_of ledger.own_number
count_refused b why e = let s = sym (sound_is b (Err why) e) in (s, ap (λ (p : Paper). p.number) e ∙ rw s refl)

-- a call that finds no place
pub none_told : (a : Result ⊤ Refusal) (n : ℕ) → verdict_number a ≡ n → paper_of a ≡ refusal n
none_told (Ok _) n e = ap refusal e
none_told (Err why) n e = ap refusal e

-- a refused reply's two sets are empty
pub refused_sets : padded (settled_row (0 ∷ 0 ∷ 0 ∷ [])) ≡ padded []
unfolding settled_row map_of value_of rotated
refused_sets = refl

-- ---- opening

pub opens_fresh : (channel : ℕ) → channel ≤ 9999 → ledger.open_of channel ≡ ledger.fresh channel
unfolding ledger.open_of
opens_fresh channel l = rw (le-ltb _ _ l)
