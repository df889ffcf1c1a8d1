-- The words of a sound ledger stand for it, and words that keep the rules are those of the ledger
-- that they stand for. Assumes nothing.
use Prim.Native.Nat.{ℕ, zero, suc, min, ◌+◌, ◌≤◌, ◌<◌}
use mathlib.Core.Path.{◌≡◌, refl, sym, ap, ◌∙◌}
use mathlib.Core.Logic.{⊎_elim}
use mathlib.Core.List.{List, [], ◌∷◌}
use native.Mathlib.Omega.{arith}
use lib.ListN.{length, drop, get_or, drop_of_length-le}
use lib.Seq.{drop-cons}
use borrow.Author.Tests.{ne_eqb}
use Rattle.terms.specs.Cases.{same}
use Rattle.tick_map.specs.Bits.{map_of}
use Rattle.ledger_spec.specs.State.{range, Book, StateRules}
use Rattle.ledger.specs.declared.Ledger.{Ledger}
use Rattle.std.specs.Prelude.{Option, Some, None}
use Rattle.ledger.specs.declared.Range.{Range}
use Rattle.ledger.specs.State.{asked_of, book_of, ledger_of, topped}
use Rattle.ledger.proofs.Seam.{book_of_lem}
use Rattle.host_words.specs.Words.{first_asked, last_asked, words_of, pending_in, ledger_in, with_top, book_in}

-- A ROW OF NUMBERS IS ITS ELEMENTS

-- n of them from place i on
abbrev pub elements : ℕ → ℕ → List ℕ → List ℕ
elements zero i w = []
elements (suc n) i w = get_or w i 0 ∷ elements n (suc i) w

pub all_of : (n i : ℕ) (w : List ℕ) → length w ≡ i + n → drop i w ≡ elements n i w
all_of zero i w e = let h : length w ≤ i = omega (arith, e) in drop_of_length-le w h
all_of (suc n) i w e = drop-cons w i 0 (omega (arith, e)) ∙ ap (λ (l : List ℕ). get_or w i 0 ∷ l) (all_of n (suc i) w (omega (arith, e)))

-- THE WORDS OF A SOUND LEDGER STAND FOR IT

pending_back : (p : Option Range) → ((first last : ℕ) → asked_of p ≡ range first last → 1 ≤ first) → pending_in (first_asked p) (last_asked p) ≡ p
unfolding pending_in
pending_back None h = refl
pending_back (Some r) h = rw (ne_eqb r.first.0 0 (λ (z : r.first.0 ≡ 0). omega (arith, h r.first.0 r.last.0 refl)))

-- of a ledger whose map has four words, as each that code can hold
pub words_back : (l : Ledger) → length l.map.words ≡ 4 → StateRules (book_of l) → ledger_in (words_of l) ≡ l
unfolding ledger_in words_of book_of
words_back l four r =
    let e : min l.channel.0 65535 ≡ l.channel.0 = omega (arith, r.channel_small) in
    rw (e, pending_back l.pending (λ (first last : ℕ) (p : asked_of l.pending ≡ range first last). (r.range_right first last p).starts), ← all_of 4 0 l.map.words four)

four_of : (b : Book) → length (ledger_of b).map.words ≡ 4
unfolding ledger_of map_of
four_of b = refl

pub book_words : (b : Book) → StateRules b → ledger_in (words_of (ledger_of b)) ≡ ledger_of b
book_words b r = words_back (ledger_of b) (four_of b) (rw (book_of_lem b r.places) r)

pub book_back : (b : Book) → StateRules b → book_in (words_of (ledger_of b)) ≡ b
book_back b r = ap book_of (book_words b r) ∙ book_of_lem b r.places

-- AND WORDS THAT KEEP THE RULES ARE THOSE OF THEIR LEDGER: no other nine stand for it

asked_back : (first last : ℕ) → (first_asked (pending_in first last) ≡ first) × (last_asked (pending_in first last) ≡ last)
unfolding pending_in
asked_back first last =
    ⊎_elim (λ (f : first ≡ 0).
    ⊎_elim (λ (l : last ≡ 0). rw (f, l) (refl, refl)) (λ (l : last ≡ 0 → ⊥). rw (f, ne_eqb last 0 l) (refl, refl)) (same last 0))
    (λ (f : first ≡ 0 → ⊥). rw (ne_eqb first 0 f) (refl, refl))
    (same first 0)

pub top_words : (w : List ℕ) (top : ℕ) → StateRules (book_in w) → words_of (topped (ledger_in w) top) ≡ with_top w top
unfolding words_of ledger_in book_of
top_words w top r =
    let e : min (get_or w 0 0) 65535 ≡ get_or w 0 0 = omega (arith, r.channel_small) in
    let p = asked_back (get_or w 7 0) (get_or w 8 0) in
    rw (e, p.0, p.1)

pub words_fore : (w : List ℕ) → length w ≡ 9 → StateRules (book_in w) → words_of (ledger_in w) ≡ w
unfolding ledger_in
words_fore w nine r = top_words w (get_or w 2 0) r ∙ sym (all_of 9 0 w nine)

-- a channel above 9,999 breaks the rules, however large
pub channel_too_large : (w : List ℕ) → 9999 < get_or w 0 0 → StateRules (book_in w) → ⊥
unfolding book_of ledger_in
channel_too_large w h r = omega (arith, r.channel_small)
