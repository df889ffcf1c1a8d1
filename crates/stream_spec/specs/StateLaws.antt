-- The state rules: the test that the code computes, check by check, and that it passes exactly
-- where the facts hold.
use Rattle.std.specs.Prelude.{ℕ, suc, ◌+◌, ◌-◌, ◌≤◌, ◌<◌, ◌≡◌, refl, Bool, true, false, ◌&&◌, not, List, eqb, leb, length, get_or, take, drop, replicate, Result, Ok, Err, is_ok}
use Rattle.std.proofs.Common.{sym, ap, ap₂, ◌∙◌, ⊎_elim, arith, add-one, drop_of_length-le, drop-cons}
use Rattle.std.proofs.Math.Nat.{add-zero}
use borrow.Author.Tests.{eq-eqb, ne_eqb, lt-leb, le-leb, leb-true}
use Rattle.terms.specs.Paper.{pick, one_number}
use Rattle.terms.specs.Cases.{two, less, clash}
use Rattle.terms.specs.Refusals.{refusal_pos}
use Rattle.terms.specs.declared.Refusal.{Refusal}
use Rattle.ledger_spec.specs.State as Book
use Rattle.ledger_spec.specs.State.{Book}
use Rattle.ledger_spec.specs.Calls.{Ask, Held, own_number, checked_of, number_to, answer_to, fresh}
use Rattle.ledger.specs.State.{book_of, ledger_of}
use Rattle.ledger.specs.Papers.{count_paper}
use Rattle.ledger.specs.declared.Ledger.{Ledger}
use Rattle.reading.specs.declared.Seen.{Seen}
use Rattle.reading.specs.Seen.{seen_of, seen_number}
use Rattle.stream_spec.specs.declared.Stream.{Stream}
use Rattle.stream_spec.specs.declared.Tally.{Tally}
use Rattle.stream_spec.specs.Tally.{ledger_right, tally_right}
use Rattle.stream_spec.specs.State.{last_place, all_zero, waits_right, sound_of, is_seeking, value_of, opened}
use Rattle.stream_spec.specs.CutLaws.{head_take}

-- ALL ZERO

and_true : (b : Bool) → b && true ≡ b
and_true true = refl
and_true false = refl

and_assoc : (a b c : Bool) → (a && b) && c ≡ a && (b && c)
and_assoc true b c = refl
and_assoc false b c = refl

-- one byte more is looked at
pub zero_step : (blank : Bool) (i : ℕ) (s : List ℕ) → i < length s → (blank && eqb (get_or s i 0) 0) && all_zero (drop (i + 1) s) ≡ blank && all_zero (drop i s)
unfolding all_zero
zero_step blank i s h = rw (drop-cons s i 0 h, add-one) (and_assoc blank (eqb (get_or s i 0) 0) (all_zero (drop (suc i) s)))

pub zero_end : (blank : Bool) (i : ℕ) (s : List ℕ) (z : Bool) → length s ≤ i → blank && all_zero (drop i s) ≡ z → blank ≡ z
unfolding all_zero
zero_end blank i s z h e = sym (and_true blank) ∙ (rw (drop_of_length-le s h) at e)

-- PLACES

pub fits_is : (p n m : ℕ) → p ≤ last_place → n ≤ last_place - p → leb m (last_place - p - n) ≡ leb (p + (n + m)) last_place
fits_is p n m h k =
    ⊎_elim (λ (l : last_place - p - n < m). lt-leb m (last_place - p - n) l ∙ sym (lt-leb (p + (n + m)) last_place (omega arith)))
    (λ (l : m ≤ last_place - p - n). le-leb m (last_place - p - n) l ∙ sym (le-leb (p + (n + m)) last_place (omega arith)))
    (less (last_place - p - n) m)

pub fits_not : (p n m : ℕ) → last_place - p < n → false ≡ leb (p + (n + m)) last_place
fits_not p n m h = sym (lt-leb (p + (n + m)) last_place (omega arith))

-- THE LEDGER AND THE COUNTS

-- a count is refused exactly where the book is broken
held_number : (b : Book) → (answer_to b (Ask Held)).number ≡ pick (not (Book.sound_of b)) 13 0
unfolding answer_to number_to checked_of own_number
held_number b = refl

-- a count is answered where the ledger is sound
pub held_ok : (l : Ledger) (a : Result ℕ Refusal) → count_paper a ≡ answer_to (book_of l) (Ask Held) → is_ok a ≡ Book.sound_of (book_of l)
held_ok l (Ok k) p =
    ⊎_elim (λ (t : Book.sound_of (book_of l) ≡ true). sym t)
    (λ (f : Book.sound_of (book_of l) ≡ false). let n : ◌≡◌ {A = ℕ} 0 13 = one_number p ∙ held_number (book_of l) ∙ rw f in absurd (omega arith))
    (two (Book.sound_of (book_of l)))
held_ok l (Err w) p =
    ⊎_elim (λ (t : Book.sound_of (book_of l) ≡ true). absurd (refusal_pos w (one_number p ∙ held_number (book_of l) ∙ rw t)))
    (λ (f : Book.sound_of (book_of l) ≡ false). sym f)
    (two (Book.sound_of (book_of l)))

module _ (l : Ledger) (k : ℕ) where
  pub held_done : (a : Result ℕ Refusal) → a ≡ Ok k → count_paper a ≡ answer_to (book_of l) (Ask Held) → Book.sound_of (book_of l) ≡ true
  held_done a e p = sym (held_ok l a p) ∙ ap is_ok e

  pub held_refused : (a : Result ℕ Refusal) (w : Refusal) → a ≡ Err w → count_paper a ≡ answer_to (book_of l) (Ask Held) → Book.sound_of (book_of l) ≡ false
  held_refused a w e p = sym (held_ok l a p) ∙ ap is_ok e

pub ledger_other : (l : Ledger) → (l.channel.0 ≡ 100 → ⊥) → false ≡ ledger_right l
unfolding ledger_right
ledger_other l ne = rw (ne_eqb l.channel.0 100 ne)

pub ledger_own : (l : Ledger) (b : Bool) → l.channel.0 ≡ 100 → Book.sound_of (book_of l) ≡ b → b ≡ ledger_right l
unfolding ledger_right
ledger_own l b e s = rw (eq-eqb l.channel.0 100 e, s)

module _ (t : Tally) (place : ℕ) where
  pub tally_many : place < t.frames + t.refused → false ≡ tally_right t place
  unfolding tally_right
  tally_many h = rw (lt-leb (t.frames + t.refused) place h)

  pub tally_own : t.frames + t.refused ≤ place → ledger_right t.ledger ≡ tally_right t place
  unfolding tally_right
  tally_own h = rw (le-leb (t.frames + t.refused) place h)

-- THE STREAM, check by check

and_both : (a b : Bool) → a && b ≡ true → (a ≡ true) × (b ≡ true)
and_both true b e = (refl, e)
and_both false b e = absurd (clash refl (sym e))

-- all checks pass
pub record Checked (x : Stream) : Type 0 where
  pub few : x.len ≤ 8191
  pub blank : all_zero (drop x.len x.kept) ≡ true
  pub counts : x.tally.frames + x.tally.refused ≤ x.place
  pub right : ledger_right x.tally.ledger ≡ true
  pub places : x.place + x.len ≤ last_place
  pub waits : waits_right x ≡ true

pub sound_checked : (x : Stream) → sound_of x ≡ true → Checked x
unfolding sound_of tally_right
sound_checked x e =
    let a = and_both (leb x.len 8191) _ e in
    let b = and_both (all_zero (drop x.len x.kept)) _ a.1 in
    let c = and_both (tally_right x.tally x.place) _ b.1 in
    let d = and_both (leb (x.place + x.len) last_place) _ c.1 in
    let t = and_both (leb (x.tally.frames + x.tally.refused) x.place) _ c.0 in
    record {
      few = leb-true _ _ a.0;
      blank = b.0;
      counts = leb-true _ _ t.0;
      right = t.1;
      places = leb-true _ _ d.0;
      waits = d.1;
    }

pub checked_sound : (x : Stream) → Checked x → sound_of x ≡ true
unfolding sound_of tally_right
checked_sound x c =
    rw (le-leb x.len 8191 c.few, c.blank, le-leb (x.tally.frames + x.tally.refused) x.place c.counts, c.right, le-leb (x.place + x.len) last_place c.places, c.waits)

module _ (x : Stream) where
  pub sound_long : 8191 < x.len → false ≡ sound_of x
  unfolding sound_of
  sound_long h = rw (lt-leb x.len 8191 h)

  module _ (h : x.len ≤ 8191) where
    pub sound_blank : all_zero (drop x.len x.kept) ≡ false → false ≡ sound_of x
    unfolding sound_of
    sound_blank z = rw (le-leb x.len 8191 h, z)

    module _ (z : all_zero (drop x.len x.kept) ≡ true) where
      pub sound_tally : tally_right x.tally x.place ≡ false → false ≡ sound_of x
      unfolding sound_of
      sound_tally t = rw (le-leb x.len 8191 h, z, t)

      module _ (t : tally_right x.tally x.place ≡ true) where
        pub sound_places : leb (x.place + (x.len + 0)) last_place ≡ false → false ≡ sound_of x
        unfolding sound_of
        sound_places p = rw (le-leb x.len 8191 h, z, t, ← add-zero x.len, p)

        module _ (p : leb (x.place + (x.len + 0)) last_place ≡ true) where
          fits : leb (x.place + x.len) last_place ≡ true
          fits = ap (λ (n : ℕ). leb (x.place + n) last_place) (sym (add-zero x.len)) ∙ p

          pub sound_none : x.len ≡ 0 → true ≡ sound_of x
          unfolding sound_of waits_right
          sound_none e = rw (le-leb x.len 8191 h, z, t, fits, eq-eqb x.len 0 e)

          module _ (ne : x.len ≡ 0 → ⊥) where
            pub sound_closed : x.closed ≡ true → false ≡ sound_of x
            unfolding sound_of waits_right
            sound_closed c = rw (le-leb x.len 8191 h, z, t, fits, ne_eqb x.len 0 ne, c)

            pub sound_waits : x.closed ≡ false → (y : Seen) → x.len ≤ length x.kept → y ≡ seen_of (take x.len x.kept) → eqb (seen_number y) 1 ≡ sound_of x
            unfolding sound_of waits_right
            sound_waits c y l e = rw (le-leb x.len 8191 h, z, t, fits, ne_eqb x.len 0 ne, c, head_take x.len x.kept l, e)

-- BEFORE THE FIRST CALL

pub opened_is : (l : Ledger) (kept : List ℕ) → l ≡ ledger_of (fresh 100) → kept ≡ replicate 8191 0
    → ◌≡◌ {A = Stream} (record { place = 0; seeking = false; closed = false; len = 0; kept = kept; tally = record { frames = 0; refused = 0; ledger = l } }) opened
unfolding opened value_of is_seeking
opened_is l kept e f = ap₂ (λ (a : Ledger) (b : List ℕ). record { place = 0; seeking = false; closed = false; len = 0; kept = b; tally = record { frames = 0; refused = 0; ledger = a } }) e f
