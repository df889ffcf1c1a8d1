-- Places of a table: what stands where, and that a sound table stays sound when one place changes.
-- Assumes nothing.
use mathlib.Core.Path.{◌≡◌, refl, sym, ap, subst, ◌∙◌, fun_ext}
use mathlib.Core.Bool.{true}
use mathlib.Core.Logic.{⊎_elim}
use Prim.Native.Nat.{ℕ, ◌≤◌, ◌<◌}
use native.Mathlib.Omega.{arith}
use borrow.Author.Tests.{eq-eqb, ne_eqb, eqb-true, lt-ltb, ltb-true}
use Rattle.terms.specs.Cases.{clash, same}
use Rattle.ledger_spec.specs.State.{Book, StateRules}
use Rattle.ledger_spec.specs.Calls.{is_pending}
use Rattle.channels_spec.specs.Table.{Place, free, holds, Table, put, is_free, is_for, waits, book_in, place_of, is_open, book_of, TableRules}
use Rattle.channels_spec.proofs.Least.{least_low, least_is}

-- ---- one place changed

pub put_here : (t : Table) (i : ℕ) (p : Place) → (put t i p).place i ≡ p
put_here t i p = rw (eq-eqb i i refl)

pub put_else : (t : Table) (i j : ℕ) (p : Place) → (j ≡ i → ⊥) → (put t i p).place j ≡ t.place j
put_else t i j p n = rw (ne_eqb j i n)

-- what stands at a place after it
pub data After (t : Table) (i : ℕ) (p : Place) (j : ℕ) (q : Place) : Type 0 where
  here : j ≡ i → p ≡ q → After t i p j q
  else : (j ≡ i → ⊥) → t.place j ≡ q → After t i p j q

pub after_put : (t : Table) (i j : ℕ) (p q : Place) → (put t i p).place j ≡ q → After t i p j q
after_put t i j p q e =
    ⊎_elim (λ y. here y (sym (put_here t i p) ∙ ap (put t i p).place (sym y) ∙ e)) (λ n. else n (sym (put_else t i j p n) ∙ e)) (same j i)

-- a place that is given what it has
pub put_same : (t : Table) (i : ℕ) (p : Place) → t.place i ≡ p → put t i p ≡ t
put_same t i p e = ap (λ (f : ℕ → Place). record { place = f; last = t.last }) (fun_ext (λ j. at j))
  where
    at : (j : ℕ) → (put t i p).place j ≡ t.place j
    at j = ⊎_elim (λ y. ap (put t i p).place y ∙ put_here t i p ∙ sym e ∙ ap t.place (sym y)) (λ n. put_else t i j p n) (same j i)

-- ---- an open channel

pub one_book : {b d : Book} → holds b ≡ holds d → b ≡ d
one_book e = ap book_in e

pub not_free : {b : Book} → free ≡ holds b → ⊥
not_free e = clash refl (ap is_free e)

-- the place of a channel, and its ledger
pub record Here (t : Table) (channel i : ℕ) : Type 0 where
  pub book : Book
  pub within : i < 32
  pub is : t.place i ≡ holds book
  pub own : book.channel ≡ channel

held : (t : Table) (channel i : ℕ) (p : Place) → i < 32 → t.place i ≡ p → is_for channel p ≡ true → Here t channel i
held t channel i free l e y = absurd (clash y refl)
held t channel i (holds b) l e y = record { book = b; within = l; is = e; own = eqb-true _ _ y }

pub open_here : (t : Table) (channel : ℕ) → is_open t channel ≡ true → Here t channel (place_of t channel)
unfolding place_of
open_here t channel e =
    let f = least_is (λ i. is_for channel (t.place i)) 32 (ltb-true _ _ e) in
    held t channel _ _ f.within refl f.is_so

for_own : (p : Place) (b : Book) (channel : ℕ) → p ≡ holds b → b.channel ≡ channel → is_for channel p ≡ true
for_own p b channel e c = ap (is_for channel) e ∙ eq-eqb _ _ c

-- a channel has one place
pub its_place : (t : Table) → TableRules t → (i : ℕ) (b : Book) (channel : ℕ) → t.place i ≡ holds b → b.channel ≡ channel → place_of t channel ≡ i
unfolding place_of
its_place t r i b channel e c =
    let l : place_of t channel ≤ i = least_low (λ j. is_for channel (t.place j)) 32 i (r.within i b e) (for_own _ b channel e c) in
    let w : i < 32 = r.within i b e in
    let q : place_of t channel < 32 = omega arith in
    let h : Here t channel (place_of t channel) = open_here t channel (lt-ltb _ _ q) in
    r.apart _ i h.book b h.is e (h.own ∙ sym c)

pub its_open : (t : Table) → TableRules t → (i : ℕ) (b : Book) (channel : ℕ) → t.place i ≡ holds b → b.channel ≡ channel → is_open t channel ≡ true
its_open t r i b channel e c = lt-ltb _ _ (subst (λ (k : ℕ). k < 32) (sym (its_place t r i b channel e c)) (r.within i b e))

pub its_book : (t : Table) → TableRules t → (i : ℕ) (b : Book) (channel : ℕ) → t.place i ≡ holds b → b.channel ≡ channel → book_of t channel ≡ b
its_book t r i b channel e c = ap (λ (k : ℕ). book_in (t.place k)) (its_place t r i b channel e c) ∙ ap book_in e

-- ---- the table's rules, where one place changes

-- a ledger is put at a place: sound, of no channel that stands elsewhere, and pending only where
-- none is pending elsewhere
pub rules_put : (t : Table) (i : ℕ) (b : Book) → TableRules t → i < 32 → StateRules b
    → ((j : ℕ) (d : Book) → t.place j ≡ holds d → d.channel ≡ b.channel → j ≡ i)
    → (is_pending b.pending ≡ true → (j : ℕ) → waits (t.place j) ≡ true → j ≡ i)
    → TableRules (put t i (holds b))
rules_put t i b r l s a w =
    record {
      last_in = r.last_in;
      sound = λ j d e. sound_at j d (after_put t i j (holds b) (holds d) e);
      within = λ j d e. within_at j d (after_put t i j (holds b) (holds d) e);
      apart = λ j k d f x y c. apart_at j k d f (after_put t i j (holds b) (holds d) x) (after_put t i k (holds b) (holds f) y) c;
      one_waits = λ j k x y. waits_at j k x y (after_put t i j (holds b) _ refl) (after_put t i k (holds b) _ refl);
    }
  where
    sound_at : (j : ℕ) (d : Book) → After t i (holds b) j (holds d) → StateRules d
    sound_at j d (here y e) = subst StateRules (one_book e) s
    sound_at j d (else n e) = r.sound j d e

    within_at : (j : ℕ) (d : Book) → After t i (holds b) j (holds d) → j < 32
    within_at j d (here y e) = subst (λ (k : ℕ). k < 32) (sym y) l
    within_at j d (else n e) = r.within j d e

    apart_at : (j k : ℕ) (d f : Book) → After t i (holds b) j (holds d) → After t i (holds b) k (holds f) → d.channel ≡ f.channel → j ≡ k
    apart_at j k d f (here y e) (here z g) c = y ∙ sym z
    apart_at j k d f (here y e) (else m g) c = y ∙ sym (a k f g (sym c ∙ ap (λ (q : Book). q.channel) (sym (one_book e))))
    apart_at j k d f (else n e) (here z g) c = a j d e (c ∙ ap (λ (q : Book). q.channel) (sym (one_book g))) ∙ sym z
    apart_at j k d f (else n e) (else m g) c = r.apart j k d f e g c

    waits_at : (j k : ℕ) → waits ((put t i (holds b)).place j) ≡ true → waits ((put t i (holds b)).place k) ≡ true
        → After t i (holds b) j ((put t i (holds b)).place j) → After t i (holds b) k ((put t i (holds b)).place k) → j ≡ k
    waits_at j k x y (here u e) (here v f) = u ∙ sym v
    waits_at j k x y (here u e) (else m f) = u ∙ sym (w (ap waits e ∙ x) k (ap waits f ∙ y))
    waits_at j k x y (else n e) (here v f) = w (ap waits f ∙ y) j (ap waits e ∙ x) ∙ sym v
    waits_at j k x y (else n e) (else m f) = r.one_waits j k (ap waits e ∙ x) (ap waits f ∙ y)

-- a place is freed
pub rules_freed : (t : Table) (i : ℕ) → TableRules t → TableRules (put t i free)
rules_freed t i r =
    record {
      last_in = r.last_in;
      sound = λ j d e. r.sound j d (kept j d e);
      within = λ j d e. r.within j d (kept j d e);
      apart = λ j k d f x y c. r.apart j k d f (kept j d x) (kept k f y) c;
      one_waits = λ j k x y. r.one_waits j k (waited j x) (waited k y);
    }
  where
    still : (j : ℕ) (d : Book) → After t i free j (holds d) → t.place j ≡ holds d
    still j d (here y e) = absurd (not_free e)
    still j d (else n e) = e

    kept : (j : ℕ) (d : Book) → (put t i free).place j ≡ holds d → t.place j ≡ holds d
    kept j d e = still j d (after_put t i j free (holds d) e)

    waited_at : (j : ℕ) → waits ((put t i free).place j) ≡ true → After t i free j ((put t i free).place j) → waits (t.place j) ≡ true
    waited_at j x (here y e) = absurd (clash x (ap waits (sym e)))
    waited_at j x (else n e) = ap waits e ∙ x

    waited : (j : ℕ) → waits ((put t i free).place j) ≡ true → waits (t.place j) ≡ true
    waited j x = waited_at j x (after_put t i j free _ refl)

-- another place was asked last
pub rules_last : (t : Table) (n : ℕ) → n < 32 → TableRules t → TableRules (record { place = t.place; last = n })
rules_last t n l r = record { last_in = l; sound = r.sound; within = r.within; apart = r.apart; one_waits = r.one_waits }
