-- The state rules as a test say the facts; and a named place is found by its channel. Assumes
-- nothing.
use Prim.Native.Nat.{ℕ, ◌*◌, ◌≤◌, ◌<◌}
use mathlib.Core.Path.{◌≡◌, sym}
use mathlib.Core.Bool.{true, ◌&&◌}
use mathlib.Core.Logic.{⊎_elim, ◌↔◌}
use mathlib.Core.List.{List}
use native.Mathlib.Omega.{arith}
use lib.Dec.{eqb, leb}
use lib.ListN.{get_or}
use borrow.Author.Tests.{eq-eqb, ne_eqb, eqb-true, le-leb, leb-true, lt-ltb, le-ltb}
use Rattle.terms.specs.Cases.{less, clash}
use Rattle.terms.specs.RuledOut.{split}
use Rattle.channels_spec.proofs.Least.{least_is, least_none, least_all, least_top}
use Rattle.month_spec.specs.Page.{Page, places, figures_in_all, place_in, place_right, sum_right, channels_right, sums_right, sound_of, PageRules}
use Rattle.month_spec.proofs.Lists.{all_each, all_made}

-- ONE PLACE
module _ (channels : List ℕ) where
  -- a place before i has the channel of i, or none has
  pub new_at : (i : ℕ) → place_in channels i (get_or channels i 0) ≡ i → (j : ℕ) → j < i → get_or channels j 0 ≡ get_or channels i 0 → ⊥
  new_at i e j h g = clash (eq-eqb _ _ g) (least_none (λ k. eqb (get_or channels k 0) (get_or channels i 0)) i (omega arith) j h)

  pub new_made : (i c : ℕ) → ((j : ℕ) → j < i → get_or channels j 0 ≡ c → ⊥) → place_in channels i c ≡ i
  new_made i c h = least_all (λ k. eqb (get_or channels k 0) c) i (λ j l. ne_eqb _ _ (h j l))

  -- where a place below n is found, it has the channel
  pub found_at : (n c : ℕ) → place_in channels n c < n → get_or channels (place_in channels n c) 0 ≡ c
  found_at n c h = eqb-true _ _ (least_is (λ k. eqb (get_or channels k 0) c) n h).is_so

  -- and where none is, none has it
  pub found_not : (n c : ℕ) → n ≤ place_in channels n c → (j : ℕ) → j < n → get_or channels j 0 ≡ c → ⊥
  found_not n c h j l g = clash (eq-eqb _ _ g) (least_none (λ k. eqb (get_or channels k 0) c) n h j l)

  pub found_top : (n c : ℕ) → place_in channels n c ≤ n
  found_top n c = least_top (λ k. eqb (get_or channels k 0) c) n

  module _ (named : ℕ) where
    named_right : (i : ℕ) → i < named → place_right channels named i ≡ true → (get_or channels i 0 ≤ 9999) × (place_in channels i (get_or channels i 0) ≡ i)
    named_right i h e =
        let f : leb (get_or channels i 0) 9999 && eqb (place_in channels i (get_or channels i 0)) i ≡ true = rw (lt-ltb i named h) at e in
        let q = split _ _ f in
        (leb-true _ _ q.0, eqb-true _ _ q.1)

    unnamed_right : (i : ℕ) → named ≤ i → place_right channels named i ≡ true → get_or channels i 0 ≡ 0
    unnamed_right i h e = eqb-true _ _ (rw (le-ltb i named h) at e)

    named_made : (i : ℕ) → i < named → get_or channels i 0 ≤ 9999 → place_in channels i (get_or channels i 0) ≡ i → place_right channels named i ≡ true
    named_made i h p q = rw (lt-ltb i named h) (rw (le-leb _ _ p) (eq-eqb _ _ q))

    unnamed_made : (i : ℕ) → named ≤ i → get_or channels i 0 ≡ 0 → place_right channels named i ≡ true
    unnamed_made i h e = rw (le-ltb i named h) (eq-eqb _ _ e)

-- THE PAGE
module _ (p : Page) where
  pub rules_facts : sound_of p ≡ true → PageRules p
  unfolding sound_of channels_right sums_right
  rules_facts e =
      let a = split _ _ e in
      let b = split _ _ a.1 in
      let c = split _ _ b.1 in
      let d = split _ _ c.0 in
      let f = split _ _ c.1 in
      let low : p.named ≤ places = leb-true _ _ a.0 in
      let at : (i : ℕ) → i < places → place_right p.channels p.named i ≡ true = all_each _ places d.1 in
      let inside : (i : ℕ) → i < p.named → i < places = λ i h. omega arith in
      let each : (i : ℕ) → i < p.named → (get_or p.channels i 0 ≤ 9999) × (place_in p.channels i (get_or p.channels i 0) ≡ i) = λ i h. named_right p.channels p.named i h (at i (inside i h)) in
      record {
        named_few = low;
        taken_few = leb-true _ _ b.0;
        channel_places = eqb-true _ _ d.0;
        sum_places = eqb-true _ _ f.0;
        small = λ i h. (each i h).0;
        apart = λ i j h k g.
            ⊎_elim (λ (l : i < j). absurd (new_at p.channels j (each j k).1 i l g))
            (λ (m : j ≤ i). ⊎_elim (λ (l : j < i). absurd (new_at p.channels i (each i h).1 j l (sym g))) (λ (n : i ≤ j). omega arith) (less j i))
            (less i j);
        no_name = λ i h k. unnamed_right p.channels p.named i h (at i k);
        no_sum = λ k h l. eqb-true _ _ (rw (le-ltb k (6 * p.named) h) at (all_each (sum_right p.sums p.named) figures_in_all f.1 k l));
      }

  sum_right_lem : PageRules p → (k : ℕ) → k < figures_in_all → sum_right p.sums p.named k ≡ true
  sum_right_lem r k l =
      ⊎_elim (λ (h : k < 6 * p.named). rw (lt-ltb k (6 * p.named) h)) (λ (h : 6 * p.named ≤ k). rw (le-ltb k (6 * p.named) h) (eq-eqb _ _ (r.no_sum k h l))) (less k (6 * p.named))

  place_right_lem : PageRules p → (i : ℕ) → i < places → place_right p.channels p.named i ≡ true
  place_right_lem r i l =
      ⊎_elim
      (λ (h : i < p.named).
      named_made p.channels p.named i h (r.small i h)
      (new_made p.channels i _ (λ j g e. let same : j ≡ i = r.apart j i (omega arith) h e in omega arith)))
      (λ (h : p.named ≤ i). unnamed_made p.channels p.named i h (r.no_name i h l))
      (less i p.named)

  pub rules_test : PageRules p → sound_of p ≡ true
  unfolding sound_of channels_right sums_right
  rules_test r =
      rw (le-leb _ _ r.named_few, le-leb _ _ r.taken_few, eq-eqb _ _ r.channel_places, all_made _ places (place_right_lem r), eq-eqb _ _ r.sum_places, all_made _ figures_in_all (sum_right_lem r))

  pub rules_say : (sound_of p ≡ true) ↔ PageRules p
  rules_say = (rules_facts, rules_test)
