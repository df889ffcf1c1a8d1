-- The loops that look at every place of a page: what is known of the places passed. Assumes
-- nothing.
use Prim.Native.Nat.{ℕ, zero, suc, ◌+◌, ◌-◌, ◌*◌, ◌≤◌, ◌<◌}
use mathlib.Core.Path.{◌≡◌, refl, sym, ap, ◌∙◌}
use mathlib.Core.Bool.{Bool, true, false}
use mathlib.Core.Logic.{⊎_elim}
use mathlib.Core.List.{List, [], ◌∷◌}
use native.Mathlib.Omega.{arith}
use lib.Dec.{eqb, leb, ltb}
use lib.ListN.{length, get_or, take, drop, length-drop}
use lib.Seq.{take_all, length-take-le, get_or-take, get_or-drop}
use borrow.Author.Tests.{eq-eqb, ne_eqb, ltb-true, ltb-false, lt-ltb, le-ltb, le-leb, lt-leb}
use Rattle.std.specs.List.{list_any, list_all, position, position_or_len}
use Rattle.std.specs.Prelude.{Option, Some, None, IfSome}
use Rattle.std.specs.Option.{unwrap_or}
use Rattle.terms.specs.Paper.{pick}
use Rattle.month.specs.State.{sum_in, sum_fits_in}
use Rattle.std.proofs.lemmas.List.Sums.{position_or_len_is, AllPass-from_list_all, list_all-from_AllPass}
use Rattle.terms.specs.Cases.{two, less, clash, and_false}
use Rattle.channels_spec.proofs.Least.{least_low}
use Rattle.channels_spec.specs.Table.{least}
use Rattle.month_spec.specs.Page.{Page, captures, places, figures_in_all, highest, tabled, all_below, place_in, place_right, sum_right, channels_right, sums_right, sound_of}
use Rattle.month_spec.proofs.Lists.{all_each, all_made, all_broken}
use Rattle.month_spec.proofs.Rules.{found_at, found_top}
use Rattle.month.proofs.Fill.{any_default}

-- all numbers below i are so, and i is not past n
pub record Passed (so : ℕ → Bool) (n i : ℕ) : Type 0 where
  pub within : i ≤ n
  pub each : (j : ℕ) → j < i → so j ≡ true

pub passed_none : (so : ℕ → Bool) (n : ℕ) → Passed so n 0
passed_none so n = record { within = omega arith; each = λ j h. absurd (omega arith) }

pub passed_one : {so : ℕ → Bool} {n i : ℕ} → Passed so n i → i < n → so i ≡ true → Passed so n (i + 1)
passed_one {so} {n} {i} p h e =
    record {
      within = omega arith;
      each = λ j l. ⊎_elim (λ (g : j < i). p.each j g) (λ (g : i ≤ j). let q : j ≡ i = omega arith in ap so q ∙ e) (less j i);
    }

-- WHERE A CHANNEL IS
less_suc : (m i : ℕ) → ltb m i ≡ ltb (suc m) (suc i)
less_suc m i =
    ⊎_elim (λ (l : m < i). lt-ltb m i l ∙ sym (lt-ltb (suc m) (suc i) (omega arith))) (λ (g : i ≤ m). le-ltb m i g ∙ sym (le-ltb (suc m) (suc i) (omega arith))) (less m i)

-- among the first i, or not
pub contained : (i : ℕ) (channels : List ℕ) (channel : ℕ) → i ≤ length channels → list_any (λ c. eqb c channel) (take i channels) ≡ ltb (place_in channels i channel) i
unfolding least
contained zero channels channel h = refl
contained (suc i) [] channel h = absurd (omega arith)
contained (suc i) (c ∷ cs) channel h =
    ⊎_elim (λ (e : eqb c channel ≡ true). rw e (sym (lt-ltb 0 (suc i) (omega arith)))) (λ (f : eqb c channel ≡ false). rw f (contained i cs channel (omega arith) ∙ less_suc _ i)) (two (eqb c channel))

not_before : (channels : List ℕ) (n channel k : ℕ) → k < place_in channels n channel → get_or channels k 0 ≡ channel → ⊥
not_before channels n channel k h e =
    let top : place_in channels n channel ≤ n = found_top channels n channel in
    let low : place_in channels n channel ≤ k = least_low (λ i. eqb (get_or channels i 0) channel) n k (omega arith) (eq-eqb _ _ e) in
    omega arith

module _ (channels : List ℕ) (n channel : ℕ) (long : n ≤ length channels) where
  pub is_there : list_any (λ c. eqb c channel) (take n channels) ≡ true → place_in channels n channel < n
  is_there e = ltb-true (place_in channels n channel) n (sym (contained n channels channel long) ∙ e)

  pub not_there : list_any (λ c. eqb c channel) (take n channels) ≡ false → n ≤ place_in channels n channel
  not_there e = ltb-false (place_in channels n channel) n (sym (contained n channels channel long) ∙ e)

  front : length (take n channels) ≡ n
  front = length-take-le n channels long

  first_at : position_or_len (λ c. eqb c channel) (take n channels) ≡ place_in channels n channel
  first_at =
      let top : place_in channels n channel ≤ n = found_top channels n channel in
      position_or_len_is (λ c. eqb c channel) (take n channels) (place_in channels n channel) 0 (omega (arith, front))
      (λ k h. rw (get_or-take n channels k 0 (omega arith)) (ne_eqb _ _ (not_before channels n channel k h)))
      (λ h. let l : place_in channels n channel < n = omega (arith, front) in rw (get_or-take n channels _ 0 l) (eq-eqb _ _ (found_at channels n channel l)))

  -- at the first place that has it
  pub first_place : unwrap_or (position (λ c. eqb c channel) (take n channels)) n ≡ place_in channels n channel
  first_place =
      let top : place_in channels n channel ≤ n = found_top channels n channel in
      rw (front, first_at)
      (⊎_elim (λ (l : place_in channels n channel < n). rw (lt-ltb _ _ l)) (λ (g : n ≤ place_in channels n channel). rw (le-ltb _ _ g) (omega arith)) (less (place_in channels n channel) n))

  pub first_inside : IfSome (position (λ c. eqb c channel) (take n channels)) (λ i. i < n)
  first_inside =
      rw (first_at, front)
      (⊎_elim (λ (l : place_in channels n channel < n). rw (lt-ltb _ _ l) l) (λ (g : n ≤ place_in channels n channel). rw (le-ltb _ _ g) tt) (less (place_in channels n channel) n))

-- EVERY PLACE OF THE CHANNELS
module _ (channels : List ℕ) (named : ℕ) where
  pub right_free : (i : ℕ) → named ≤ i → get_or channels i 0 ≡ 0 → place_right channels named i ≡ true
  right_free i h e = rw (le-ltb i named h) (eq-eqb _ _ e)

  pub wrong_free : (i : ℕ) → named ≤ i → (get_or channels i 0 ≡ 0 → ⊥) → place_right channels named i ≡ false
  wrong_free i h ne = rw (le-ltb i named h) (ne_eqb _ _ ne)

  pub wrong_long : (i c : ℕ) → i < named → c ≡ get_or channels i 0 → 9999 < c → place_right channels named i ≡ false
  wrong_long i c h e l = rw (lt-ltb i named h) (rw (← e) (rw (lt-leb c 9999 l)))

  -- whether the channel is among those before it
  module _ (i : ℕ) (h : i < named) (inside : i ≤ length channels) where
    pub wrong_there : list_any (λ c. eqb c (get_or channels i 0)) (take i channels) ≡ true → place_right channels named i ≡ false
    wrong_there e =
        let l : place_in channels i (get_or channels i 0) < i = is_there channels i (get_or channels i 0) inside e in
        rw (lt-ltb i named h) (rw (ne_eqb _ _ (λ (q : place_in channels i (get_or channels i 0) ≡ i). omega arith)) (and_false (leb (get_or channels i 0) 9999)))

    pub right_new : get_or channels i 0 ≤ 9999 → list_any (λ c. eqb c (get_or channels i 0)) (take i channels) ≡ false → place_right channels named i ≡ true
    right_new l e =
        let low : i ≤ place_in channels i (get_or channels i 0) = not_there channels i (get_or channels i 0) inside e in
        let top : place_in channels i (get_or channels i 0) ≤ i = found_top channels i (get_or channels i 0) in
        rw (lt-ltb i named h) (rw (le-leb (get_or channels i 0) 9999 l) (eq-eqb _ _ (omega arith)))

  module _ (long : length channels ≡ places) where
    pub channels_broken : (i : ℕ) → i < places → place_right channels named i ≡ false → false ≡ channels_right channels named
    unfolding channels_right
    channels_broken i h e = rw (all_broken (place_right channels named) places i h e) (sym (and_false (eqb (length channels) places)))

    pub channels_fine : (i : ℕ) → Passed (place_right channels named) places i → places ≤ i → true ≡ channels_right channels named
    unfolding channels_right
    channels_fine i p h = rw (eq-eqb _ _ long, all_made (place_right channels named) places (λ k l. p.each k (omega arith)))

-- EVERY SUM
module _ (sums : List ℕ) (named : ℕ) (long : length sums ≡ figures_in_all) where
  unnamed : (k : ℕ) → 6 * named ≤ k → get_or (drop (6 * named) sums) (k - 6 * named) 0 ≡ get_or sums k 0
  unnamed k h = get_or-drop (6 * named) sums (k - 6 * named) 0 ∙ ap (λ (i : ℕ). get_or sums i 0) (omega arith)

  some_long : (k : ℕ) → 6 * named ≤ k → k < figures_in_all → k - 6 * named < length (drop (6 * named) sums)
  some_long k h l = omega (arith, long, length-drop (6 * named) sums)

  sum_fine : list_all (λ x. eqb x 0) (drop (6 * named) sums) ≡ true → (k : ℕ) → k < figures_in_all → sum_right sums named k ≡ true
  sum_fine e k l =
      ⊎_elim (λ (g : k < 6 * named). rw (lt-ltb k (6 * named) g))
      (λ (g : 6 * named ≤ k).
      rw (le-ltb k (6 * named) g)
      (ap (λ (x : ℕ). eqb x 0) (sym (unnamed k g)) ∙ AllPass-from_list_all (λ x. eqb x 0) (drop (6 * named) sums) e (k - 6 * named) 0 (some_long k g l)))
      (less k (6 * named))

  fine_sum : all_below (sum_right sums named) figures_in_all ≡ true → list_all (λ x. eqb x 0) (drop (6 * named) sums) ≡ true
  fine_sum e =
      list_all-from_AllPass (λ x. eqb x 0) (drop (6 * named) sums)
      (λ k d h.
      let l : 6 * named + k < figures_in_all = omega (arith, long, length-drop (6 * named) sums) in
      let right : sum_right sums named (6 * named + k) ≡ true = all_each (sum_right sums named) figures_in_all e (6 * named + k) l in
      ap (λ (x : ℕ). eqb x 0) (any_default (drop (6 * named) sums) k d 0 h ∙ get_or-drop (6 * named) sums k 0) ∙ (rw (le-ltb (6 * named + k) (6 * named) (omega arith)) at right))

  pub sums_told : named ≤ places → list_all (λ x. eqb x 0) (take (192 - 6 * named) (drop (6 * named) sums)) ≡ sums_right sums named
  unfolding sums_right
  sums_told few =
      rw (take_all (192 - 6 * named) (drop (6 * named) sums) (omega (arith, long, length-drop (6 * named) sums)), eq-eqb _ _ long)
      (⊎_elim (λ (t : all_below (sum_right sums named) figures_in_all ≡ true). fine_sum t ∙ sym t)
      (λ (f : all_below (sum_right sums named) figures_in_all ≡ false).
      ⊎_elim (λ (t : list_all (λ x. eqb x 0) (drop (6 * named) sums) ≡ true). absurd (clash (all_made _ _ (sum_fine t)) f))
      (λ (g : list_all (λ x. eqb x 0) (drop (6 * named) sums) ≡ false). g ∙ sym f) (two (list_all (λ x. eqb x 0) (drop (6 * named) sums))))
      (two (all_below (sum_right sums named) figures_in_all)))

-- THE WHOLE PAGE
module _ (p : Page) where
  pub sound_named : places < p.named → false ≡ sound_of p
  unfolding sound_of
  sound_named h = rw (lt-leb p.named places h)

  pub sound_taken : captures < p.taken → false ≡ sound_of p
  unfolding sound_of
  sound_taken h = rw (lt-leb p.taken captures h) (sym (and_false (leb p.named places)))

  pub sound_channels : channels_right p.channels p.named ≡ false → false ≡ sound_of p
  unfolding sound_of
  sound_channels e = rw e (rw (and_false (leb p.taken captures)) (sym (and_false (leb p.named places))))

  pub sound_sums : p.named ≤ places → p.taken ≤ captures → channels_right p.channels p.named ≡ true → (b : Bool) → b ≡ sums_right p.sums p.named → b ≡ sound_of p
  unfolding sound_of
  sound_sums h k e b f = rw (le-leb p.named places h, le-leb p.taken captures k, e) f

-- EACH SUM WITH ITS FIGURE
module _ (sums figures : List ℕ) where
  abbrev made : Option (List ℕ)
  made = pick (all_below (sum_fits_in sums figures) figures_in_all) (Some (tabled (sum_in sums figures) figures_in_all)) None

  pub one_fits : (k : ℕ) → sum_in sums figures k < 18446744073709551616 → sum_fits_in sums figures k ≡ true
  one_fits k h = le-leb (sum_in sums figures k) highest (omega arith)

  pub one_passes : (k : ℕ) → k < figures_in_all → (sum_in sums figures k < 18446744073709551616 → ⊥) → None ≡ made
  one_passes k h ne =
      let g : highest < sum_in sums figures k = ⊎_elim (λ (l : sum_in sums figures k < 18446744073709551616). absurd (ne l)) (λ (m : 18446744073709551616 ≤ sum_in sums figures k). omega arith) (less (sum_in sums figures k) 18446744073709551616) in
      rw (all_broken (sum_fits_in sums figures) figures_in_all k h (lt-leb (sum_in sums figures k) highest g))

  pub all_fit : (k : ℕ) (next : List ℕ) → Passed (sum_fits_in sums figures) figures_in_all k → figures_in_all ≤ k → next ≡ tabled (sum_in sums figures) figures_in_all → Some next ≡ made
  all_fit k next p h e = rw (all_made (sum_fits_in sums figures) figures_in_all (λ i l. p.each i (omega arith)), e)
