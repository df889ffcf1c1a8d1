-- Each number of a call that adds a capture is given exactly when the papers say so; a refusal
-- changes nothing; and no call breaks the state rules. Assumes nothing.
use Prim.Native.Nat.{ℕ, ◌+◌, ◌*◌, ◌/◌, ◌%◌, ◌≤◌, ◌<◌}
use mathlib.Core.Path.{◌≡◌, ap₂, ◌∙◌}
use mathlib.Core.Bool.{Bool, true, false}
use mathlib.Core.Logic.{⊎_elim, ◌↔◌}
use mathlib.Core.List.{List}
use native.Mathlib.Omega.{arith}
use lib.ListN.{get_or}
use borrow.Author.Tests.{eq-eqb, ne_eqb, le-leb, leb-true, leb-false, lt-leb, lt-ltb, le-ltb}
use Rattle.terms.specs.Cases.{two, less, same, clash}
use Rattle.month_spec.specs.Figures.{figure_of}
use Rattle.month_spec.specs.Page.{Page, captures, figures_in_all, highest, all_below, sound_of, PageRules}
use Rattle.month_spec.specs.Calls.{figure_at, sum_fits, number_to, counted, next_of}
use Rattle.month_spec.specs.Given.{Given27, Given28, Given0}
use Rattle.month_spec.proofs.Lists.{length_tabled, get_d_tabled, all_each, all_made, all_broken, Breaks, not_all}
use Rattle.month_spec.proofs.Rules.{rules_facts, rules_test}

-- FIGURE NUMBER k IS FIGURE k % 6 OF PLACE k / 6
module _ (p : Page) (s : List ℕ) where
  pub figure_named : (place figure : ℕ) → place < p.named → figure < 6 → figure_at p s (6 * place + figure) ≡ figure_of (get_or p.channels place 0) s figure
  unfolding figure_at
  figure_named place figure h k =
      let low : 6 * place + figure < 6 * p.named = omega arith in
      let d : (6 * place + figure) / 6 ≡ place = omega arith in
      let m : (6 * place + figure) % 6 ≡ figure = omega arith in
      rw (lt-ltb _ _ low, d, m)

  pub figure_unnamed : (k : ℕ) → 6 * p.named ≤ k → figure_at p s k ≡ 0
  unfolding figure_at
  figure_unnamed k h = rw (le-ltb k (6 * p.named) h)

  pub figure_place : (k : ℕ) → k < 6 * p.named → figure_at p s k ≡ figure_of (get_or p.channels (k / 6) 0) s (k % 6)
  unfolding figure_at
  figure_place k h = rw (lt-ltb k (6 * p.named) h)

  -- the sums fit for each place and figure, or for each number of a sum
  pub fits_all : PageRules p → ((place figure : ℕ) → place < p.named → figure < 6 → get_or p.sums (6 * place + figure) 0 + figure_of (get_or p.channels place 0) s figure ≤ highest)
      → (k : ℕ) → k < figures_in_all → get_or p.sums k 0 + figure_at p s k ≤ highest
  fits_all r f k l =
      ⊎_elim
      (λ (h : k < 6 * p.named).
      let e : 6 * (k / 6) + k % 6 ≡ k = omega arith in
      let q : k / 6 < p.named = omega arith in
      let m : k % 6 < 6 = omega arith in
      let g : get_or p.sums (6 * (k / 6) + k % 6) 0 + figure_of (get_or p.channels (k / 6) 0) s (k % 6) ≤ highest = f (k / 6) (k % 6) q m in
      let g2 : get_or p.sums k 0 + figure_of (get_or p.channels (k / 6) 0) s (k % 6) ≤ highest = rw e at g in
      omega (arith, figure_place k h))
      (λ (h : 6 * p.named ≤ k). omega (arith, figure_unnamed k h, r.no_sum k h l))
      (less k (6 * p.named))

  -- ONE ANSWER EACH
  abbrev fits : Bool
  fits = all_below (sum_fits p s) figures_in_all

  pub broken_is : sound_of p ≡ false → number_to p s ≡ 13
  unfolding number_to
  broken_is e = rw e

  pub full_is : sound_of p ≡ true → captures ≤ p.taken → number_to p s ≡ 27
  unfolding number_to
  full_is e h = rw (e, le-leb _ _ h)

  pub passes_is : sound_of p ≡ true → p.taken < captures → fits ≡ false → number_to p s ≡ 28
  unfolding number_to
  passes_is e h f = rw (e, lt-leb _ _ h, f)

  pub done_is : sound_of p ≡ true → p.taken < captures → fits ≡ true → number_to p s ≡ 0
  unfolding number_to
  done_is e h f = rw (e, lt-leb _ _ h, f)

  -- a view of all four
  pub data View : ℕ → Type 0 where
    broken : sound_of p ≡ false → View 13
    full : PageRules p → captures ≤ p.taken → View 27
    passing : PageRules p → p.taken < captures → fits ≡ false → View 28
    done : PageRules p → p.taken < captures → fits ≡ true → View 0

  pub view : View (number_to p s)
  view =
      ⊎_elim
      (λ (t : sound_of p ≡ true).
      ⊎_elim
      (λ (h : p.taken < captures).
      ⊎_elim (λ (f : fits ≡ true). rw (done_is t h f) (done (rules_facts p t) h f)) (λ (f : fits ≡ false). rw (passes_is t h f) (passing (rules_facts p t) h f)) (two fits))
      (λ (h : captures ≤ p.taken). rw (full_is t h) (full (rules_facts p t) h))
      (less p.taken captures))
      (λ (f : sound_of p ≡ false). rw (broken_is f) (broken f))
      (two (sound_of p))

  -- GIVEN EXACTLY WHEN
  is_13 : {n : ℕ} → View n → n ≡ 13 → PageRules p → ⊥
  is_13 (broken f) e r = clash (rules_test p r) f
  is_13 (full r h) e q = omega arith
  is_13 (passing r h f) e q = omega arith
  is_13 (done r h f) e q = omega arith

  pub given_13 : (number_to p s ≡ 13) ↔ (PageRules p → ⊥)
  given_13 = (is_13 view, λ n. broken_is (⊎_elim (λ (t : sound_of p ≡ true). absurd (n (rules_facts p t))) (λ (f : sound_of p ≡ false). f) (two (sound_of p))))

  is_27 : {n : ℕ} → View n → n ≡ 27 → Given27 p
  is_27 (broken f) e = absurd (omega arith)
  is_27 (full r h) e = record { rules = r; full = omega (arith, r.taken_few) }
  is_27 (passing r h f) e = absurd (omega arith)
  is_27 (done r h f) e = absurd (omega arith)

  pub given_27 : (number_to p s ≡ 27) ↔ Given27 p
  given_27 = (is_27 view, λ g. full_is (rules_test p g.rules) (omega (arith, g.full)))

  breaks_28 : PageRules p → p.taken < captures → Breaks (sum_fits p s) figures_in_all → Given28 p s
  breaks_28 r h b =
      let k = b.at in
      let over : highest < get_or p.sums k 0 + figure_at p s k = leb-false _ _ b.not_so in
      ⊎_elim
      (λ (l : k < 6 * p.named).
      let e : 6 * (k / 6) + k % 6 ≡ k = omega arith in
      let g : highest < get_or p.sums k 0 + figure_of (get_or p.channels (k / 6) 0) s (k % 6) = omega (arith, figure_place k l) in
      record { rules = r; room = h; place = k / 6; figure = k % 6; named = omega arith; six = omega arith; passes = rw e g })
      (λ (l : 6 * p.named ≤ k). absurd (omega (arith, figure_unnamed k l, r.no_sum k l b.below)))
      (less k (6 * p.named))

  is_28 : {n : ℕ} → View n → n ≡ 28 → Given28 p s
  is_28 (broken f) e = absurd (omega arith)
  is_28 (full r h) e = absurd (omega arith)
  is_28 (passing r h f) e = breaks_28 r h (not_all (sum_fits p s) figures_in_all f)
  is_28 (done r h f) e = absurd (omega arith)

  passes_28 : Given28 p s → fits ≡ false
  passes_28 g =
      let k = 6 * g.place + g.figure in
      let over : highest < get_or p.sums k 0 + figure_at p s k = omega (arith, figure_named g.place g.figure g.named g.six, g.passes) in
      all_broken (sum_fits p s) figures_in_all k (omega (arith, g.named, g.six, g.rules.named_few)) (lt-leb (get_or p.sums k 0 + figure_at p s k) highest over)

  pub given_28 : (number_to p s ≡ 28) ↔ Given28 p s
  given_28 = (is_28 view, λ g. passes_is (rules_test p g.rules) g.room (passes_28 g))

  is_0 : {n : ℕ} → View n → n ≡ 0 → Given0 p s
  is_0 (broken f) e = absurd (omega arith)
  is_0 (full r h) e = absurd (omega arith)
  is_0 (passing r h f) e = absurd (omega arith)
  is_0 (done r h f) e =
      record {
        rules = r;
        room = h;
        fits = λ i j a b.
            let g : get_or p.sums (6 * i + j) 0 + figure_at p s (6 * i + j) ≤ highest = leb-true _ _ (all_each (sum_fits p s) figures_in_all f (6 * i + j) (omega (arith, r.named_few))) in
            omega (arith, figure_named i j a b);
      }

  pub given_0 : (number_to p s ≡ 0) ↔ Given0 p s
  given_0 =
      (is_0 view, λ g. done_is (rules_test p g.rules) g.room (all_made (sum_fits p s) figures_in_all (λ k l. le-leb _ _ (fits_all g.rules g.fits k l))))

  -- THE PAGE AFTER IT
  pub next_done : number_to p s ≡ 0 → next_of p s ≡ counted p s
  unfolding next_of
  next_done e = rw (eq-eqb _ _ e)

  -- a refusal changes nothing, and tells nothing
  pub page_stays : (number_to p s ≡ 0 → ⊥) → next_of p s ≡ p
  unfolding next_of
  page_stays ne = rw (ne_eqb _ _ ne)

  pub sum_next : (k : ℕ) → k < figures_in_all → get_or (counted p s).sums k 0 ≡ get_or p.sums k 0 + figure_at p s k
  unfolding counted
  sum_next k l = get_d_tabled (λ i. get_or p.sums i 0 + figure_at p s i) figures_in_all k l

  -- THE RULES ARE KEPT, and so at most 500 captures are taken
  kept_counted : Given0 p s → PageRules (counted p s)
  unfolding counted
  kept_counted g =
      let r = g.rules in
      record {
        named_few = r.named_few;
        taken_few = omega (arith, g.room);
        channel_places = r.channel_places;
        sum_places = length_tabled _ figures_in_all;
        small = r.small;
        apart = r.apart;
        no_name = r.no_name;
        no_sum = λ k h l. sum_next k l ∙ ap₂ (λ (x y : ℕ). x + y) (r.no_sum k h l) (figure_unnamed k h);
      }

  pub rules_kept : PageRules p → PageRules (next_of p s)
  rules_kept r =
      ⊎_elim (λ (e : number_to p s ≡ 0). rw (next_done e) (kept_counted (given_0.0 e))) (λ (ne : number_to p s ≡ 0 → ⊥). rw (page_stays ne) r) (same (number_to p s) 0)
