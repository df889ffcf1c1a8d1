-- After every row of captures each sum is that of the captures answered 0; and the captures in
-- another order give the same page, with none refused. Assumes nothing.
use Prim.Native.Nat.{ℕ, ◌+◌, ◌*◌, ◌≤◌, ◌<◌}
use mathlib.Core.Path.{◌≡◌, refl, sym, ap, ap₂, ◌∙◌}
use mathlib.Core.Logic.{⊎_elim}
use mathlib.Core.List.{List, [], ◌∷◌}
use native.Mathlib.Omega.{arith}
use lib.ListN.{length, get_or}
use borrow.Author.Tests.{eq-eqb, ne_eqb}
use Rattle.terms.specs.Cases.{same}
use Rattle.month_spec.specs.Figures.{figure_of}
use Rattle.month_spec.specs.Page.{Page, captures, figures_in_all, highest, PageRules}
use Rattle.month_spec.specs.Calls.{figure_at, number_to, counted, next_of}
use Rattle.month_spec.specs.Trace.{Capture, page_after, answered_zero, sum_over, Unrefused, u_more, Reordered, r_none, r_more, r_swap, r_then}
use Rattle.month_spec.specs.Given.{Given0}
use Rattle.month_spec.proofs.Lists.{get_d_tabled, tabled_same}
use Rattle.month_spec.proofs.Given.{figure_named, next_done, page_stays, sum_next, rules_kept, given_0}

-- the figures hang on the channels alone
figure_counted : (p : Page) (s t : Capture) (k : ℕ) → figure_at (counted p s) t k ≡ figure_at p t k
unfolding figure_at counted
figure_counted p s t k = refl

taken_next : (p : Page) (s : Capture) → (counted p s).taken ≡ p.taken + 1
unfolding counted
taken_next p s = refl

-- ---- the sums

sum_same : (f g : Capture → ℕ) → ((s : Capture) → f s ≡ g s) → (ss : List Capture) → sum_over f ss ≡ sum_over g ss
unfolding sum_over
sum_same f g h [] = refl
sum_same f g h (s ∷ ss) = ap₂ (λ (x y : ℕ). x + y) (h s) (sum_same f g h ss)

-- one capture more
module _ (p : Page) (s : Capture) (ss : List Capture) where
  module _ (e : number_to p s ≡ 0) where
    after_done : page_after p (s ∷ ss) ≡ page_after (counted p s) ss
    unfolding page_after
    after_done = ap (λ (q : Page). page_after q ss) (next_done p s e)

    zero_done : answered_zero p (s ∷ ss) ≡ s ∷ answered_zero (counted p s) ss
    unfolding answered_zero
    zero_done = rw (eq-eqb (number_to p s) 0 e) (ap (λ (q : Page). s ∷ answered_zero q ss) (next_done p s e))

  module _ (ne : number_to p s ≡ 0 → ⊥) where
    after_refused : page_after p (s ∷ ss) ≡ page_after p ss
    unfolding page_after
    after_refused = ap (λ (q : Page). page_after q ss) (page_stays p s ne)

    zero_refused : answered_zero p (s ∷ ss) ≡ answered_zero p ss
    unfolding answered_zero
    zero_refused = rw (ne_eqb (number_to p s) 0 ne) (ap (λ (q : Page). answered_zero q ss) (page_stays p s ne))

pub page_sums : (p : Page) (ss : List Capture) (k : ℕ) → k < figures_in_all
    → get_or (page_after p ss).sums k 0 ≡ get_or p.sums k 0 + sum_over (λ s. figure_at p s k) (answered_zero p ss)
unfolding page_after answered_zero sum_over
page_sums p [] k l = omega arith
page_sums p (s ∷ ss) k l =
    ⊎_elim
    (λ (e : number_to p s ≡ 0).
    let rest = page_sums (counted p s) ss k l in
    let f = sum_same (λ t. figure_at (counted p s) t k) (λ t. figure_at p t k) (λ t. figure_counted p s t k) (answered_zero (counted p s) ss) in
    let now = ap (λ (q : Page). get_or q.sums k 0) (after_done p s ss e) in
    let zero = ap (sum_over (λ t. figure_at p t k)) (zero_done p s ss e) in
    now ∙ rest ∙ omega (arith, f, zero, sum_next p s k l))
    (λ (ne : number_to p s ≡ 0 → ⊥).
    ap (λ (q : Page). get_or q.sums k 0) (after_refused p s ss ne) ∙ page_sums p ss k l
    ∙ ap (λ (x : List Capture). get_or p.sums k 0 + sum_over (λ t. figure_at p t k) x) (sym (zero_refused p s ss ne)))
    (same (number_to p s) 0)

-- and as many captures are counted
pub page_taken : (p : Page) (ss : List Capture) → (page_after p ss).taken ≡ p.taken + length (answered_zero p ss)
unfolding page_after answered_zero
page_taken p [] = omega arith
page_taken p (s ∷ ss) =
    ⊎_elim
    (λ (e : number_to p s ≡ 0).
    let now = ap (λ (q : Page). q.taken) (after_done p s ss e) in
    let zero = ap length (zero_done p s ss e) in
    now ∙ page_taken (counted p s) ss ∙ omega (arith, zero, taken_next p s))
    (λ (ne : number_to p s ≡ 0 → ⊥).
    ap (λ (q : Page). q.taken) (after_refused p s ss ne) ∙ page_taken p ss ∙ ap (λ (x : List Capture). p.taken + length x) (sym (zero_refused p s ss ne)))
    (same (number_to p s) 0)

pub after_rules : (p : Page) (ss : List Capture) → PageRules p → PageRules (page_after p ss)
unfolding page_after
after_rules p [] r = r
after_rules p (s ∷ ss) r = after_rules (next_of p s) ss (rules_kept p s r)

-- ---- another order

-- two captures the other way round
module _ (p : Page) (s t : Capture) (a : number_to p s ≡ 0) (b : number_to (next_of p s) t ≡ 0) where
  first : Given0 p s
  first = (given_0 p s).0 a

  second : Given0 (counted p s) t
  second = (given_0 (counted p s) t).0 (ap (λ (q : Page). number_to q t) (sym (next_done p s a)) ∙ b)

  -- after both every sum fits
  both_fit : (place figure : ℕ) → place < p.named → figure < 6
      → get_or p.sums (6 * place + figure) 0 + figure_of (get_or p.channels place 0) s figure + figure_of (get_or p.channels place 0) t figure ≤ highest
  unfolding counted
  both_fit i j h k =
      omega (arith, second.fits i j h k, sum_next p s (6 * i + j) (omega (arith, first.rules.named_few)), figure_named p s i j h k)

  room_two : p.taken + 1 < captures
  unfolding counted
  room_two = second.room

  other_first : number_to p t ≡ 0
  other_first = (given_0 p t).1 (record { rules = first.rules; room = first.room; fits = λ i j h k. omega (arith, both_fit i j h k) })

  other_given : Given0 (counted p t) s
  unfolding counted
  other_given =
      record {
        rules = rw (next_done p t other_first) at (rules_kept p t first.rules);
        room = room_two;
        fits = λ i j h k. omega (arith, both_fit i j h k, sum_next p t (6 * i + j) (omega (arith, first.rules.named_few)), figure_named p t i j h k);
      }

  other_second : number_to (next_of p t) s ≡ 0
  other_second = ap (λ (q : Page). number_to q s) (next_done p t other_first) ∙ (given_0 (counted p t) s).1 other_given

  sums_swap : (counted (counted p s) t).sums ≡ (counted (counted p t) s).sums
  unfolding counted figure_at
  sums_swap =
      tabled_same _ _ figures_in_all
      (λ k l.
      let x = get_d_tabled (λ i. get_or p.sums i 0 + figure_at p s i) figures_in_all k l in
      let y = get_d_tabled (λ i. get_or p.sums i 0 + figure_at p t i) figures_in_all k l in
      omega (arith, x, y))

  swapped : next_of (next_of p s) t ≡ next_of (next_of p t) s
  unfolding counted
  swapped =
      ap (λ (q : Page). next_of q t) (next_done p s a)
      ∙ next_done (counted p s) t ((given_0 (counted p s) t).1 second)
      ∙ ap (λ (x : List ℕ). record { channels = p.channels; named = p.named; taken = p.taken + 1 + 1; sums = x }) sums_swap
      ∙ sym (next_done (counted p t) s ((given_0 (counted p t) s).1 other_given))
      ∙ sym (ap (λ (q : Page). next_of q s) (next_done p t other_first))

pub record SamePage (p : Page) (a b : List Capture) : Type 0 where
  pub none_refused : Unrefused p b
  pub same_page : page_after p a ≡ page_after p b

head_of : {p : Page} {s : Capture} {ss : List Capture} → Unrefused p (s ∷ ss) → number_to p s ≡ 0
head_of (u_more e r) = e

tail_of : {p : Page} {s : Capture} {ss : List Capture} → Unrefused p (s ∷ ss) → Unrefused (next_of p s) ss
tail_of (u_more e r) = r

-- captures of which none is refused, taken in another order: none is refused there either, and the
-- page is the same
pub any_order : (p : Page) {a b : List Capture} → Reordered a b → Unrefused p a → SamePage p a b
unfolding page_after
any_order p r_none u = record { none_refused = u; same_page = refl }
any_order p (r_more {s} r) u =
    let rest = any_order (next_of p s) r (tail_of u) in
    record { none_refused = u_more (head_of u) rest.none_refused; same_page = rest.same_page }
any_order p (r_swap {s} {t} {a}) u =
    let x = head_of u in
    let y = head_of (tail_of u) in
    let e = swapped p s t x y in
    record {
      none_refused = u_more (other_first p s t x y) (u_more (other_second p s t x y) (rw e at (tail_of (tail_of u))));
      same_page = ap (λ (q : Page). page_after q a) e;
    }
any_order p (r_then r q) u =
    let x = any_order p r u in
    let y = any_order p q x.none_refused in
    record { none_refused = y.none_refused; same_page = x.same_page ∙ y.same_page }
