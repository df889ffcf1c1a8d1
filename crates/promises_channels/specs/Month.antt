-- Request 11, sentence by sentence: the month in whole numbers. `Ran m ss n`: captures fed to the
-- page m one after the other, refused ones among them, by whatever meets the promise of
-- Month::added; the page is n then. Figures are told from the calls of a capture alone
-- (`figures_of` of `month_spec`).
use Rattle.std.specs.Prelude.{ℕ, ◌+◌, ◌*◌, ◌≤◌, ◌<◌, ◌≡◌, refl, Bool, true, false, ◌↔◌, List, [], ◌∷◌, eqb, length, take, Ok}
use Rattle.std.proofs.Common.{sym, ap₂, ◌∙◌, ⊎_elim, arith, eq-eqb, ne_eqb}
use Rattle.std.proofs.Math.Path.{ap}
use Rattle.std.proofs.Math.ListN.{get_or}
use Rattle.terms.specs.Cases.{same}
use Rattle.terms.specs.Paper.{Paper, answer, one_number}
use Rattle.terms.specs.Verdicts.{verdict_number}
use Rattle.octets.specs.Overlays.{take_front}
use Rattle.clean_spec.specs.Clean.{clean_of, fits_in, clean_answer, clean_leaves}
use Rattle.clean.specs.declared.Cleaned.{Cleaned}
use Rattle.clean.specs.Papers.{clean_paper}
use Rattle.clean.proofs.clean.Reads as clean
use Rattle.clean.proofs.clean.Kinds as clean-kinds
use Rattle.month_spec.specs.Figures.{Figures, figures_of, figure_of}
use Rattle.month_spec.specs.Page.{Page, captures, places, figures_in_all, PageRules, tabled, page_of}
use Rattle.month_spec.specs.Calls.{start_number, start_page, figure_at, number_to, answer_to, next_of, figures_told}
use Rattle.month_spec.specs.Trace.{Capture, page_after, answered_zero, sum_over, Unrefused, Reordered}
use Rattle.month_spec.specs.Given.{Names, Given10, Given21, Given22, Given27, Given28}
use Rattle.month_spec.proofs.Lists.{get_d_tabled}
use Rattle.month_spec.proofs.Counted as Counted
use Rattle.month_spec.proofs.OneChannel as OneChannel
use Rattle.month_spec.proofs.OneChannel.{Walks}
use Rattle.month_spec.proofs.Given as Given
use Rattle.month_spec.proofs.Order as Order
use Rattle.month_spec.proofs.Order.{SamePage}
use Rattle.month_spec.proofs.Starts as Starts
use Rattle.month.specs.declared.Month.{Month}
use Rattle.month.specs.declared.Started.{Started}
use Rattle.month.specs.declared.Added.{Added}
use Rattle.month.specs.State.{page_in, month_of, figures_paper, added_paper}
use Rattle.month.proofs.OneAnswer as month
use Rattle.month.proofs.Month.started.Reads as started
use Rattle.month.proofs.Month.started.Kinds as started-kinds
use Rattle.month.proofs.Month.added.Reads as added
use Rattle.month.proofs.Month.added.Kinds as added-kinds
use Rattle.host_month.specs.Words.{words_of, page_words, start_words, words_after}
use Rattle.host_month.proofs.WordLaws.{words_back}
use Rattle.host_month.proofs.rk_month_start.Reads as rk-month-start
use Rattle.host_month.proofs.rk_month_start.Kinds as rk-month-start-kinds
use Rattle.host_month.proofs.rk_month_add.Reads as rk-month-add
use Rattle.host_month.proofs.rk_month_add.Kinds as rk-month-add-kinds
use Rattle.promises_words.specs.Words.{Promises}

-- ======== One capture

-- `Month::added` of a page m and a capture s answers x
pub record AddCall (m : Month) (s : List ℕ) (x : Added) : Type 0 where
  pub paper : added_paper x ≡ answer_to (page_in m) s
  pub page : x.page ≡ month_of (next_of (page_in m) s)

pub added_call : Promises _ added-kinds.ps added-kinds.r added.Post (λ κs a x s. AddCall a.0 a.1.0.now x)
added_call κs a x s p = record { paper = p.0; page = p.1 }

-- "for each of up to 32 channels named at the start, ticks received, repeated, refused as far,
-- still missing, and P002 frames of status 0 and of status 4": what a capture answered 0 is told,
-- for each named place and each of the six, is the figure counted from its calls
pub figures_counted : (m : Month) (s : List ℕ) (x : Added) → AddCall m s x → (figures : List ℕ) → x.answer ≡ Ok figures
    → (place figure : ℕ) → place < m.named → figure < 6 → get_or figures (6 * place + figure) 0 ≡ figure_of (get_or m.channels place 0) s figure
unfolding answer_to figures_told
figures_counted m s x c figures z place figure h k =
    let paper : answer 0 figures ≡ answer_to (page_in m) s = ap figures_paper (sym z) ∙ c.paper in
    let n : number_to (page_in m) s ≡ 0 = sym (one_number paper) in
    let r = ((Given.given_0 (page_in m) s).0 n).rules in
    let low : 6 * place + figure < figures_in_all = omega (arith, r.named_few) in
    ap (λ (p : Paper). get_or p.values (6 * place + figure) 0) paper
    ∙ rw (eq-eqb (number_to (page_in m) s) 0 n) (get_d_tabled (figure_at (page_in m) s) figures_in_all (6 * place + figure) low ∙ Given.figure_named (page_in m) s place figure h k)

-- ======== "Their figures equal those of the originals."

-- of the accepted frames in order, each scrubbed, stray bytes left out
pub scrubbed_same : (channel : ℕ) (s : List ℕ) → figures_of channel (clean_of s) ≡ figures_of channel s
scrubbed_same = Counted.scrubbed_same

-- and so of whatever `clean::clean` wrote: the bytes at the front of the buffer d
written : (s d : List ℕ) (x : Cleaned) → clean_paper (Ok x) ≡ clean_answer s (length d) → (e : List ℕ) → e ≡ clean_leaves s d → take x.bytes e ≡ clean_of s
unfolding clean_answer clean_leaves
written s d x p e q = by_room (fits_in s (length d)) refl
  where
    by_room : (b : Bool) → fits_in s (length d) ≡ b → take x.bytes e ≡ clean_of s
    by_room true f =
        let n : x.bytes ≡ length (clean_of s) = ap (λ (y : Paper). get_or y.values 0 0) (rw f at p) in
        ap (take x.bytes) (rw f at q) ∙ take_front x.bytes (clean_of s) d (sym n)
    by_room false f = absurd (omega (arith, one_number (rw f at p)))

pub cleaned_same : (channel : ℕ)
    → Promises _ clean-kinds.ps clean-kinds.r clean.Post (λ κs a x s. (c : Cleaned) → x ≡ Ok c → figures_of channel (take c.bytes s.1.0.now) ≡ figures_of channel a.0.now)
cleaned_same channel κs a x s p c e =
    ap (figures_of channel) (written a.0.now a.1.0.now c (ap clean_paper (sym e) ∙ p.0) s.1.0.now p.1) ∙ scrubbed_same channel a.0.now

-- ======== Rows of captures

pub data Ran : Month → List Capture → Month → Type 0 where
  r_start : {m : Month} → Ran m [] m
  r_more : {m n : Month} {s : Capture} {more : List Capture} {x : Added} → AddCall m s x → Ran x.page more n → Ran m (s ∷ more) n

pub ran_page : (m n : Month) (ss : List Capture) → Ran m ss n → n ≡ month_of (page_after (page_in m) ss)
unfolding page_after
ran_page m n [] r_start = refl
ran_page m n (s ∷ ss) (r_more {x = x} c r) = ran_page x.page n ss r ∙ ap (λ (k : Month). month_of (page_after (page_in k) ss)) c.page

-- a start answered 0: the page of these channels, with nothing taken
pub record StartCall (cs : List ℕ) (x : Started) : Type 0 where
  pub number : verdict_number x.answer ≡ start_number cs
  pub page : x.page ≡ month_of (start_page cs)

pub started_call : Promises _ started-kinds.ps started-kinds.r started.Post (λ κs a x s. StartCall a.0.now x)
started_call κs a x s p = record { number = p.0; page = p.1 }

-- the page after captures, from a start answered 0
pub record Page-is (cs : List ℕ) (ss : List Capture) (n : Month) : Type 0 where
  -- "then the sums over all captures": each sum is that of the figure over the captures answered 0,
  -- in whole numbers
  pub sums : (place figure : ℕ) → place < length cs → figure < 6
      → get_or n.sums (6 * place + figure) 0 ≡ sum_over (λ s. figure_of (get_or cs place 0) s figure) (answered_zero (start_page cs) ss)
  pub taken : n.taken ≡ length (answered_zero (start_page cs) ss)
  -- "up to 500 captures", and the page's other rules
  pub at_most_500 : n.taken ≤ captures
  pub rules : PageRules (page_in n)

sum_same : (f g : Capture → ℕ) → ((s : Capture) → f s ≡ g s) → (ss : List Capture) → sum_over f ss ≡ sum_over g ss
unfolding sum_over
sum_same f g h [] = refl
sum_same f g h (s ∷ ss) = ap₂ (λ (x y : ℕ). x + y) (h s) (sum_same f g h ss)

module _ (cs : List ℕ) (z : start_number cs ≡ 0) where
  names : Names cs
  names = Starts.started_names cs z

  page_of_lem : start_page cs ≡ page_of cs
  unfolding start_page
  page_of_lem = rw (eq-eqb (start_number cs) 0 z)

  named_is : (start_page cs).named ≡ length cs
  unfolding page_of
  named_is = ap (λ (p : Page). p.named) page_of_lem

  none_taken : (start_page cs).taken ≡ 0
  unfolding page_of
  none_taken = ap (λ (p : Page). p.taken) page_of_lem

  zero_sum : (k : ℕ) → k < figures_in_all → get_or (start_page cs).sums k 0 ≡ 0
  unfolding page_of
  zero_sum k l = ap (λ (p : Page). get_or p.sums k 0) page_of_lem ∙ get_d_tabled (λ i. 0) figures_in_all k l

  channel_is : (i : ℕ) → i < length cs → get_or (start_page cs).channels i 0 ≡ get_or cs i 0
  unfolding page_of
  channel_is i h = ap (λ (p : Page). get_or p.channels i 0) page_of_lem ∙ get_d_tabled (λ k. get_or cs k 0) places i (omega (arith, names.few))

  figure_is : (place figure : ℕ) → place < length cs → figure < 6 → (s : Capture) → figure_at (start_page cs) s (6 * place + figure) ≡ figure_of (get_or cs place 0) s figure
  figure_is place figure h k s =
      Given.figure_named (start_page cs) s place figure (omega (arith, named_is)) k ∙ ap (λ (c : ℕ). figure_of c s figure) (channel_is place h)

  pub page_sums : (x : Started) (ss : List Capture) (n : Month) → StartCall cs x → Ran x.page ss n → Page-is cs ss n
  page_sums x ss n c r =
      let is : n ≡ month_of (page_after (start_page cs) ss) = ran_page x.page n ss r ∙ ap (λ (m : Month). month_of (page_after (page_in m) ss)) c.page in
      let rules = Order.after_rules (start_page cs) ss (Starts.started_rules cs) in
      record {
        sums = λ place figure h k.
            let low : 6 * place + figure < figures_in_all = omega (arith, names.few) in
            ap (λ (m : Month). get_or m.sums (6 * place + figure) 0) is
            ∙ Order.page_sums (start_page cs) ss (6 * place + figure) low
            ∙ omega (arith, zero_sum (6 * place + figure) low)
            ∙ sum_same _ _ (figure_is place figure h k) (answered_zero (start_page cs) ss);
        taken = ap (λ (m : Month). m.taken) is ∙ Order.page_taken (start_page cs) ss ∙ omega (arith, none_taken);
        at_most_500 = rw is rules.taken_few;
        rules = rw is rules;
      }

-- ======== If no capture is refused, the sums do not depend on their order.
-- And then none is refused in the other order either.
pub any_order : (p : Page) {a b : List Capture} → Reordered a b → Unrefused p a → SamePage p a b
any_order = Order.any_order

pub any_order_ran : (m x y : Month) (a b : List Capture) → Reordered a b → Unrefused (page_in m) a → Ran m a x → Ran m b y → x ≡ y
any_order_ran m x y a b r u p q = ran_page m x a p ∙ ap month_of (Order.any_order (page_in m) r u).same_page ∙ sym (ran_page m y b q)

-- ======== Refusals, each exactly when

-- "at the start 10, 22 and 21 as in CR 3"
pub given_10 : (cs : List ℕ) → (start_number cs ≡ 10) ↔ Given10 cs
given_10 = Starts.given_10

pub given_22 : (cs : List ℕ) → (start_number cs ≡ 22) ↔ Given22 cs
given_22 = Starts.given_22

pub given_21 : (cs : List ℕ) → (start_number cs ≡ 21) ↔ Given21 cs
given_21 = Starts.given_21

-- "27 for a 501st capture, 28 for a sum that would pass 64 bits", and 13 before both
pub given_13 : (p : Page) (s : List ℕ) → (number_to p s ≡ 13) ↔ (PageRules p → ⊥)
given_13 = Given.given_13

pub given_27 : (p : Page) (s : List ℕ) → (number_to p s ≡ 27) ↔ Given27 p
given_27 = Given.given_27

pub given_28 : (p : Page) (s : List ℕ) → (number_to p s ≡ 28) ↔ Given28 p s
given_28 = Given.given_28

-- "the page so far stays": a refusal gives back the very page
pub page_stays : (m : Month) (s : List ℕ) (x : Added) → AddCall m s x → ((added_paper x).number ≡ 0 → ⊥) → x.page ≡ m
page_stays m s x c ne = month.added_refused_stays m s x c.paper c.page ne

-- ======== For C and Rust: the words are those of the page, after every row of calls

-- captures fed to the words of a page, refused ones among them, by whatever meets the promise of
-- rk_month_add
pub data HostRan : List ℕ → List Capture → List ℕ → Type 0 where
  h_start : {w : List ℕ} → HostRan w [] w
  h_more : {w v u : List ℕ} {s : Capture} {more : List Capture} → v ≡ words_after w s → HostRan v more u → HostRan w (s ∷ more) u

pub host_added : Promises _ rk-month-add-kinds.ps rk-month-add-kinds.r rk-month-add.Post (λ κs a x s. s.0.now ≡ words_after a.0.now a.1.0.now)
host_added κs a x s p = p.1

module _ (p : Page) (r : PageRules p) (s : Capture) where
  -- a call on a page's words is a call on the page
  host_next : words_after (words_of p) s ≡ words_of (next_of p s)
  unfolding words_after
  host_next =
      rw (words_back p r)
      (⊎_elim (λ (z : number_to p s ≡ 0). rw (eq-eqb (number_to p s) 0 z)) (λ (ne : number_to p s ≡ 0 → ⊥). rw (ne_eqb (number_to p s) 0 ne) (ap words_of (sym (Given.page_stays p s ne)))) (same (number_to p s) 0))

  -- and tells what the page's call answers
  pub host_told : answer_to (page_words (words_of p)) s ≡ answer_to p s
  host_told = ap (λ (q : Page). answer_to q s) (words_back p r)

pub host_page : (p : Page) → PageRules p → (ss : List Capture) (w v : List ℕ) → w ≡ words_of p → HostRan w ss v → v ≡ words_of (page_after p ss)
unfolding page_after
host_page p r [] w v e h_start = e
host_page p r (s ∷ ss) w v e (h_more {v = u} n h) =
    host_page (next_of p s) (Given.rules_kept p s r) ss u v (n ∙ ap (λ (x : List ℕ). words_after x s) e ∙ host_next p r s) h

-- the start's words are those of a page that keeps its rules
pub host_started : Promises _ rk-month-start-kinds.ps rk-month-start-kinds.r rk-month-start.Post
    (λ κs a x s. x ≡ 0 → (s.1.0.now ≡ words_of (start_page a.0.now)) × PageRules (start_page a.0.now))
unfolding start_words start_page
host_started κs a x s p z =
    let n : start_number a.0.now ≡ 0 = sym p.0 ∙ z in
    (p.1 ∙ rw (eq-eqb (start_number a.0.now) 0 n), Starts.started_rules a.0.now)

-- ======== Page and listing
-- For channel 100: received is how many numbers the walk's records bring, missing is the listing's.
pub one_channel : (s : List ℕ) → Walks s
one_channel = OneChannel.one_channel
