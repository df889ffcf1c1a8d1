-- The words of a page: laid number by number, and read back. Assumes nothing.
use Prim.Native.Nat.{ℕ, zero, suc, ◌+◌, ◌-◌, ◌≤◌, ◌<◌, min}
use mathlib.Core.Path.{◌≡◌, refl, sym, ap, ◌∙◌}
use mathlib.Core.Logic.{⊎_elim}
use mathlib.Core.List.{List}
use native.Mathlib.Omega.{arith}
use lib.Dec.{eqb, ltb}
use lib.ListN.{length, get_or, set, length-set}
use lib.Seq.{ext_get_or, get_or-set_same, get_or-set_other}
use borrow.Author.Tests.{eq-eqb, ne_eqb, lt-ltb, le-ltb}
use Rattle.terms.specs.Cases.{less, same}
use Rattle.terms.specs.Paper.{pick}
use Rattle.month_spec.specs.Page.{Page, places, figures_in_all, tabled, PageRules}
use Rattle.month_spec.proofs.Lists.{length_tabled, get_d_tabled, is_tabled}
use Rattle.month.proofs.Fill.{Filled}
use Rattle.host_month.specs.Words.{word_at, words_of, channels_in, sums_in, page_words, Fronted, Laid}

-- ---- laying

pub fronted_of : (channels row : List ℕ) (k : ℕ) → Filled (λ i. get_or channels i 0) 226 k row → 32 ≤ k → Fronted channels row
fronted_of channels row k f h = record { long = f.size; channel = λ i l. f.done i (omega arith) }

pub record Laying (front sums : List ℕ) (k : ℕ) (row : List ℕ) : Type 0 where
  pub long : length row ≡ 226
  pub before : (i : ℕ) → i < 34 → get_or row i 0 ≡ get_or front i 0
  pub sum : (j : ℕ) → j < k → get_or row (34 + j) 0 ≡ get_or sums j 0

module _ (front sums : List ℕ) where
  pub laying_start : length front ≡ 226 → Laying front sums 0 front
  laying_start e = record { long = e; before = λ i h. refl; sum = λ j h. absurd (omega arith) }

  pub laying_step : (k : ℕ) (row : List ℕ) → Laying front sums k row → k < 192 → Laying front sums (k + 1) (set row (34 + k) (get_or sums k 0))
  laying_step k row w h =
      record {
        long = length-set row (34 + k) (get_or sums k 0) ∙ w.long;
        before = λ i l. get_or-set_other row (34 + k) i (get_or sums k 0) 0 (λ (q : i ≡ 34 + k). omega arith) ∙ w.before i l;
        sum = λ j l.
            ⊎_elim (λ (g : j < k). get_or-set_other row (34 + k) (34 + j) (get_or sums k 0) 0 (λ (q : 34 + j ≡ 34 + k). omega arith) ∙ w.sum j g)
            (λ (g : k ≤ j).
            let q : j ≡ k = omega arith in
            ap (λ (x : ℕ). get_or (set row (34 + k) (get_or sums k 0)) (34 + x) 0) q ∙ get_or-set_same row (34 + k) (get_or sums k 0) 0 (omega (arith, w.long)) ∙ ap (λ (x : ℕ). get_or sums x 0) (sym q))
            (less j k);
      }

  pub laying_end : (k : ℕ) (row : List ℕ) → Laying front sums k row → 192 ≤ k → Laid front sums row
  laying_end k row w h = record { long = w.long; before = w.before; sum = λ j l. w.sum j (omega arith) }

-- the channels, the sums, and the two counts between them
module _ (p : Page) (front row : List ℕ) (f : Fronted p.channels front) (l : Laid front p.sums row) where
  abbrev one : List ℕ
  one = set row 32 p.named

  abbrev both : List ℕ
  both = set one 33 p.taken

  other : (i : ℕ) → (i ≡ 32 → ⊥) → (i ≡ 33 → ⊥) → get_or both i 0 ≡ get_or row i 0
  other i a b = get_or-set_other one 33 i p.taken 0 b ∙ get_or-set_other row 32 i p.named 0 a

  words_long : length both ≡ 226
  words_long = length-set one 33 p.taken ∙ length-set row 32 p.named ∙ l.long

  named_at : get_or both 32 0 ≡ p.named
  named_at = get_or-set_other one 33 32 p.taken 0 (λ q. omega arith) ∙ get_or-set_same row 32 p.named 0 (omega (arith, l.long))

  taken_at : get_or both 33 0 ≡ p.taken
  taken_at = get_or-set_same one 33 p.taken 0 (omega (arith, length-set row 32 p.named, l.long))

  at_channel : (i : ℕ) → i < 32 → get_or both i 0 ≡ word_at p i
  at_channel i h = rw (lt-ltb i 32 h) (other i (λ q. omega arith) (λ q. omega arith) ∙ l.before i (omega arith) ∙ f.channel i h)

  at_sum : (i : ℕ) → 34 ≤ i → i < 226 → get_or both i 0 ≡ word_at p i
  at_sum i h k =
      let e : 34 + (i - 34) ≡ i = omega arith in
      rw (le-ltb i 32 (omega arith), ne_eqb i 32 (λ q. omega arith), ne_eqb i 33 (λ q. omega arith))
      (other i (λ q. omega arith) (λ q. omega arith) ∙ ap (λ (x : ℕ). get_or row x 0) (sym e) ∙ l.sum (i - 34) (omega arith))

  at_32 : (i : ℕ) → i ≡ 32 → get_or both i 0 ≡ word_at p i
  at_32 i e = rw e named_at

  at_33 : (i : ℕ) → i ≡ 33 → get_or both i 0 ≡ word_at p i
  at_33 i e = rw e taken_at

  pub words_are : both ≡ words_of p
  unfolding words_of
  words_are =
      is_tabled (word_at p) 226 both words_long
      (λ i h.
      ⊎_elim (λ (a : i < 32). at_channel i a)
      (λ (a : 32 ≤ i).
      ⊎_elim (λ (b : i < 34). ⊎_elim (λ (q : i ≡ 32). at_32 i q) (λ (q : i ≡ 32 → ⊥). at_33 i (thirty_three i a b q)) (same i 32)) (λ (b : 34 ≤ i). at_sum i b h) (less i 34))
      (less i 32))
    where
      thirty_three : (i : ℕ) → 32 ≤ i → i < 34 → (i ≡ 32 → ⊥) → i ≡ 33
      thirty_three i a b ne = ⊎_elim (λ (c : i < 33). absurd (ne (omega arith))) (λ (c : 33 ≤ i). omega arith) (less i 33)

-- ---- read back: the words of a page that keeps its rules stand for that page
module _ (p : Page) (r : PageRules p) where
  word_is : (i : ℕ) → i < 226 → get_or (words_of p) i 0 ≡ word_at p i
  unfolding words_of
  word_is i h = get_d_tabled (word_at p) 226 i h

  small : (i : ℕ) → i < places → get_or p.channels i 0 ≤ 65535
  small i h = ⊎_elim (λ (l : i < p.named). omega (arith, r.small i l)) (λ (g : p.named ≤ i). omega (arith, r.no_name i g h)) (less i p.named)

  channel_back : (i : ℕ) → i < places → min (get_or (words_of p) i 0) 65535 ≡ get_or p.channels i 0
  channel_back i h =
      let e : get_or (words_of p) i 0 ≡ get_or p.channels i 0 = word_is i (omega arith) ∙ rw (lt-ltb i 32 h) in
      omega (arith, small i h)

  sum_back : (k : ℕ) → k < figures_in_all → get_or (words_of p) (34 + k) 0 ≡ get_or p.sums k 0
  sum_back k h =
      let e : 34 + k - 34 ≡ k = omega arith in
      word_is (34 + k) (omega arith)
      ∙ rw (le-ltb (34 + k) 32 (omega arith), ne_eqb (34 + k) 32 (λ q. omega arith), ne_eqb (34 + k) 33 (λ q. omega arith), e)

  channels_back : channels_in (words_of p) ≡ p.channels
  unfolding channels_in
  channels_back = sym (is_tabled (λ i. min (get_or (words_of p) i 0) 65535) places p.channels r.channel_places (λ i h. sym (channel_back i h)))

  sums_back : sums_in (words_of p) ≡ p.sums
  unfolding sums_in
  sums_back = sym (is_tabled (λ k. get_or (words_of p) (34 + k) 0) figures_in_all p.sums r.sum_places (λ k h. sym (sum_back k h)))

  pub words_back : page_words (words_of p) ≡ p
  unfolding page_words
  words_back = rw (channels_back, sums_back, word_is 32 (omega arith), word_is 33 (omega arith))
