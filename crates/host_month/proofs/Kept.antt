-- What a call on the words leaves: a refusal the words as they were, 0 those of the next page.
-- Assumes nothing.
use Prim.Native.Nat.{ℕ}
use mathlib.Core.Path.{◌≡◌, sym, ap, ◌∙◌}
use mathlib.Core.List.{List}
use borrow.Author.Tests.{eq-eqb, ne_eqb}
use Rattle.std.specs.Prelude.{Result, Ok, Err}
use Rattle.terms.specs.Refusals.{number_of, refusal_pos}
use Rattle.terms.specs.declared.Refusal.{Refusal}
use Rattle.terms.specs.Paper.{answer, one_number}
use Rattle.month_spec.specs.Calls.{start_number, start_page, number_to, answer_to, next_of}
use Rattle.month.specs.State.{page_in, month_of, figures_paper, added_paper}
use Rattle.month.specs.declared.Month.{Month}
use Rattle.month.specs.declared.Added.{Added}
use Rattle.host_words.specs.Told.{Tells, tells_done, tells_refused}
use Rattle.host_month.specs.Words.{words_of, page_words, start_words, words_after}

-- ---- the start

module _ (cs w : List ℕ) where
  pub start_kept : (start_number cs ≡ 0 → ⊥) → start_words cs w ≡ w
  unfolding start_words
  start_kept ne = rw (ne_eqb (start_number cs) 0 ne)

  pub start_done : (m : Month) (row : List ℕ) → start_number cs ≡ 0 → m ≡ month_of (start_page cs) → row ≡ words_of (page_in m) → row ≡ start_words cs w
  unfolding start_words start_page
  start_done m row z e f = rw (eq-eqb (start_number cs) 0 z) (f ∙ ap (λ (x : Month). words_of (page_in x)) (rw (eq-eqb (start_number cs) 0 z) at e))

-- ---- adding

module _ (w s : List ℕ) where
  pub add_kept : ((answer_to (page_words w) s).number ≡ 0 → ⊥) → words_after w s ≡ w
  unfolding words_after answer_to
  add_kept ne = rw (ne_eqb (number_to (page_words w) s) 0 ne)

  add_words : (answer_to (page_words w) s).number ≡ 0 → words_after w s ≡ words_of (next_of (page_words w) s)
  unfolding words_after answer_to
  add_words z = rw (eq-eqb (number_to (page_words w) s) 0 z)

  -- the call as the code makes it
  module _ (m : Month) (a : Added) (me : m ≡ month_of (page_words w)) (ae : added_paper a ≡ answer_to (page_in m) s) (pe : a.page ≡ month_of (next_of (page_in m) s)) where
    paper_is : added_paper a ≡ answer_to (page_words w) s
    paper_is = ae ∙ ap (λ (x : Month). answer_to (page_in x) s) me

    pub add_refused : (was : List ℕ) (why : Refusal) (n : ℕ) → a.answer ≡ Err why → n ≡ number_of why → Tells (answer_to (page_words w) s) was n was × (w ≡ words_after w s)
    add_refused was why n e q =
        let f : number_of why ≡ (answer_to (page_words w) s).number = ap (λ (r : Result (List ℕ) Refusal). (figures_paper r).number) (sym e) ∙ one_number paper_is in
        (tells_refused (answer_to (page_words w) s) was n (q ∙ f) (λ z. refusal_pos why (sym q ∙ z)), sym (add_kept (λ z. refusal_pos why (f ∙ z))))

    pub add_done : (was row figures : List ℕ) → a.answer ≡ Ok figures → row ≡ words_of (page_in a.page) → Tells (answer_to (page_words w) s) was 0 figures × (row ≡ words_after w s)
    add_done was row figures z e =
        let f : answer 0 figures ≡ answer_to (page_words w) s = ap figures_paper (sym z) ∙ paper_is in (
          tells_done (answer_to (page_words w) s) was figures f,
          e ∙ ap (λ (x : Month). words_of (page_in x)) pe ∙ ap (λ (x : Month). words_of (next_of (page_in x) s)) me ∙ sym (add_words (sym (one_number f))),
        )
