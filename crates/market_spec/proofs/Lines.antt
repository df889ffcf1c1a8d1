-- Laws of a line: by the test that decides it, and how far it goes.
use Rattle.std.specs.Prelude.{ℕ, ◌+◌, ◌<◌, ◌≤◌, ◌≡◌, true, false, List, ◌∷◌, length, get_or, take, drop}
use Rattle.std.proofs.Common.{sym, ap, ◌∙◌}
use borrow.Author.Tests.{le-leb, lt-leb, lt-ltb, le-ltb, eq-eqb, ne_eqb}
use Rattle.market_columns.specs.Columns.{Column, row_of, columns, wide, column_ok, ok_at}
use Rattle.market_columns.specs.ColumnLaws.{ok_there}
use Rattle.market_spec.specs.File.{fault, end_of, line_fault}
use Rattle.market_spec.specs.Lines.{columns_next}

-- BY THE TEST THAT DECIDES

module _ (n : ℕ) (c : Column) (cs : List Column) (at : ℕ) (s : List ℕ) where
  pub line_cut : length s < at + wide c → line_fault n (c ∷ cs) at s ≡ fault 40 (length s)
  unfolding line_fault
  line_cut h = rw (lt-ltb (length s) (at + wide c) h)

  module _ (h : at + wide c ≤ length s) where
    pub line_wrong : column_ok c (take (wide c) (drop at s)) ≡ false → line_fault n (c ∷ cs) at s ≡ fault n at
    unfolding line_fault
    line_wrong e = rw (le-ltb (length s) (at + wide c) h, e)

    module _ (e : column_ok c (take (wide c) (drop at s)) ≡ true) where
      pub line_ends : length s ≤ at + wide c → line_fault n (c ∷ cs) at s ≡ fault 40 (length s)
      unfolding line_fault
      line_ends k = rw (le-ltb (length s) (at + wide c) h, e, le-leb (length s) (at + wide c) k)

      pub line_bar : at + wide c < length s → (get_or s (at + wide c) 0 ≡ end_of cs → ⊥) → line_fault n (c ∷ cs) at s ≡ fault n (at + wide c)
      unfolding line_fault
      line_bar k b = rw (le-ltb (length s) (at + wide c) h, e, lt-leb (length s) (at + wide c) k, ne_eqb (get_or s (at + wide c) 0) (end_of cs) b)

      pub line_on : at + wide c < length s → get_or s (at + wide c) 0 ≡ end_of cs → line_fault n (c ∷ cs) at s ≡ line_fault n cs (at + wide c + 1) s
      unfolding line_fault
      line_on k b = rw (le-ltb (length s) (at + wide c) h, e, lt-leb (length s) (at + wide c) k, eq-eqb (get_or s (at + wide c) 0) (end_of cs) b)

-- ONE TURN OF THE LOOP: the column of row i, of w bytes, from the place p on

module _ (n i e p w : ℕ) (s : List ℕ) (h : i < e) (k : e ≤ 58) (l : w ≡ wide (row_of i)) where
  opened : line_fault n (columns i e) p s ≡ line_fault n (row_of i ∷ columns (i + 1) e) p s
  opened = ap (λ (cs : List Column). line_fault n cs p s) (columns_next i e h k)

  okay : p + w ≤ length s → ok_at i p s ≡ column_ok (row_of i) (take (wide (row_of i)) (drop p s))
  okay r = ok_there i p s (le-leb (p + wide (row_of i)) (length s) (rw l at r))

  pub turn_cut : length s < p + w → line_fault n (columns i e) p s ≡ fault 40 (length s)
  turn_cut r = opened ∙ line_cut n (row_of i) (columns (i + 1) e) p s (rw l at r)

  module _ (r : p + w ≤ length s) where
    pub turn_wrong : ok_at i p s ≡ false → line_fault n (columns i e) p s ≡ fault n p
    turn_wrong o = opened ∙ line_wrong n (row_of i) (columns (i + 1) e) p s (rw l at r) (sym (okay r) ∙ o)

    module _ (o : ok_at i p s ≡ true) where
      pub turn_ends : length s ≤ p + w → line_fault n (columns i e) p s ≡ fault 40 (length s)
      turn_ends m = opened ∙ line_ends n (row_of i) (columns (i + 1) e) p s (rw l at r) (sym (okay r) ∙ o) (rw l at m)

      pub turn_bar : p + w < length s → (get_or s (p + w) 0 ≡ end_of (columns (i + 1) e) → ⊥) → line_fault n (columns i e) p s ≡ fault n (p + w)
      turn_bar m b = opened ∙ line_bar n (row_of i) (columns (i + 1) e) p s (rw l at r) (sym (okay r) ∙ o) (rw l at m) (λ q. b (rw l q)) ∙ ap (λ (x : ℕ). fault n (p + x)) (sym l)

      pub turn_on : p + w < length s → get_or s (p + w) 0 ≡ end_of (columns (i + 1) e) → line_fault n (columns i e) p s ≡ line_fault n (columns (i + 1) e) (p + w + 1) s
      turn_on m b = opened ∙ line_on n (row_of i) (columns (i + 1) e) p s (rw l at r) (sym (okay r) ∙ o) (rw l at m) (rw l at b) ∙ ap (λ (x : ℕ). line_fault n (columns (i + 1) e) (p + x + 1) s) (sym l)
