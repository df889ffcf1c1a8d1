-- One row: a fresh one, one frame more, and that a frame of another channel changes nothing.
-- Assumes nothing.
use Prim.Native.Nat.{ℕ, ◌+◌, ◌≤◌, ◌<◌}
use mathlib.Core.Path.{◌≡◌, refl, sym, ap, ◌∙◌}
use mathlib.Core.Bool.{Bool, false, ◌&&◌}
use mathlib.Core.List.{List, [], ◌∷◌, ◌++◌}
use native.Mathlib.Omega.{arith}
use lib.Dec.{eqb}
use lib.ListN.{length, length-append}
use borrow.Author.Tests.{eq-eqb, le-ltb}
use Rattle.std.specs.Prelude.{Result, Ok, Err}
use Rattle.std.specs.Result.{result_unwrap_or}
use Rattle.terms.specs.declared.Refusal.{Refusal}
use Rattle.ledger.specs.Papers.{count_paper}
use Rattle.terms.specs.Paper.{Paper}
use Rattle.rules.specs.Table.{kind_of}
use Rattle.ledger_spec.specs.State.{Book}
use Rattle.ledger_spec.specs.Calls.{open_of}
use Rattle.ledger_spec.specs.Trace.{Calls, none, after, trace}
use Rattle.ledger_spec.specs.Words.{one, value_at}
use Rattle.ledger_spec.proofs.Agree.{agrees}
use Rattle.ledger.specs.State.{book_of, ledger_of}
use Rattle.ledger.specs.declared.Ledger.{Ledger}
use Rattle.ledger.proofs.Seam.{book_of_lem}
use Rattle.reading.specs.declared.Seen.{Seen}
use Rattle.reading.specs.Seen.{seen_number}
use Rattle.walk_spec.specs.Offers.{calls_by, offer_of}
use Rattle.walk_spec.specs.Walk.{added}
use Rattle.walk_spec.specs.CallLaws.{is_tick, book_added}
use Rattle.clean_spec.specs.Figures.{calls_made}
use Rattle.month_spec.specs.Figures.{ticks_answered, is_resend, resends, resent}
use Rattle.month_spec.proofs.Steps.{made_more, ticks_more, resent_more, other_book, other_ticks, other_resends, one_few, resent_few}
use Rattle.month.specs.declared.Row.{Row}
use Rattle.month.specs.Rows.{row_after, Turned, Roomy}

-- ---- counts

-- the count beside an answer, 0 beside a refusal
pub missing_told : (a : Result ℕ Refusal) (p : Paper) → count_paper a ≡ p → result_unwrap_or a 0 ≡ value_at p 0
missing_told (Ok n) p e = ap (λ (q : Paper). value_at q 0) e
missing_told (Err w) p e = ap (λ (q : Paper). value_at q 0) e

-- ---- a fresh row

pub row_fresh : (channel : ℕ) (l : Ledger) → channel ≤ 9999 → l ≡ ledger_of (open_of channel)
    → ◌≡◌ {A = Row} (record { ledger = l; received = 0; repeated = 0; far = 0; asked = 0; unavailable = 0 }) (row_after channel [])
unfolding row_after calls_made trace ticks_answered resent open_of
row_fresh channel l h e = rw (e, le-ltb 9999 channel h)

-- ---- one frame more

pub turned_of : (row : Row) (x : Seen) (l : Ledger) (n : ℕ) (t r : Bool) (a b c d e : ℕ)
    → n ≡ (offer_of (book_of row.ledger) x).number → l ≡ ledger_of (offer_of (book_of row.ledger) x).book
    → t ≡ is_tick (kind_of x.msg_type) → r ≡ is_resend (kind_of x.msg_type)
    → a ≡ one (t && eqb n 0) → b ≡ one (t && eqb n 11) → c ≡ one (t && eqb n 12) → d ≡ one (r && eqb x.status 0) → e ≡ one (r && eqb x.status 4)
    → Turned row x (record { ledger = l; received = row.received + a; repeated = row.repeated + b; far = row.far + c; asked = row.asked + d; unavailable = row.unavailable + e })
turned_of row x l n t r a b c d e ne le te re ae be ce de ee =
    record { ledger = le; received = rw (ae, te, ne); repeated = rw (be, te, ne); far = rw (ce, te, ne); asked = rw (de, re); unavailable = rw (ee, re) }

module _ (channel : ℕ) (small : channel ≤ 9999) (xs : List Seen) (x : Seen) (z : seen_number x ≡ 0) where
  abbrev calls : Calls
  calls = calls_made none xs

  abbrev longer : List Seen
  longer = xs ++ (x ∷ [])

  -- the row, figure by figure
  row_same : (l m : Ledger) (a b c d e a' b' c' d' e' : ℕ) → l ≡ m → a ≡ a' → b ≡ b' → c ≡ c' → d ≡ d' → e ≡ e'
      → ◌≡◌ {A = Row} (record { ledger = l; received = a; repeated = b; far = c; asked = d; unavailable = e }) (record { ledger = m; received = a'; repeated = b'; far = c'; asked = d'; unavailable = e' })
  row_same l m a b c d e a' b' c' d' e' p q r s t u = cc

  more_ticks : (n : ℕ) → ticks_answered n (trace channel (calls_made none longer)) ≡ ticks_answered n (trace channel (added calls (calls_by x)))
  more_ticks n = ap (λ (k : Calls). ticks_answered n (trace channel k)) (made_more none xs x)

  more_ledger : ledger_of (after channel (calls_made none longer)) ≡ ledger_of (after channel (added calls (calls_by x)))
  more_ledger = ap (λ (k : Calls). ledger_of (after channel k)) (made_more none xs x)

  -- a frame of another channel changes nothing
  pub row_other : (x.channel.0 ≡ channel → ⊥) → row_after channel longer ≡ row_after channel xs
  unfolding row_after
  row_other ne =
      let t : (n : ℕ) → eqb 18 n ≡ false → ticks_answered n (trace channel (calls_made none longer)) ≡ ticks_answered n (trace channel calls) = λ n d. more_ticks n ∙ other_ticks channel small calls x z ne n d in
      let r : (status : ℕ) → resent channel status longer ≡ resent channel status xs = λ status. omega (arith, resent_more channel status xs x, ap one (other_resends channel small calls x ne status)) in
      row_same _ _ _ _ _ _ _ _ _ _ _ _ (more_ledger ∙ ap ledger_of (other_book channel small calls x z ne)) (t 0 refl) (t 11 refl) (t 12 refl) (r 0) (r 4)

  -- one of its own turns it
  module _ (own : x.channel.0 ≡ channel) (row r : Row) (is : row ≡ row_after channel xs) (turn : Turned row x r) where
    book_is : book_of row.ledger ≡ after channel calls
    unfolding row_after
    book_is = ap (λ (k : Row). book_of k.ledger) is ∙ book_of_lem (after channel calls) (agrees channel small calls).rules.places

    ledger_is : r.ledger ≡ ledger_of (after channel (calls_made none longer))
    unfolding offer_of
    ledger_is =
        turn.ledger ∙ ap (λ (b : Book). ledger_of (offer_of b x).book) book_is ∙ ap ledger_of (book_added channel calls (seen_number x) (calls_by x)) ∙ sym more_ledger

    ticks_are : (n was now : ℕ) → was ≡ ticks_answered n (trace channel calls) → now ≡ was + one (is_tick (kind_of x.msg_type) && eqb (offer_of (book_of row.ledger) x).number n)
        → now ≡ ticks_answered n (trace channel (calls_made none longer))
    ticks_are n was now e f =
        let g : now ≡ was + one (is_tick (kind_of x.msg_type) && eqb (offer_of (after channel calls) x).number n) = f ∙ ap (λ (b : Book). was + one (is_tick (kind_of x.msg_type) && eqb (offer_of b x).number n)) book_is in
        let h = ticks_more channel n calls x z in
        omega (arith, more_ticks n)

    resends_are : (status was now : ℕ) → was ≡ resent channel status xs → now ≡ was + one (is_resend (kind_of x.msg_type) && eqb x.status status) → now ≡ resent channel status longer
    resends_are status was now e f =
        let s : resends channel status x ≡ is_resend (kind_of x.msg_type) && eqb x.status status = rw (eq-eqb x.channel.0 channel own) in
        omega (arith, resent_more channel status xs x, ap one s)

    pub row_own : r ≡ row_after channel longer
    unfolding row_after
    row_own =
        row_same _ _ _ _ _ _ _ _ _ _ _ _ ledger_is
        (ticks_are 0 _ _ (ap (λ (k : Row). k.received) is) turn.received)
        (ticks_are 11 _ _ (ap (λ (k : Row). k.repeated) is) turn.repeated)
        (ticks_are 12 _ _ (ap (λ (k : Row). k.far) is) turn.far)
        (resends_are 0 _ _ (ap (λ (k : Row). k.asked) is) turn.asked)
        (resends_are 4 _ _ (ap (λ (k : Row). k.unavailable) is) turn.unavailable)

-- no tick count passes the number of frames
pub record Few (xs : List Seen) : Type 0 where
  pub ticks : (channel n : ℕ) → ticks_answered n (trace channel (calls_made none xs)) ≤ length xs

pub few_none : Few []
unfolding calls_made trace ticks_answered
few_none = record { ticks = λ channel n. omega arith }

pub few_more : (xs : List Seen) (x : Seen) → seen_number x ≡ 0 → Few xs → Few (xs ++ (x ∷ []))
few_more xs x z f =
    record {
      ticks = λ channel n.
          let e = ap (λ (k : Calls). ticks_answered n (trace channel k)) (made_more none xs x) in
          let g = ticks_more channel n (calls_made none xs) x z in
          omega (arith, f.ticks channel n, length-append xs (x ∷ []), one_few (is_tick (kind_of x.msg_type) && eqb (offer_of (after channel (calls_made none xs)) x).number n));
    }

pub roomy_row : (channel : ℕ) (xs : List Seen) (row : Row) → Few xs → length xs < 18446744073709551615 → row ≡ row_after channel xs → Roomy row
unfolding row_after
roomy_row channel xs row f l e =
    rw e
    (record {
      received = omega (arith, f.ticks channel 0);
      repeated = omega (arith, f.ticks channel 11);
      far = omega (arith, f.ticks channel 12);
      asked = omega (arith, resent_few channel 0 xs);
      unavailable = omega (arith, resent_few channel 4 xs);
    })
