-- A refusal other than 12 leaves index, row and name as they were, and so the lent table byte for
-- byte. Assumes nothing.
use mathlib.Core.Path.{◌≡◌, refl, ap, ◌∙◌}
use mathlib.Core.Bool.{◌&&◌, not}
use mathlib.Core.List.{List, [], ◌∷◌}
use Prim.Native.Nat.{ℕ, zero, suc}
use lib.Dec.{eqb, leb, ltb}
use lib.ListN.{get_or, set}
use borrow.Author.Tests.{eqb-true, ne_eqb}
use Rattle.ledger_spec.specs.State.{sound_of}
use Rattle.ledger_spec.proofs.Tests.{pick_cases}
use Rattle.ledger.specs.declared.Ledger.{Ledger}
use Rattle.host_words.specs.Words.{book_in}
use Rattle.channels.specs.declared.Index.{Index}
use Rattle.channels.specs.declared.Row.{Row}
use Rattle.channels.specs.declared.Turn.{Turn}
use Rattle.channels.specs.declared.Channels.{Channels}
use Rattle.channels.specs.declared.ChannelCall.{ChannelCall}
use Rattle.channels.specs.declared.ChannelTold.{ChannelTold}
use Rattle.channels.specs.declared.Answered.{Answered}
use Rattle.channels.specs.Index.{open_at, index_sound}
use Rattle.channels.specs.Answered.{row_fits, kept_of, refused_of, left_of, moved_of, taken_of, opened_of, closed_of, telling_of, served_of, answered_of}
use Rattle.channels.specs.Serves.{no_row, turn_by, answered_by, stored_at, served_by}

-- what stands at a place, put there again
pub set_same : {X : Type 0} (xs : List X) (i : ℕ) (d : X) → set xs i (get_or xs i d) ≡ xs
set_same [] i d = refl
set_same (x ∷ xs) zero d = refl
set_same (x ∷ xs) (suc i) d = ap (λ (l : List _). x ∷ l) (set_same xs i d)

-- where the number is neither 0 nor 12, all is as it was
record Unmoved (r : Row) (x : Index) (n : Turn) (a : Answered) : Type 0 where
  kept : (a.told.answer ≡ 0 → ⊥) → (a.told.answer ≡ 12 → ⊥) → a ≡ kept_of r x n a.told

module _ (r : Row) (x : Index) (n : Turn) where
  same : (t : ChannelTold) → Unmoved r x n (kept_of r x n t)
  same t = record { kept = λ z f. refl }

  refused : (number : ℕ) → Unmoved r x n (refused_of r x n number)
  refused number = record { kept = λ z f. refl }

  done : (a : Answered) → a.told.answer ≡ 0 → Unmoved r x n a
  done a e = record { kept = λ z f. absurd (z e) }

  left : (next : Ledger) (t : ChannelTold) → Unmoved r x n (left_of r x n next t)
  unfolding left_of
  left next t =
      pick_cases (Unmoved r x n) (eqb t.answer 0) _ _ (λ e. done _ (eqb-true t.answer 0 e))
      (λ _. pick_cases (Unmoved r x n) (eqb t.answer 12) _ _ (λ e. record { kept = λ z f. absurd (f (eqb-true t.answer 12 e)) }) (λ _. same t))

  moved : (a : Answered) (at : ℕ) → Unmoved r x n a → Unmoved r x n (moved_of a at)
  moved a at u = record { kept = λ z f. ap (λ (y : Answered). moved_of y at) (u.kept z f) ∙ rw (ne_eqb a.told.answer 0 z) }

  taken : (channel : ℕ) → Unmoved r x n (taken_of r x n channel)
  unfolding taken_of
  taken channel =
      pick_cases (Unmoved r x n) (not (row_fits (book_in r.words) x n && sound_of (book_in r.words))) _ _ (λ _. refused 13)
      (λ _. pick_cases (Unmoved r x n) (ltb 9999 channel) _ _ (λ _. refused 10) (λ _. refused 22))

  opened : (channel : ℕ) → Unmoved r x n (opened_of r x n channel)
  unfolding opened_of
  opened channel =
      pick_cases (Unmoved r x n) (open_at x.used n.at) _ _ (λ _. taken channel)
      (λ _. pick_cases (Unmoved r x n) (ltb 9999 channel) _ _ (λ _. refused 10)
      (λ _. pick_cases (Unmoved r x n) (leb 32 n.at) _ _ (λ _. refused 21) (λ _. done _ refl)))

  closed : Unmoved r x n (closed_of r x n)
  unfolding closed_of
  closed = pick_cases (Unmoved r x n) (not (sound_of (book_in r.words))) _ _ (λ _. refused 13) (λ _. done _ refl)

  telling : Unmoved r x n (telling_of r x n)
  unfolding telling_of
  telling = pick_cases (Unmoved r x n) (not (sound_of (book_in r.words))) _ _ (λ _. refused 13) (λ _. same _)

  served : (call : ChannelCall) → Unmoved r x n (served_of r x n call)
  unfolding served_of
  served call =
      pick_cases (Unmoved r x n) (eqb call.code 1) _ _ (λ _. closed)
      (λ _. pick_cases (Unmoved r x n) (eqb call.code 2) _ _ (λ _. left _ _)
      (λ _. pick_cases (Unmoved r x n) (eqb call.code 3) _ _ (λ _. left _ _)
      (λ _. pick_cases (Unmoved r x n) (eqb call.code 4) _ _ (λ _. moved _ _ (left _ _))
      (λ _. pick_cases (Unmoved r x n) (eqb call.code 5) _ _ (λ _. left _ _)
      (λ _. pick_cases (Unmoved r x n) (eqb call.code 6) _ _ (λ _. left _ _)
      (λ _. pick_cases (Unmoved r x n) (eqb call.code 7) _ _ (λ _. left _ _) (λ _. telling)))))))

  answered : (call : ChannelCall) → Unmoved r x n (answered_of r x n call)
  unfolding answered_of
  answered call =
      pick_cases (Unmoved r x n) (not (index_sound x && n.once)) _ _ (λ _. refused 13)
      (λ _. pick_cases (Unmoved r x n) (eqb call.code 0) _ _ (λ _. opened call.channel)
      (λ _. pick_cases (Unmoved r x n) (leb 32 n.at) _ _ (λ _. refused _)
      (λ _. pick_cases (Unmoved r x n) (not (row_fits (book_in r.words) x n)) _ _ (λ _. refused 13) (λ _. served call))))

  pub answered_keeps : (call : ChannelCall) → ((answered_of r x n call).told.answer ≡ 0 → ⊥) → ((answered_of r x n call).told.answer ≡ 12 → ⊥)
      → answered_of r x n call ≡ kept_of r x n (answered_of r x n call).told
  answered_keeps call = (answered call).kept

-- the lent table
pub served_keeps : (t : Channels) (call : ChannelCall) → ((answered_by t call).told.answer ≡ 0 → ⊥) → ((answered_by t call).told.answer ≡ 12 → ⊥) → served_by t call ≡ t
served_keeps t call z f =
    ap (stored_at t (turn_by t call)) (answered_keeps _ _ _ call z f)
    ∙ (λ i. record {
      names = record { channels = set_same t.names.channels (turn_by t call) 0 i };
      index = t.index;
      rows = set_same t.rows (turn_by t call) no_row i;
    })
