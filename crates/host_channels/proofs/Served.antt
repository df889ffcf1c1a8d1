-- The promise of the lent call, from what its two callees promise. Assumes nothing.
use mathlib.Core.Path.{◌≡◌, sym, ap, ◌∙◌}
use mathlib.Core.Bool.{true, ◌&&◌, not}
use Prim.Native.Nat.{ℕ}
use lib.Dec.{eqb}
use Rattle.channels.specs.Turn.{turned_of}
use Rattle.channels.specs.Answered.{answered_of}
use Rattle.channels.specs.Serves.{Serves, answered_by, stored_at, row_at}
use Rattle.channels.specs.declared.ChannelCall.{ChannelCall}
use Rattle.channels.specs.declared.ChannelTold.{ChannelTold}
use Rattle.channels.specs.declared.Channels.{Channels}
use Rattle.channels.specs.declared.Answered.{Answered}
use Rattle.channels.specs.declared.Turn.{Turn}
use Rattle.channels.proofs.Keeps.{served_keeps}

-- a number that is neither 0 nor 12
neither : (n : ℕ) → (not (eqb n 0) && not (eqb n 12)) ≡ true → (n ≡ 0 → ⊥) × (n ≡ 12 → ⊥)
neither n t =
    (λ e. let f = rw e at t in cc, λ e. let f = rw e at t in cc)

module _ (h : Channels) (k : ChannelCall) (n : Turn) (r : Answered) (e : n ≡ turned_of h.index h.names.channels k) (f : r ≡ answered_of (row_at h n.at) h.index n k) where
  serves : Serves h k r.told (stored_at h n.at r)
  serves =
      let g : r ≡ answered_by h k = f ∙ ap (λ (q : Turn). answered_of (row_at h q.at) h.index q k) e in
      record { told_is = ap (λ (t : Answered). t.told) g; table_is = λ i. stored_at h (e i).at (g i) }

  -- a refusal but 12, as the code tests it, leaves the table as it was
  pub stays : (not (eqb r.told.answer 0) && not (eqb r.told.answer 12)) ≡ true → Serves h k r.told h
  stays t =
      let number : (answered_by h k).told.answer ≡ r.told.answer = ap (λ (t : ChannelTold). t.answer) (sym serves.told_is) in
      record { told_is = serves.told_is; table_is = sym (served_keeps h k (λ z. (neither _ t).0 (sym number ∙ z)) (λ z. (neither _ t).1 (sym number ∙ z))) }
