-- Every row of calls on the empty table, by whatever meets their promise, is that row in
-- `channels_spec`: the caller has seen its history, and finds its table. Assumes nothing.
use mathlib.Core.Path.{◌≡◌, refl, sym, ap, ap₂, subst, ◌∙◌}
use mathlib.Core.Bool.{false}
use Prim.Native.Nat.{ℕ, zero, suc, ◌<◌}
use native.Mathlib.Nat.{le_of_suc-le-suc, not-suc-le-zero}
use native.Mathlib.Omega.{arith}
use lib.Dec.{eqb}
use lib.ListN.{get_or, replicate, length-replicate}
use lib.Pow.{pow_pos}
use Rattle.terms.specs.Paper.{Paper}
use Rattle.tick_map.specs.Bits.{is_set}
use Rattle.tick_map.proofs.Digits.{bit_above}
use Rattle.channels_spec.specs.Table.{Table, empty, waits, pending_place}
use Rattle.channels_spec.specs.Calls.{answer_to, next_of}
use Rattle.channels_spec.specs.Trace.{Calls, none, ◌▸◌, after, History, ◌▸◌⇒◌, trace}
use Rattle.channels_spec.proofs.Least.{least_all}
use Rattle.channels_spec.proofs.Rules.{empty_rules}
use Rattle.channels.specs.declared.ChannelCall.{ChannelCall}
use Rattle.channels.specs.declared.ChannelTold.{ChannelTold}
use Rattle.channels.specs.declared.Channels.{Channels}
use Rattle.channels.specs.declared.Row.{Row}
use Rattle.channels.specs.Answered.{blank}
use Rattle.channels.specs.Serves.{no_row, empty_channels, Serves}
use Rattle.channels_seam.specs.Kept.{Kept, call_of, seen, LentRan, opening, one_more}
use Rattle.channels_seam.proofs.Step.{call_done}

none_set : (i : ℕ) → is_set 0 i ≡ false
none_set i = ap (λ (d : ℕ). eqb d 1) (bit_above 0 i (pow_pos 0) (omega arith))

-- a row of equal things
all_same : {X : Type 0} (v d : X) (n i : ℕ) → i < n → get_or (replicate n v) i d ≡ v
all_same v d zero i l = absurd (not-suc-le-zero l)
all_same v d (suc n) zero l = refl
all_same v d (suc n) (suc i) l = all_same v d n i (le_of_suc-le-suc l)

pub empty_kept : Kept empty_channels empty
unfolding pending_place
empty_kept =
    record {
      rules = empty_rules;
      rows_33 = length-replicate {A = Row} 33 blank;
      names_33 = length-replicate {A = ℕ} 33 0;
      used_low = pow_pos 32;
      lacking_low = pow_pos 32;
      last_is = refl;
      asked_is = sym (least_all (λ i. waits (empty.place i)) 32 (λ j l. refl));
      each = λ i l. record { unused = none_set i; whole = none_set i; name_is = all_same 0 0 33 i (omega arith); row_is = all_same blank no_row 33 i (omega arith) };
    }

-- whatever meets the promise of the lent call is the call: what is seen, and the table that is
-- found
pub lent_call : (was is : Channels) (t : Table) (call : ChannelCall) (told : ChannelTold) → Kept was t → Serves was call told is
    → (seen (call_of call) told ≡ answer_to t (call_of call)) × Kept is (next_of t (call_of call))
lent_call was is t call told k s =
    let d = call_done was t k call in
    (ap (seen (call_of call)) s.told_is ∙ d.seen_is, subst (λ (c : Channels). Kept c (next_of t (call_of call))) (sym s.table_is) d.kept)

pub record Ran (h : History) (x : Channels) : Type 0 where
  pub calls : Calls
  pub is : h ≡ trace calls
  pub kept : Kept x (after calls)

pub ran_more : {h : History} {was is : Channels} {told : ChannelTold} (call : ChannelCall) → Ran h was → Serves was call told is → Ran (h ▸ call_of call ⇒ seen (call_of call) told) is
unfolding trace
ran_more {h} {was} {is} {told} call r s =
    let d = lent_call was is (after r.calls) call told r.kept s in
    record { calls = r.calls ▸ call_of call; is = ap₂ (λ (g : History) (p : Paper). g ▸ call_of call ⇒ p) r.is d.0; kept = d.1 }

pub ran : {h : History} {x : Channels} → LentRan h x → Ran h x
unfolding trace
ran opening = record { calls = none; is = refl; kept = empty_kept }
ran (one_more call before s) = ran_more call (ran before) s

-- so what holds of every row of calls holds of what the caller has seen
pub with_ran : {h : History} {x : Channels} (P : History → Type 0) → LentRan h x → ((calls : Calls) → Kept x (after calls) → P (trace calls)) → P h
with_ran P r f = let q = ran r in subst P (sym q.is) (f q.calls q.kept)
