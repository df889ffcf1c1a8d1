-- One place changed, in the table and as it is kept. Assumes nothing.
use mathlib.Core.Path.{◌≡◌, sym, ap, subst, ◌∙◌}
use mathlib.Core.Bool.{Bool, true, false}
use mathlib.Core.Logic.{⊎_elim}
use Prim.Native.Nat.{ℕ, ◌^◌, ◌≤◌, ◌<◌}
use native.Mathlib.Omega.{arith}
use borrow.Author.Tests.{eq-eqb, ne_eqb}
use lib.Dec.{eqb}
use lib.ListN.{get_or, set, length-set}
use lib.Seq.{get_or-set_same, get_or-set_other}
use Rattle.terms.specs.Cases.{two, same}
use Rattle.terms.specs.Paper.{pick}
use Rattle.tick_map.specs.Bits.{is_set}
use Rattle.ledger_spec.proofs.Tests.{false_of}
use Rattle.channels_spec.specs.Table.{Place, free, holds, Table, put, least, waits, pending_place, TableRules}
use Rattle.channels_spec.proofs.Least.{least_ext, least_low, least_is, least_all}
use Rattle.channels_spec.proofs.Places.{put_here, put_else}
use Rattle.channels.specs.declared.Channels.{Channels}
use Rattle.channels.specs.declared.Index.{Index}
use Rattle.channels.specs.declared.Row.{Row}
use Rattle.channels.specs.Serves.{row_at, no_row}
use Rattle.channels_seam.specs.Kept.{PlaceAt, Kept}

-- ---- what is pending

-- what waits, waits at the one place
pub waits_one : (t : Table) → TableRules t → (i : ℕ) → i < 32 → waits (t.place i) ≡ true → pending_place t ≡ i
unfolding pending_place
waits_one t r i l y =
    let m : pending_place t ≤ i = least_low (λ j. waits (t.place j)) 32 i l y in
    let f = least_is (λ j. waits (t.place j)) 32 (omega arith) in
    r.one_waits _ i f.is_so y

pub waits_at : (t : Table) → pending_place t < 32 → waits (t.place (pending_place t)) ≡ true
unfolding pending_place
waits_at t l = (least_is (λ j. waits (t.place j)) 32 l).is_so

pub pending_put : (t : Table) (at : ℕ) (p : Place) → TableRules t → TableRules (put t at p) → at < 32
    → pick (waits p) at (pick (eqb (pending_place t) at) 32 (pending_place t)) ≡ pending_place (put t at p)
unfolding pending_place
pending_put t at p r r' l = ⊎_elim (λ y. rw y (sym (waits_one (put t at p) r' at l (ap waits (put_here t at p) ∙ y)))) (λ n. rw n (quiet n)) (two (waits p))
  where
    here : {j : ℕ} → j ≡ at → (put t at p).place j ≡ p
    here e = ap (put t at p).place e ∙ put_here t at p

    quiet : waits p ≡ false → pick (eqb (pending_place t) at) 32 (pending_place t) ≡ pending_place (put t at p)
    quiet n = ⊎_elim (λ e. ap (λ (u : Bool). pick u 32 (pending_place t)) (eq-eqb _ _ e) ∙ gone e) (λ e. ap (λ (u : Bool). pick u 32 (pending_place t)) (ne_eqb _ _ e) ∙ stays e) (same (pending_place t) at)
      where
        gone : pending_place t ≡ at → 32 ≡ least (λ j. waits ((put t at p).place j)) 32
        gone e = sym (least_all _ 32 (λ j g. ⊎_elim (λ z. ap waits (here z) ∙ n) (λ z. ap waits (put_else t at j p z) ∙ false_of _ (λ y. z (sym (waits_one t r j g y) ∙ e))) (same j at)))

        stays : (pending_place t ≡ at → ⊥) → pending_place t ≡ least (λ j. waits ((put t at p).place j)) 32
        stays e = least_ext _ _ 32 (λ j g. ⊎_elim (λ z. ap (λ (i : ℕ). waits (t.place i)) z ∙ false_of _ (λ y. e (waits_one t r at l y)) ∙ sym (ap waits (here z) ∙ n)) (λ z. sym (ap waits (put_else t at j p z))) (same j at))

-- ---- the table as it is kept

module _ (x : Channels) (t : Table) (k : Kept x t) (at : ℕ) (l : at < 32) (p : Place) (n : ℕ) (y : Index) (m : ℕ) (r : Row) where
  abbrev x' : Channels
  x' = record { names = record { channels = set x.names.channels at m }; index = y; rows = set x.rows at r }

  abbrev t' : Table
  t' = record { place = (put t at p).place; last = n }

  pub row_here : row_at x' at ≡ r
  row_here = get_or-set_same x.rows at r no_row (omega (arith, k.rows_33))

  pub name_here : get_or x'.names.channels at 0 ≡ m
  name_here = get_or-set_same x.names.channels at m 0 (omega (arith, k.names_33))

  pub kept_put : TableRules t' → y.used < 2 ^ 32 → y.lacking < 2 ^ 32 → y.last ≡ n → y.asked ≡ pending_place t'
      → ((j : ℕ) → j < 32 → (j ≡ at → ⊥) → is_set y.used j ≡ is_set x.index.used j)
      → ((j : ℕ) → j < 32 → (j ≡ at → ⊥) → is_set y.lacking j ≡ is_set x.index.lacking j)
      → PlaceAt x' at p → Kept x' t'
  kept_put r' u v la asks us ls here =
      record {
        rules = r';
        rows_33 = length-set x.rows at r ∙ k.rows_33;
        names_33 = length-set x.names.channels at m ∙ k.names_33;
        used_low = u;
        lacking_low = v;
        last_is = la;
        asked_is = asks;
        each = λ j g. ⊎_elim
            (λ e. subst (λ (i : ℕ). PlaceAt x' i ((put t at p).place i)) (sym e) (subst (PlaceAt x' at) (sym (put_here t at p)) here))
            (λ e. subst (PlaceAt x' j) (sym (put_else t at j p e)) (moved j g e (t.place j) (k.each j g))) (same j at);
      }
    where
      name_else : (j : ℕ) → (j ≡ at → ⊥) → get_or x'.names.channels j 0 ≡ get_or x.names.channels j 0
      name_else j e = get_or-set_other x.names.channels at j m 0 e

      row_else : (j : ℕ) → (j ≡ at → ⊥) → row_at x' j ≡ row_at x j
      row_else j e = get_or-set_other x.rows at j r no_row e

      moved : (j : ℕ) → j < 32 → (j ≡ at → ⊥) → (q : Place) → PlaceAt x j q → PlaceAt x' j q
      moved j g e free a =
          record { unused = us j g e ∙ a.unused; whole = ls j g e ∙ a.whole; name_is = name_else j e ∙ a.name_is; row_is = row_else j e ∙ a.row_is }
      moved j g e (holds b) a =
          record { used_is = us j g e ∙ a.used_is; lacks_is = ls j g e ∙ a.lacks_is; name_is = name_else j e ∙ a.name_is; row_is = row_else j e ∙ a.row_is }
