-- The lowest field among those of the entries, one entry after the other. Assumes nothing.
use Prim.Native.Nat.{ℕ, zero, suc, ◌+◌, ◌*◌, ◌≤◌, ◌<◌}
use mathlib.Core.Path.{◌≡◌, sym, ◌∙◌}
use mathlib.Core.Bool.{true}
use mathlib.Core.Logic.{⊎_elim}
use mathlib.Core.List.{List}
use native.Mathlib.Omega.{arith}
use Rattle.terms.specs.Cases.{less}
use Rattle.rules.specs.Fields.{entry_ok, entries_ok}
use Rattle.broken.specs.Broken.{Field, entry_fields, entries_fields, none, lowest_from}
use Rattle.broken.specs.Meaning.{all_entries, one_entry, none_found, all_passed, behind_all, before_one}

abbrev entry : ℕ → ℕ → List ℕ → List Field
entry i w b = entry_fields w (73 + i * w) (i + 1) b

-- the first entry with a broken field tells it
pub entry_tells : (i n w : ℕ) (b : List ℕ) → i < n → entries_ok i w b ≡ true → (lowest_from (entry i w b) none ≡ none → ⊥) → lowest_from (entries_fields n w b) none ≡ lowest_from (entry i w b) none
unfolding entries_fields
entry_tells i zero w b h e ne = absurd (omega arith)
entry_tells i (suc n) w b h e ne =
    ⊎_elim
    (λ (l : i < n).
    let same = entry_tells i n w b l e ne in
    before_one (entries_fields n w b) (entry n w b) (λ (z : lowest_from (entries_fields n w b) none ≡ none). ne (sym same ∙ z)) ∙ same)
    (λ (l : n ≤ i).
    let k : n ≡ i = omega arith in
    behind_all (entries_fields n w b) (entry n w b) (all_entries n w b ∙ rw k e) ∙ rw k)
    (less i n)

pub entry_passes : (i w at : ℕ) (b : List ℕ) → at ≡ 73 + i * w → lowest_from (entry_fields w at (i + 1) b) none ≡ none → entry_ok w (73 + i * w) b ≡ true
entry_passes i w at b e h = rw (← e) (sym (one_entry w at (i + 1) b) ∙ all_passed (entry_fields w at (i + 1) b) h)

pub entries_pass : (n w : ℕ) (b : List ℕ) → entries_ok n w b ≡ true → lowest_from (entries_fields n w b) none ≡ none
entries_pass n w b h = none_found (entries_fields n w b) (all_entries n w b ∙ h)
