-- A `for` over an opened reader gets all entries of the body, in order and each once. Assumes
-- nothing.
use Prim.Native.Nat.{ℕ, zero, suc, ◌+◌, ◌*◌}
use Rattle.std.proofs.Common.{◌≡◌, List, sym, ap, ◌∙◌, arith, zero-add, zero-mul, Ok, Option, Bor}
use Rattle.std.specs.Iterator.{AlwaysYields}
use Rattle.terms.specs.Paper.{one_number}
use Rattle.terms.specs.Cases.{clash}
use Rattle.octets.specs.Octets.{be}
use Rattle.entries.specs.declared.Entries.{Entries}
use Rattle.entries.specs.declared.Entry.{Entry}
use Rattle.entries.specs.Papers.{entry_paper, answer_of}
use Rattle.entries.specs.Reader.{Opens, size_in, Steps}
use Rattle.entries.specs.Given.{MayCarry}
use Rattle.entries.specs.Exactly.{open_given_0}
use Rattle.entries.specs.Outcomes.{entry_number}
use Rattle.entries.specs.Walks.{entries_from, all_entries, behind, kth_entry, kth_after}
use Rattle.entries.proofs.Turns.{there}

-- what a turn of the reader is
abbrev Turn : Entries → Option Entry → Entries → Type 0
Turn d x e = Steps d (answer_of x) e

module _ (b : List ℕ) (h : MayCarry b) where
  yields_from : (n k : ℕ) → k + n ≡ be 2 71 b → (d : Entries) → d.body.now ≡ b → d.place ≡ 73 + k * size_in b → AlwaysYields Turn entry_paper d (entries_from n k b)
  unfolding entries_from
  yields_from zero k e d p q =
      λ x j s.
      let all : k ≡ be 2 71 b = omega arith in
      clash (there b (73 + be 2 71 b * size_in b) x (rw (p, q, all) at s.answered)) (behind b)
  yields_from (suc n) k e d p q = (
    λ j s. let z : ◌≡◌ {A = ℕ} 20 0 = one_number (rw (p, q) at s.answered ∙ kth_entry b h k (omega arith)) ∙ entry_number b (73 + k * size_in b) in omega arith,
    λ x j s. (
      rw (p, q) at s.answered ∙ kth_entry b h k (omega arith),
      yields_from n (suc k) (omega arith) j (ap (λ (m : Bor (List ℕ)). m.now) s.body ∙ p) (s.place ∙ rw (p, q) (kth_after b h k (omega arith))),
    ),
  )

pub opened_yields : (s : Bor (List ℕ)) (d : Entries) → Opens s (Ok d) → AlwaysYields Turn entry_paper d (all_entries s.now)
opened_yields s d o =
    yields_from s.now ((open_given_0 s.now).0 (sym o.answered)) (be 2 71 s.now) 0 (zero-add (be 2 71 s.now)) d (ap (λ (e : Entries). e.body.now) o.opened) (ap (λ (e : Entries). e.place) o.opened ∙ rw zero-mul)
