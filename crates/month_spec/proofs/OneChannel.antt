-- For channel 100 the figures are the walk's: what its records bring, and what its listing says.
use Prim.Native.Nat.{ℕ}
use mathlib.Core.Path.{◌≡◌, sym, ap, ◌∙◌}
use mathlib.Core.List.{List, [], ◌∷◌}
use native.Mathlib.Omega.{arith}
use Rattle.terms.specs.Paper.{answer}
use Rattle.ledger_spec.specs.State.{Book}
use Rattle.ledger_spec.specs.Calls.{Ask, Missing, answer_to}
use Rattle.ledger_spec.specs.Trace.{Calls, after, trace}
use Rattle.ledger_spec.specs.Words.{count, known_top, received}
use Rattle.ledger_spec.proofs.Rows.{count_ext}
use Rattle.ledger_spec.proofs.Agree.{agrees}
use Rattle.walk_spec.specs.Walk.{walk_of, calls_of}
use Rattle.walk_spec.specs.CallLaws.{brought, walk_ledger}
use Rattle.walk_spec.proofs.CallLaws.{walk_received}
use Rattle.month_spec.specs.Figures.{Figures, figures_of, reads_in}
use Rattle.month_spec.proofs.Counted.{calls_told, figures_reads, missing_is, received_is}

-- CHANNEL 100 IS THE WALK'S: what its records bring, and what its listing says is missing
pub record Walks (s : List ℕ) : Type 0 where
  pub received_brought : (figures_of 100 s).received ≡ count (brought (walk_of s).records) (walk_of s).ledger.top
  pub missing_listed : answer_to (walk_of s).ledger (Ask Missing) ≡ answer 0 ((figures_of 100 s).missing ∷ [])

pub one_channel : (s : List ℕ) → Walks s
one_channel s =
    let e = figures_reads 100 s in
    let c = calls_told s in
    let a = agrees 100 (omega arith) (calls_of s) in
    record {
      received_brought =
          ap (λ (f : Figures). f.received) e
          ∙ received_is 100 (omega arith) (reads_in s)
          ∙ ap (λ (calls : Calls). count (received (trace 100 calls)) (known_top (trace 100 calls))) (sym c)
          ∙ count_ext (received (trace 100 (calls_of s))) (brought (walk_of s).records) (known_top (trace 100 (calls_of s))) (λ n l h. walk_received s n)
          ∙ ap (count (brought (walk_of s).records)) (sym a.top_is ∙ ap (λ (b : Book). b.top) (sym (walk_ledger s)));
      missing_listed =
          ap (λ (b : Book). answer_to b (Ask Missing)) (walk_ledger s ∙ ap (after 100) c)
          ∙ missing_is 100 (omega arith) (reads_in s)
          ∙ ap (λ (f : Figures). answer 0 (f.missing ∷ [])) (sym e);
    }
