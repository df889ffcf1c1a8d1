-- The count is the run of the definition, the map without the places passed is its map, and the two
-- sets read round from floor + 1 are its sets. Assumes nothing.
use mathlib.Core.Path.{◌≡◌, sym, ap, ap₂, ◌∙◌}
use mathlib.Core.List.{[], ◌∷◌}
use Prim.Native.Nat.{ℕ, ◌+◌, ◌≤◌}
use native.Mathlib.Omega.{arith}
use borrow.Author.Rules.{rules}
use Rattle.terms.specs.declared.TickNumber.{TickNumber}
use Rattle.std.specs.Prelude.{Ok}
use Rattle.terms.specs.Counters.{tick_of}
use Rattle.terms.specs.Paper.{answer}
use Rattle.tick_map.specs.declared.Map.{Map}
use Rattle.tick_map.specs.Bits.{Words, bits_in, run, map_of}
use Rattle.tick_map.specs.Ring.{rotated, without, only, lacking}
use Rattle.tick_map.proofs.Laws.{run_le}
use Rattle.ledger_spec.specs.Calls.{leaps}
use Rattle.ledger_spec.proofs.Rules.{rules_facts}
use Rattle.ledger.specs.State.{book_of, laid_from}
use Rattle.ledger.proofs.Seam.{sound_low, book_known, laid_kept, leaps_of, replied_of, given_lt, given_of, passed_lt, passed_of}
use Rattle.ledger.proofs.Sound.given_up.Goals as goal
use Rattle.ledger.proofs.Sound.given_up.Goals.{After-run_from, Start}

words : (c : goal.Start) → Words c.args.self.ledger.map.words
words c = record { four = search rules; low = λ i. search rules }

run_small : (c : goal.After-run_from) → c.run_from.result ≤ 256
run_small c = omega (arith, c.run_from.ensures, run_le 256 (rotated (c.value-floor.result + 1 + c.args.w) (bits_in c.args.self.ledger.map)))

-- floor + 1 and all that is added to it stay far below 64 bits
pub overflow_add-count : goal.overflow_add-count
overflow_add-count c = omega (arith, run_small (goal.at.overflow_add-count c).After-run_from, c.requires.0)

pub overflow_add-floor-3 : goal.overflow_add-floor-3
overflow_add-floor-3 c = let h = sound_low c.args.self.ledger c.args.self.rules in omega (arith, run_small (goal.at.overflow_add-floor-3 c).After-run_from, c.requires.0, c.value-floor.ensures, h.0, h.1)

pub returns : goal.returns
returns c =
    let r = c in
    let v = r in
    let st = v in
    let l = st.args.self.ledger in
    let w = st.args.w in
    let rules = rules_facts (book_of l) st.args.self.rules in
    let known = book_known l w st.requires.1 in
    let short = st.requires.0 in
    let e : v.value-floor.result ≡ l.floor.0 = v.value-floor.ensures in
    let k : w + r.run_from.result ≡ leaps (book_of l) w =
    ap (λ (x : ℕ). w + x) (r.run_from.ensures ∙ ap (λ (x : ℕ). run 256 (rotated (x + 1 + w) (bits_in l.map))) e) ∙ leaps_of l (words (goal.at.returns c).Start) rules w known short in
    let first : c.new-2.result ≡ tick_of (l.floor.0 + 1) = c.new-2.ensures ∙ ap (λ (x : ℕ). tick_of (x + 1)) e in
    let given : c.lacking.result ≡ map_of (lacking (l.floor.0 + 1) w (bits_in l.map)) =
    c.lacking.ensures ∙ ap (λ (x : ℕ). map_of (lacking (x + 1) w (bits_in l.map))) e in
    let passed : c.only.result ≡ map_of (only (l.floor.0 + 1) (w + r.run_from.result) (bits_in l.map)) =
    c.only.ensures ∙ ap (λ (x : ℕ). map_of (only (x + 1) (w + r.run_from.result) (bits_in l.map))) e in (
      ap (λ (f : TickNumber). answer 0 (f.0 ∷ rotated f.0 (bits_in c.lacking.result) ∷ rotated f.0 (bits_in c.only.result) ∷ [])) first
          ∙ ap₂ (λ (g p : Map). answer 0 ((l.floor.0 + 1) ∷ rotated (l.floor.0 + 1) (bits_in g) ∷ rotated (l.floor.0 + 1) (bits_in p) ∷ [])) given passed
          ∙ ap₂ (λ (g p : ℕ). answer 0 ((l.floor.0 + 1) ∷ g ∷ p ∷ [])) (given_of l (words (goal.at.returns c).Start) rules w known short) (passed_of l (words (goal.at.returns c).Start) rules w known short _ k),
      replied_of l (words (goal.at.returns c).Start) rules w known short (w + r.run_from.result) _ _ k
          (c.new.ensures ∙ ap (λ (x : ℕ). tick_of (x + (w + r.run_from.result))) e)
          (c.cleared.ensures ∙ ap (λ (x : ℕ). map_of (without (x + 1) (w + r.run_from.result) (bits_in l.map))) e),
      ap₂ (λ (g p : Map). Ok (record { first = c.new-2.result; given_up = g; passed = p }))
          (given ∙ laid_kept c.new-2.result _ (given_lt l (words (goal.at.returns c).Start) rules w known short) ∙ ap (laid_from c.new-2.result) (sym given))
          (passed ∙ laid_kept c.new-2.result _ (passed_lt l (words (goal.at.returns c).Start) rules w known short _) ∙ ap (laid_from c.new-2.result) (sym passed)),
    )
