-- For each public function: wrong answers that its promise rules out, as tables of what is given
-- and what is then wrong. A function that takes or gives a reader has no `Post` of the checker's:
-- it promises one relation of specs/ and nothing else, and the table is over that. Assumes nothing.
use Prim.Native.Nat.{ℕ}
use mathlib.Core.Path.{◌≡◌, refl, sym, ap₂, ◌∙◌}
use mathlib.Core.List.{List, [], ◌∷◌}
use denote.Ref.{Bor}
use lib.ListN.{take}
use Rattle.terms.specs.Letters.{spelled}
use Rattle.terms.specs.Paper.{Paper, answer, refusal, one_number}
use Rattle.terms.specs.RuledOut.{Row, ◌never◌, ◌only◌, Kept, RulesOut, ruled, numbers, lists, papers, beside}
use Rattle.octets.specs.Octets.{numeral, digits_of}
use Rattle.rules.specs.Bodies.{snapshot_body}
use Rattle.rules.specs.Fields.{m102_values_ok, entry_size, entry_ok, entries_ok, m102_ok, fields_ok}
use Rattle.std.specs.Prelude.{eqb, Result, Ok, Err, Option}
use Rattle.terms.specs.declared.Refusal.{Refusal}
use Rattle.terms.specs.Paper.{pick}
use Rattle.terms.specs.Refusals.{number_of, refusal_not_0, refusal_pos}
use Rattle.terms.specs.Verdicts.{verdict_number}
use Rattle.entries.specs.declared.Entries.{Entries}
use Rattle.entries.specs.declared.Entry.{Entry}
use Rattle.entries.specs.declared.Found.{Found}
use Rattle.entries.specs.Papers.{answer_paper, answer_of, entry_of}
use Rattle.entries.specs.Reader.{open_of, Opens, placed, stands, entry_at, step_of, place_after, Stops, Steps}
use Rattle.entries.specs.Outcomes.{stays}
use Rattle.entries.proofs.open_at.Reads as open_at
use Rattle.entries.proofs.open_at.Kinds as open-at-kinds
use Rattle.entries.proofs.step_from.Reads as step_from
use Rattle.entries.proofs.step_from.Kinds as step-from-kinds

-- a snapshot of stream MD001: the SecurityType, and two entries of 10 bytes, of types 5 and 6 and
-- prices 7 and 8
abbrev body : ℕ → List ℕ
body type = snapshot_body type (spelled "MD001") 7 8

-- OPENING

abbrev pub open_at_wrong : List (Row (List ℕ) ℕ)
open_at_wrong =
    body 1 never 6  -- everything refused
    ∷ body 2 never 4  -- 4 where 6 is due: SecurityType 2 does not go with MD001
    ∷ take 72 (body 1) only 4  -- a body below 73 bytes does not open
    ∷ []

pub open_at_rules_out : RulesOut (Kept _ open-at-kinds.ps open-at-kinds.r open_at.Post) (λ c. c.args.0.now) (λ c. verdict_number c.result) open_at_wrong
unfolding numeral digits_of m102_values_ok entry_size entry_ok entries_ok m102_ok fields_ok open_of
open_at_rules_out = ruled numbers open_of (λ c p. p) _ refl

-- the answer, the bytes that the reader carries, and its place; beside a refusal there is no reader
abbrev Opening : Type 0
Opening = ℕ × (List ℕ × ℕ)

abbrev opening : ℕ → List ℕ → ℕ → Opening
opening n bytes place = (n, (bytes, place))

abbrev shown : Result Entries Refusal → Opening
shown (Ok d) = opening 0 d.body.now d.place
shown (Err w) = opening (number_of w) [] 0

abbrev pub reader_of_wrong : List (Row (List ℕ) Opening)
reader_of_wrong =
    body 1 never opening 0 (body 1) 72  -- the reader starts at 72
    ∷ body 1 only opening 0 (body 1) 73
    ∷ body 2 never opening 0 (body 2) 73  -- a reader over a refused body
    ∷ body 2 only opening 6 [] 0  -- refused, and no reader: it shows as no bytes at 0
    ∷ []

-- what opening shows, by its number
opens_as : ℕ → List ℕ → Opening
opens_as n b = pick (eqb n 0) (opening 0 b 73) (opening n [] 0)

shown_as : (s : Bor (List ℕ)) (x : Result Entries Refusal) → Opens s x → shown x ≡ opens_as (open_of s.now) s.now
unfolding opens_as
shown_as s (Ok d) p = rw (p.opened, ← p.answered) refl
shown_as s (Err w) p = rw (← p.answered, refusal_not_0 w) refl

pub reader_of_rules_out : RulesOut (λ (c : Bor (List ℕ) × Result Entries Refusal). Opens c.0 c.1) (λ c. c.0.now) (λ c. shown c.1) reader_of_wrong
unfolding numeral digits_of m102_values_ok entry_size entry_ok entries_ok m102_ok fields_ok open_of opens_as
reader_of_rules_out = ruled (beside numbers (beside lists numbers)) (λ (b : List ℕ). opens_as (open_of b) b) (λ c p. shown_as c.0 c.1 p) _ refl

-- A STEP: a body and a place; the answer, and the place after it

abbrev Stopped : Type 0
Stopped = Paper × ℕ

abbrev stop : Paper → ℕ → Stopped
stop p n = (p, n)

abbrev pub step_from_wrong : List (Row (List ℕ × ℕ) Stopped)
step_from_wrong =
    (body 1, 83) never stop (answer 0 (5 ∷ 7 ∷ [])) 93  -- the first entry again
    ∷ (body 1, 83) never stop (answer 0 (6 ∷ 8 ∷ [])) 83  -- the place stays
    ∷ (body 1, 83) only stop (answer 0 (6 ∷ 8 ∷ [])) 93  -- an entry of MD001 has no size and no position
    ∷ (body 1, 93) only stop (refusal 20) 93  -- no step more than NoMDEntries, and 20, not 9
    ∷ (body 1, 74) only stop (refusal 20) 74  -- no entry between two places
    ∷ (take 92 (body 1), 83) only stop (refusal 20) 83  -- no entry that passes the body's end
    ∷ []

-- the place behind the entry; beside a refusal it is the one asked about
abbrev then_at : ℕ → Result Found Refusal → ℕ
then_at p (Ok f) = f.behind
then_at p (Err w) = p

then_after : (b : List ℕ) (p : ℕ) (x : Result Found Refusal) → Stops b p x → then_at p x ≡ place_after b p
then_after b p (Ok f) s = s.behind
then_after b p (Err w) s = sym (stays b p (λ z. refusal_pos w (one_number s.answered ∙ z)))

pub step_from_rules_out : RulesOut (Kept _ step-from-kinds.ps step-from-kinds.r step_from.Post) (λ c. (c.args.0.now, c.args.1.0)) (λ c. stop (answer_paper (entry_of c.result)) (then_at c.args.1.0 c.result)) step_from_wrong
unfolding numeral digits_of entry_size placed stands entry_at step_of place_after
step_from_rules_out =
    ruled (beside papers numbers) (λ (i : List ℕ × ℕ). stop (step_of i.0 i.1) (place_after i.0 i.1))
    (λ c p. ap₂ stop p.answered (then_after c.args.0.now c.args.1.0 c.result p))
    _
    refl

-- of a reader: the same wrong answers
pub Entries_step_rules_out : RulesOut (λ (c : Entries × (Result Entry Refusal × Entries)). Steps c.0 c.1.0 c.1.1) (λ c. (c.0.body.now, c.0.place)) (λ c. stop (answer_paper c.1.0) c.1.1.place) step_from_wrong
unfolding numeral digits_of entry_size placed stands entry_at step_of place_after
Entries_step_rules_out = ruled (beside papers numbers) (λ (i : List ℕ × ℕ). stop (step_of i.0 i.1) (place_after i.0 i.1)) (λ c p. ap₂ stop p.answered p.place) _ refl

-- and as an iterator
pub EntriesIterator_next_rules_out : RulesOut (λ (c : Entries × (Option Entry × Entries)). Steps c.0 (answer_of c.1.0) c.1.1) (λ c. (c.0.body.now, c.0.place)) (λ c. stop (answer_paper (answer_of c.1.0)) c.1.1.place) step_from_wrong
unfolding numeral digits_of entry_size placed stands entry_at step_of place_after
EntriesIterator_next_rules_out = ruled (beside papers numbers) (λ (i : List ℕ × ℕ). stop (step_of i.0 i.1) (place_after i.0 i.1)) (λ c p. ap₂ stop p.answered p.place) _ refl
