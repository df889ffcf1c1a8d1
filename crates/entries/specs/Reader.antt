-- Document 01 on the M102 entry reader: what opening it and a step of it answer, and what stands
-- beside each answer. `be w p b` is the number in the w bytes of the body b from the offset p on:
-- the stream is at 10, NoMDEntries at 71.
use Rattle.std.specs.Prelude.{ℕ, zero, suc, ◌+◌, ◌*◌, ◌≡◌, Bool, false, ◌&&◌, ◌||◌, List, [], ◌∷◌, ltb, leb, eqb, length, Result, IfOk}
use Rattle.std.specs.Borrow.{Bor}
use Rattle.terms.specs.Paper.{Paper, answer, refusal, pick}
use Rattle.octets.specs.Octets.{be}
use Rattle.rules.specs.declared.Kind.TheVariants.{M102}
use Rattle.rules.specs.Fields.{entry_size, fields_ok}
use Rattle.terms.specs.declared.Refusal.{Refusal}
use Rattle.terms.specs.Verdicts.{verdict_number}
use Rattle.terms.specs.Letters.{spelled}
use Rattle.entries.specs.declared.Entries.{Entries}
use Rattle.entries.specs.declared.Entry.{Entry}
use Rattle.entries.specs.declared.Found.{Found}
use Rattle.entries.specs.Papers.{answer_paper, entry_of}

-- OPENING

-- opening judges a body as an M102's: 3, 4, 6 (document 01, Frame, paragraph 4)
unfoldable pub open_of : List ℕ → ℕ
open_of b = pick (ltb 8164 (length b)) 3 (pick (ltb (length b) 73) 4 (pick (fields_ok M102 b) 0 6))

abbrev pub reader : Bor (List ℕ) → ℕ → Entries
reader m n = record { body = m; place = n }

-- what opening a slice promises: the answer; and the reader is over the caller's very slice, and
-- stands at the first entry
pub record Opens (s : Bor (List ℕ)) (r : Result Entries Refusal) : Type 0 where
  pub answered : verdict_number r ≡ open_of s.now
  pub opened : IfOk r (λ d. d ≡ reader s 73)

-- A STEP

-- the bytes of an entry of this body
abbrev pub size_in : List ℕ → ℕ
size_in b = entry_size (be 5 10 b)

-- p is "73 + k sizes", of w bytes, "with k below" n
unfoldable pub placed : ℕ → ℕ → ℕ → Bool
placed zero w p = false
placed (suc k) w p = placed k w p || eqb p (73 + k * w)

-- row 20 has nothing against the place p: the body is not below 73 bytes, p is one of NoMDEntries
-- places, and the entry there does not pass the body's end
unfoldable pub stands : List ℕ → ℕ → Bool
stands b p = (leb 73 (length b) && placed (be 2 71 b) (size_in b) p) && leb (p + size_in b) (length b)

-- the entry from the place p on: type and price; size and position too, except for stream MD001
-- (document 01, Frame, paragraph 4)
unfoldable pub entry_at : List ℕ → ℕ → Paper
entry_at b p =
    pick (eqb (be 5 10 b) (spelled "MD001"))
    (answer 0 (be 2 p b ∷ be 8 (p + 2) b ∷ []))
    (answer 0 (be 2 p b ∷ be 8 (p + 2) b ∷ be 8 (p + 10) b ∷ be 1 (p + 18) b ∷ []))

-- a step: the entry, and the reader after it; 20 where there is none (document 01, Frame,
-- paragraph 4)
unfoldable pub step_of : List ℕ → ℕ → Paper
step_of b p = pick (stands b p) (entry_at b p) (refusal 20)

-- where the reader stands after it
unfoldable pub place_after : List ℕ → ℕ → ℕ
place_after b p = pick (stands b p) (p + size_in b) p

-- what a step from the place p of a body promises
pub record Stops (b : List ℕ) (p : ℕ) (r : Result Found Refusal) : Type 0 where
  pub answered : answer_paper (entry_of r) ≡ step_of b p
  pub behind : IfOk r (λ f. f.behind ≡ place_after b p)

-- what a step of the reader d promises, after which it is e: it carries the very bytes that d
-- carries
pub record Steps (d : Entries) (r : Result Entry Refusal) (e : Entries) : Type 0 where
  pub answered : answer_paper r ≡ step_of d.body.now d.place
  pub body : e.body ≡ d.body
  pub place : e.place ≡ place_after d.body.now d.place
