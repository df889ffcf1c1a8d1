-- What a call of a stream that scrubs answers and tells through the host, and what it leaves; a row
-- of such calls on a stream that rk_stream_open wrote; and the sentences of what the host then has.
use Rattle.std.specs.Prelude.{ℕ, ◌≤◌, ◌≡◌, refl, Result, Ok, Err, true, List, [], ◌∷◌, ◌++◌, length, get_or, take}
use Rattle.std.proofs.Common.{ap, ap₂, ◌∙◌, ne_eqb}
use Rattle.terms.specs.Paper.{Paper, answer, one_number}
use Rattle.terms.specs.Verdicts.{verdict_number}
use Rattle.terms.specs.declared.Refusal.{Refusal}
use Rattle.octets.specs.Octets.{Bytes}
use Rattle.walk_spec.specs.Walk.{frames_of}
use Rattle.clean_spec.specs.Clean.{clean_in, clean_of, found_in, clean_answer}
use Rattle.stream_spec.specs.declared.Stream.{Stream}
use Rattle.stream_spec.specs.declared.Fed.{Fed}
use Rattle.stream_spec.specs.State.{opened, StreamRules}
use Rattle.stream_spec.specs.Calls.{Call, cut_of, closes}
use Rattle.stream_spec.specs.Trace.{Calls, none, ◌▸◌}
use Rattle.stream_spec.specs.Words.{readings}
use Rattle.stream_clean_spec.specs.declared.Sums.{Sums}
use Rattle.stream_clean_spec.specs.Wash.{no_sums, plus}
use Rattle.stream_clean_spec.specs.Calls.{counts_in, answer_for, leaves_for, answer_to, next_of, leaves, summed_paper, washed_paper}
use Rattle.stream_clean_spec.specs.CallLaws.{Promised}
use Rattle.stream_clean_spec.specs.Trace.{after, taken, ended, unjudged_of}
use Rattle.host_words.specs.Told.{Tells, retold, both, seen, Refuses, tells_as, tells_kept}
use Rattle.host_stream_spec.specs.Lent.{Lent, as_one, lent_of, stream_in}
use Rattle.host_stream_spec.specs.Calls.{kept_beside}

-- TOLD: what this call wrote (bytes, frames, frames found after damage, M101 frames), the place of
-- the first byte that waits, or of the next to come, and how many bytes wait
abbrev pub wash_numbers : Stream → Sums → List ℕ
wash_numbers x s = s.bytes ∷ s.frames ∷ s.found ∷ s.unjudged ∷ x.place ∷ x.len ∷ []

abbrev pub wash_with : Paper → Stream → Paper
wash_with p next = retold (λ (vs : List ℕ). vs ++ (next.place ∷ next.len ∷ [])) p

abbrev pub wash_told : Lent → Call → ℕ → Paper
wash_told k call room = wash_with (answer_to (stream_in k) call room) (next_of (stream_in k) call room)

-- LEFT: beside 0 the stream after the call, else what was there
unfoldable pub wash_after : Lent → Call → ℕ → Lent
wash_after k call room = kept_beside (answer_to (stream_in k) call room).number (next_of (stream_in k) call room) k

-- A CALL: the promise of one that is lent k, the told row and the buffer d, answers n and leaves
-- k', row and d'
abbrev pub WashCalled : Lent → Call → List ℕ → List ℕ → ℕ → Lent → List ℕ → List ℕ → Type 0
WashCalled k call was d n k' row d' =
    Tells (wash_told k call (length d)) was n row × ((k' ≡ wash_after k call (length d)) × (d' ≡ leaves (stream_in k) call d))

-- k comes of these calls, each meeting its promise, by which a cut has bytes alone, on what a call
-- of rk_stream_open left
pub data Washes : Calls → Lent → Type 0 where
  opening : {k : Lent} → k ≡ lent_of opened → Washes none k
  one_more : {calls : Calls} {k : Lent} (call : Call) (was d : List ℕ) (n : ℕ) (k' : Lent) (row d' : List ℕ) → Washes calls k → Bytes (cut_of call) → WashCalled k call was d n k' row d'
      → Washes (calls ▸ record { call = call; room = length d }) k'

-- what a host then has, if behind each call answered 0 it sets aside as many bytes as are told
abbrev pub wash_heard : {calls : Calls} {k : Lent} → Washes calls k → List ℕ
wash_heard (opening e) = []
wash_heard (one_more call was d n k' row d' w b p) = wash_heard w ++ take (get_or (seen n row).values 0 0) d'

-- and has counted, if it adds up what each such call tells
abbrev pub wash_counted : {calls : Calls} {k : Lent} → Washes calls k → Sums
wash_counted (opening e) = no_sums
wash_counted (one_more call was d n k' row d' w b p) = plus (wash_counted w) (counts_in (seen n row).values)

pub record HostWashes (calls : Calls) (k : Lent) (has : List ℕ) (sums : Sums) : Type 0 where
  -- words and bytes are those of the stream after the calls, and keep the rules
  pub stands : k ≡ lent_of (after calls)
  pub rules : StreamRules (stream_in k)
  -- the host has the decided frames, each scrubbed, end to end; after the closing call, the
  -- cleaned capture
  pub bytes : has ≡ clean_in (taken calls) (readings (ended calls) (taken calls))
  pub whole : ended calls ≡ true → has ≡ clean_of (taken calls)
  -- it has counted these frames, those found after damage and those whose body no rule judges
  pub length_told : sums.bytes ≡ length has
  pub frames : sums.frames ≡ frames_of (readings (ended calls) (taken calls))
  pub found : sums.found ≡ found_in 0 (readings (ended calls) (taken calls))
  pub unjudged : sums.unjudged ≡ unjudged_of (readings (ended calls) (taken calls))
  -- after the closing call that is what rk_clean of the capture tells, in a buffer that takes it
  pub told : ended calls ≡ true → (room : ℕ) → length (clean_of (taken calls)) ≤ room → answer 0 (sums.bytes ∷ sums.frames ∷ sums.found ∷ []) ≡ clean_answer (taken calls) room

-- PROOFS

number_is : (a : Result Sums Refusal) → verdict_number a ≡ (summed_paper a).number
number_is (Ok s) = refl
number_is (Err w) = refl

-- the stream's own call, and what is told and kept of it
pub wash_settled : (k : Lent) (call : Call) (d d' : List ℕ) (f : Fed Sums) (x : Stream) → x ≡ stream_in k → Promised x (closes call) (cut_of call) d d' f
    → {was row : List ℕ} {n : ℕ} {k' : Lent} → Tells (wash_with (washed_paper f) f.stream) was n row × (k' ≡ kept_beside (verdict_number f.answer) f.stream k)
    → WashCalled k call was d n k' row d'
unfolding wash_after
wash_settled k call d d' f x e p t =
    let paper : washed_paper f ≡ answer_to (stream_in k) call (length d) = p.0 ∙ ap (λ (y : Stream). answer_to y call (length d)) e in
    let next : f.stream ≡ next_of (stream_in k) call (length d) = p.1.0 ∙ ap (λ (y : Stream). next_of y call (length d)) e in
    (tells_as (ap₂ wash_with paper next) t.0, (t.1 ∙ ap₂ (λ (m : ℕ) (y : Stream). kept_beside m y k) (number_is f.answer ∙ one_number paper) next, p.1.1 ∙ ap (λ (y : Stream). leaves y call d) e))

-- a refusal leaves the told row, what is lent and the buffer as they were
module _ (k : Lent) (call : Call) (was d : List ℕ) (n : ℕ) (k' : Lent) (row d' : List ℕ) (p : WashCalled k call was d n k' row d') (w : Refuses n) where
  not_done : (answer_to (stream_in k) call (length d)).number ≡ 0 → ⊥
  not_done z = w (p.0.answered ∙ z)

  lent_kept : wash_after k call (length d) ≡ k
  unfolding wash_after kept_beside
  lent_kept = rw (ne_eqb _ 0 not_done)

  buffer_kept : leaves (stream_in k) call d ≡ d
  unfolding leaves_for answer_for
  buffer_kept = rw (ne_eqb _ 0 not_done)

  pub wash_refused_keeps : both row (as_one k' d') ≡ both was (as_one k d)
  wash_refused_keeps = ap₂ both (tells_kept p.0 w) (ap₂ as_one (p.1.0 ∙ lent_kept) (p.1.1 ∙ buffer_kept))
