-- One reading, as the code keeps it: its frame laid scrubbed, and what is counted of it.
-- Assumes nothing.
use Prim.Native.Nat.{ℕ, ◌+◌, ◌-◌, ◌≤◌, ◌<◌, ◌^◌}
use mathlib.Core.Path.{◌≡◌, refl, sym, ap, ◌∙◌}
use mathlib.Core.Bool.{Bool, true, false}
use mathlib.Core.List.{List, [], ◌∷◌}
use native.Mathlib.Omega.{arith}
use lib.ListN.{length, take, drop}
use borrow.Author.Tests.{eqb-true}
use Rattle.terms.specs.Paper.{answer, pick}
use Rattle.terms.specs.Cases.{clash}
use Rattle.octets.specs.Papers.{laid_if_room}
use Rattle.frame_spec.specs.Frame.{msg_type, read_of}
use Rattle.private.specs.Scrub.{scrubbed}
use Rattle.private.specs.Into.{into_answer}
use Rattle.clean_spec.specs.Laid.{laid_reads, nothing_laid}
use Rattle.clean_spec.specs.Turns.{scrubbed_none, size_inside}
use Rattle.reading.specs.declared.Seen.{Seen}
use Rattle.reading.specs.Seen.{seen_of, seen_number}
use Rattle.reading.proofs.SeenLaws.{seen_frame, seen_answer, seen_blank}
use Rattle.walk_spec.specs.Walk.{accepts}
use Rattle.stream_spec.specs.Run.{waits_at, passed_over, stride_of}
use Rattle.stream_spec.specs.RunLaws.{passed}
use Rattle.stream_clean_spec.specs.declared.Sums.{Sums}
use Rattle.stream_clean_spec.specs.Wash.{unjudged_by}
use Rattle.stream_clean_spec.specs.Runs.{Right, unjudged_most}
use Rattle.stream_clean.specs.declared.Taken.{Taken}
use Rattle.stream_clean.specs.Taken.{taken_of}
use Rattle.clean_spec.specs.Kept.{size_of, kept_size, laid_seen}
use Rattle.std.specs.Prelude.{⊤, Result, Ok, Err, is_ok, ◌&&◌}
use Rattle.std.specs.Result.{result_unwrap_or, result_and}
use Rattle.std.specs.Int.{from_bool}
use lib.Dec.{eqb}
use Rattle.terms.specs.Refusals.{refusal_not_0}
use Rattle.terms.specs.Verdicts.{verdict_number}
use Rattle.terms.specs.declared.Refusal.{Refusal}

-- a frame that was laid
pub laid_taken : (s : List ℕ) (n len size : ℕ) → answer 0 (size ∷ []) ≡ into_answer s n len → (u : ℕ) → u ≡ unjudged_by (msg_type s) → ◌≡◌ {A = Taken} (record { answer = Ok size; unjudged = u }) (taken_of (seen_of s))
laid_taken s n len size e u v =
    let t : (seen_of s).msg_type ≡ msg_type s = ap (λ (y : Seen). y.msg_type) (seen_frame s (laid_reads s n len size e)) in
    rw (laid_seen s n len size e, t, v)

-- WHAT IS COUNTED
pub counts_one : (r : Result ℕ Refusal) → from_bool (is_ok r) ≡ accepts (verdict_number r)
unfolding accepts
counts_one (Ok n) = refl
counts_one (Err w) = rw (refusal_not_0 w)

pub counts_found : (b : Bool) (r : Result ℕ Refusal) → from_bool (b && is_ok r) ≡ pick b (accepts (verdict_number r)) 0
counts_found true r = counts_one r
counts_found false r = refl

-- a refused reading lays nothing
pub none_laid : (s : List ℕ) (n : ℕ) (d d' : List ℕ) → (seen_number (seen_of s) ≡ 0 → ⊥) → d' ≡ laid_if_room n (scrubbed (take (seen_of s).size s)) d → d' ≡ d
none_laid s n d d' ne e =
    let none : (seen_of s).size ≡ 0 = ap (λ (y : Seen). y.size) (seen_blank s (λ (z : (read_of s).number ≡ 0). ne (seen_answer s ∙ z))) in
    e ∙ ap (λ (m : ℕ). laid_if_room n (scrubbed (take m s)) d) none ∙ ap (λ (l : List ℕ). laid_if_room n l d) scrubbed_none ∙ sym (nothing_laid n d)

waits_refused : (closing : Bool) (a : ℕ) → waits_at closing a ≡ true → a ≡ 0 → ⊥
unfolding waits_at
waits_refused true a e z = clash e refl
waits_refused false a e z = omega (arith, eqb-true a 1 e)

pub wait_laid : (closing : Bool) (s : List ℕ) (n : ℕ) (d d' : List ℕ) → waits_at closing (seen_number (seen_of s)) ≡ true → d' ≡ laid_if_room n (scrubbed (take (seen_of s).size s)) d → d' ≡ d
wait_laid closing s n d d' w e = none_laid s n d d' (waits_refused closing (seen_number (seen_of s)) w) e

pub pass_laid : (seeking : Bool) (s : List ℕ) (n : ℕ) (d d' : List ℕ) → passed_over seeking (seen_number (seen_of s)) ≡ true → d' ≡ laid_if_room n (scrubbed (take (seen_of s).size s)) d → d' ≡ d
pass_laid seeking s n d d' w e = none_laid s n d d' (passed seeking (seen_number (seen_of s)) w).1 e

-- how far it goes
stride_by : (n : ℕ) (v : Result ⊤ Refusal) → result_unwrap_or (result_and v (Ok n)) 1 ≡ pick (eqb (verdict_number v) 0) n 1
stride_by n (Ok u) = refl
stride_by n (Err w) = rw (refusal_not_0 w)

pub stride_is : (t : Taken) (x : Seen) → t ≡ taken_of x → result_unwrap_or t.answer 1 ≡ stride_of x
unfolding stride_of
stride_is t x e = ap (λ (y : Taken). result_unwrap_or y.answer 1) e ∙ stride_by x.size x.answer

-- and what is counted of it stays in 64 bits
pub add_fits : (w : List ℕ) (p : ℕ) (t : Taken) (s : Sums) → t ≡ taken_of (seen_of (drop p w)) → p < length w → length w < 2 ^ 64 → s.bytes ≤ p → Right s
    → (s.bytes + size_of t.answer < 2 ^ 64) × ((s.frames < 2 ^ 64 - 1) × ((s.found < 2 ^ 64 - 1) × (s.unjudged + t.unjudged < 2 ^ 64)))
add_fits w p t s e h f b r =
    let z : size_of t.answer ≡ (seen_of (drop p w)).size = ap (λ (y : Taken). size_of y.answer) e ∙ kept_size (drop p w) in
    let u : t.unjudged ≡ unjudged_by (seen_of (drop p w)).msg_type = ap (λ (y : Taken). y.unjudged) e in
    let i = size_inside w p (seen_of (drop p w)) refl (omega arith) in
    let m = unjudged_most (seen_of (drop p w)).msg_type in
    (omega (arith, z, i, b, f), (omega (arith, r.frames, b, f, h), (omega (arith, r.frames, r.found, b, f, h), omega (arith, r.frames, r.unjudged, b, f, h, u, m))))
