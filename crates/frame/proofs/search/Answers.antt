-- `search`: a head's refusal is reading's, so that place does not read; of a frame that is there as
-- a whole all bytes are passed. Assumes nothing.
use Rattle.std.proofs.Common.{◌≡◌, ℕ, ◌+◌, ◌≤◌, false, length, drop, Option, Ok, refl, sym, ap, ◌∙◌, arith}
use native.Mathlib.Nat.{sub_self}
use Rattle.octets.specs.Octets.{sum8, sum_of}
use Rattle.octets.specs.Sums.{sum8_on}
use Rattle.frame_spec.specs.Frame.{reads}
use Rattle.frame_spec.specs.Places.{inside_at}
use Rattle.frame_spec.specs.SearchLaws.{first_hit, first_miss, first_end, search_beyond, search_first, refused_read}
use Rattle.frame.specs.Papers.{found_paper}
use Rattle.frame.proofs.search.Goals as goal
use Rattle.frame.proofs.search.Goals.{In-Ok, in-Ok+else-loop-i-test+else-accepts, in_default}

-- the frame ends within the bytes
inside : (c : goal.In-Ok) → c.places.at + (28 + c.in-Ok.head.body_len) ≤ length c.args.bytes.now
inside c = inside_at c.places.at c.args.bytes.now c.in-Ok.head.body_len c.in-Ok.ensures.1 c.in-Ok.ensures.2.there

pub returns-then-bytes-from : goal.returns-then-bytes-from
returns-then-bytes-from c = sym (search_beyond _ _ c.if-bytes-from.true)

pub loop-i-init : goal.loop-i-init
unfolding sum8 sum_of
loop-i-init c = rw (sub_self c.places.at) refl

pub loop-i-preserved : goal.loop-i-preserved
loop-i-preserved c = sum8_on _ _ _ _ c.loop-i.auto.i (omega (arith, inside (goal.at.loop-i-preserved c).In-Ok)) c.loop-i.invariant

pub places-preserved : goal.places-preserved
places-preserved c =
    let miss : reads (drop c.places.at c.args.bytes.now) ≡ false = elim c.match-head_at.branch [ in-Ok+else-loop-i-test+else-accepts w ↦ sym w.accepts.ensures ∙ w.if-accepts.false | in_default w ↦ refused_read _ w.in_default.field-0 w.in_default.ensures ] in
    (sym (first_miss _ _ c.places-test.true miss) ∙ c.places.invariant.0, c.places.invariant.1)

pub returns-after-places : goal.returns-after-places
returns-after-places c = ap (λ (o : Option ℕ). found_paper (Ok o)) c.places.invariant.1 ∙ sym (first_end _ _ c.places-test.false) ∙ c.places.invariant.0 ∙ sym (search_first _ _ c.if-bytes-from.false)

pub returns-then-accepts : goal.returns-then-accepts
returns-then-accepts c = sym (first_hit _ _ c.places-test.true (sym c.accepts.ensures ∙ c.if-accepts.true)) ∙ c.places.invariant.0 ∙ sym (search_first _ _ c.if-bytes-from.false)
