-- Each byte more, or one that is no digit. Assumes nothing.
use Rattle.std.proofs.Common.{◌≡◌, ◌+◌, ◌-◌, ◌^◌, ◌<◌, ◌≤◌, ◌∙◌, true, sym, refl, arith, get_or, length, take, drop, ℕ, List}
use Rattle.octets.specs.Octets.{numeral}
use Rattle.digits.specs.Digits.{all_digits, said_by}
use Rattle.digits.specs.Laws.{all_on, said_on, said_room, said_stops, digit_bounds}
use Rattle.digits.specs.Texts.{said_whole, said_lacks}
use Rattle.digits.proofs.said.Goals as goal

-- the byte at hand
abbrev hand : (s : List ℕ) (at n i : ℕ) → ℕ
hand s at n i = get_or (take (at + n - at) (drop at s)) i 0

-- the digits before the last of nineteen
fewer : (t : List ℕ) (i : ℕ) → i < length t → length t ≤ 19 → all_digits (take i t) ≡ true → said_by (take i t) < 10 ^ 18
fewer t i h k d = said_room t i (omega arith) (omega arith) d

pub loop-b-init : goal.loop-b-init
unfolding all_digits said_by numeral
loop-b-init c = (refl, refl)

pub returns-then-not-digit : goal.returns-then-not-digit
returns-then-not-digit c =
    let e : c.args.at + c.args.n - c.args.at ≡ c.args.n = omega arith in
    rw e at (sym (said_lacks _ (said_stops _ _ c.loop-b-test.true (sym c.digit.ensures ∙ c.if-not-digit.true))))

pub overflow_mul-v : goal.overflow_mul-v
overflow_mul-v c = omega (arith, fewer _ _ c.loop-b-test.true (omega arith) c.loop-b.invariant.0)

pub overflow_add-v : goal.overflow_add-v
overflow_add-v c = omega (arith, digit_bounds (hand c.args.s.now c.args.at c.args.n c.loop-b.b-index) (sym c.digit.ensures ∙ c.if-not-digit.false), fewer _ _ c.loop-b-test.true (omega arith) c.loop-b.invariant.0)

pub loop-b-preserved : goal.loop-b-preserved
loop-b-preserved c =
    (all_on _ _ c.loop-b-test.true c.loop-b.invariant.0 (sym c.digit.ensures ∙ c.if-not-digit.false), rw (said_on _ _ c.loop-b-test.true) (omega (arith, digit_bounds (hand c.args.s.now c.args.at c.args.n c.loop-b.b-index) (sym c.digit.ensures ∙ c.if-not-digit.false))))

pub returns : goal.returns
returns c =
    let e : c.args.at + c.args.n - c.args.at ≡ c.args.n = omega arith in
    rw e at (said_whole _ c.loop-b.b-index c.loop-b.v c.loop-b-test.false c.loop-b.invariant.0 c.loop-b.invariant.1)
