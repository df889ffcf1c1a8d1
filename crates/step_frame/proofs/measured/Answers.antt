-- `measured`: 3 by the length alone, then the type. Assumes nothing.
use Rattle.std.specs.Prelude.{Err}
use borrow.Author.Rules.{rules}
use Rattle.step_spec.specs.HeadLaws.{long_off, long_on, type_short, type_is, type_room}
use Rattle.step_spec.specs.Frame.{front, type_tag, kind_check, body_length, frame_length, type_check}
use lib.Seq.{drop-drop}
use lib.ListN.{drop}
use mathlib.Core.List.{List}
use mathlib.Core.Path.{◌≡◌, sym, ◌∙◌}
use Prim.Native.Nat.{ℕ, ◌+◌, ◌≤◌}
use native.Mathlib.Omega.{arith}
use Rattle.terms.specs.Checks.{or_else, else_on, else_is}
use Rattle.step_frame.proofs.measured.Goals as goal
use Rattle.step_frame.proofs.measured.Goals.{Else-n-lt5, Start}

abbrev text : goal.Start → List ℕ
text c = drop c.args.at c.args.bytes.now

five : (c : goal.Else-n-lt5) → 5 ≤ body_length (text c.before.before.before.before.before)
five c = omega (arith, c.requires.3)

small : (c : goal.Else-n-lt5) → frame_length (text c.before.before.before.before.before) ≤ 8192
small c = let p = c.requires in omega (arith, p.2, p.3)

typed : {m : ℕ} (c : goal.Else-n-lt5) → m ≡ or_else (front 25 type_tag (drop (c.args.at + c.args.start) c.args.bytes.now)) (kind_check (drop (c.args.at + c.args.start + 3) c.args.bytes.now)) → m ≡ type_check (text c.before.before.before.before.before)
typed c h =
    let e : c.args.at + (c.args.start + 3) ≡ c.args.at + c.args.start + 3 = omega arith in
    h ∙ sym (type_is _ (five c) ∙ rw (← c.requires.2, drop-drop c.args.start c.args.at c.args.bytes.now, drop-drop (c.args.start + 3) c.args.at c.args.bytes.now, e))

pub returns-then-len : goal.returns-then-len
returns-then-len c = sym (else_is _ _ 3 (long_off _ (omega (arith, c.requires.2, c.requires.3))) (λ e. omega arith))

pub returns-then-start-n-gt-LONGEST : goal.returns-then-start-n-gt-LONGEST
returns-then-start-n-gt-LONGEST c = sym (else_is _ _ 3 (long_off _ (omega (arith, c.requires.2, c.requires.3))) (λ e. omega arith))

pub returns-then-n-lt5 : goal.returns-then-n-lt5
returns-then-n-lt5 c = let p = c.requires in sym (else_on _ _ (long_on _ (omega (arith, p.2, p.3))) ∙ type_short _ (omega (arith, p.3)))

pub returns-in_err-type_at : goal.returns-in_err-type_at
returns-in_err-type_at c =
    let p = goal.at.returns-in_err-type_at c in
    let r : c.from_residual.result ≡ Err c.in_err-type_at.field-0.0 = search rules in
    rw r (typed p.Else-n-lt5 c.in_err-type_at.ensures ∙ sym (else_on _ _ (long_on _ (small p.Else-n-lt5))))

pub returns : goal.returns
returns c =
    let p = goal.at.returns c in
    let z : type_check (text p.Start) ≡ 0 = sym (typed p.Else-n-lt5 c.in_ok-type_at.ensures) in
    (record { starts = c.requires.2; long = c.requires.3; whole = omega arith; five = omega arith; there = omega (arith, c.requires.2, type_room (text p.Start) (five p.Else-n-lt5) z) }, else_on _ _ (long_on _ (small p.Else-n-lt5)) ∙ z)
