-- `field_at`: where SOH, `=` and the tag are found, they make up the field. Assumes nothing.
use Rattle.step_frame.proofs.Searches.{Found, found, not_found, mark_lacks, tag_lacks, field_found}
use Rattle.step_spec.specs.FieldLaws.{field_open}
use Rattle.step_spec.specs.Pieces.{SOH, equals}
use lib.ListN.{length, drop, take, length-drop}
use Rattle.std.proofs.lemmas.Slice.{between_to_end}
use mathlib.Core.Logic.{⊎_elim}
use mathlib.Core.List.{List}
use mathlib.Core.Path.{◌≡◌, sym, ◌∙◌}
use Prim.Native.Nat.{ℕ, ◌<◌}
use Rattle.std.specs.List.{slice_range}
use native.Mathlib.Omega.{arith}
use Rattle.step_frame.proofs.field_at.Goals as goal
use Rattle.step_frame.proofs.field_at.Goals.{In_ok-end, In_ok-mark}

text_is : (t s : List ℕ) (at : ℕ) → t ≡ slice_range s at (length s) → t ≡ drop at s
text_is t s at e = e ∙ between_to_end s at (length s) (omega arith)

ended : (c : goal.In_ok-end) → Found SOH (drop c.args.place c.args.fields.now) c.in_ok-end.end
ended c = found SOH _ _ c.in_ok-end.was (rw (text_is c.in_ok-text.text.now c.args.fields.now c.args.place c.in_ok-text.ensures.lookup.0.2) at c.first.ensures)

marked : (c : goal.In_ok-mark) → Found equals (take c.in_ok-end.end (drop c.args.place c.args.fields.now)) c.in_ok-mark.mark
marked c = found equals _ _ c.in_ok-mark.was (rw (text_is c.in_ok-text.text.now c.args.fields.now c.args.place c.in_ok-text.ensures.lookup.0.2) at c.first-2.ensures)

pub returns-in_err-text : goal.returns-in_err-text
returns-in_err-text c =
    let a = c.args in
    let l : length a.fields.now < a.place = ⊎_elim (λ l. l) (λ l. absurd (omega (arith, l))) c.in_err-text.ensures.lookup.0 in
    rw c.from_residual.ensures (sym (field_open a.place (drop a.place a.fields.now) (simp length-drop (omega (arith, l)))))

pub returns-in_err-end : goal.returns-in_err-end
returns-in_err-end c =
    let a = c.args in
    rw c.from_residual-in_err-end.ensures (sym (field_open a.place (drop a.place a.fields.now) (not_found SOH _ c.in_err-end.was (rw (text_is c.in_ok-text.text.now c.args.fields.now c.args.place c.in_ok-text.ensures.lookup.0.2) at c.first.ensures))))

pub returns-in_err-mark : goal.returns-in_err-mark
returns-in_err-mark c =
    let p = goal.at.returns-in_err-mark c in
    rw c.from_residual-in_err-mark.ensures (mark_lacks _ _ c.args.place (ended p.In_ok-end) (not_found equals _ c.in_err-mark.was (rw (text_is c.in_ok-text.text.now c.args.fields.now c.args.place c.in_ok-text.ensures.lookup.0.2) at c.first-2.ensures)))

pub returns-in_err-tag : goal.returns-in_err-tag
returns-in_err-tag c =
    let p = goal.at.returns-in_err-tag c in
    rw c.from_residual-in_err-tag.ensures (tag_lacks _ _ _ (ended p.In_ok-end) (marked p.In_ok-mark) c.args.place (rw (text_is c.in_ok-text.text.now c.args.fields.now c.args.place c.in_ok-text.ensures.lookup.0.2) at c.in_err-tag.ensures))

pub returns : goal.returns
returns c =
    let p = goal.at.returns c in
    field_found _ _ _ (ended p.In_ok-end) (marked p.In_ok-mark) c.args.place _ (rw (text_is c.in_ok-text.text.now c.args.fields.now c.args.place c.in_ok-text.ensures.lookup.0.2) at c.in_ok-tag.ensures)
