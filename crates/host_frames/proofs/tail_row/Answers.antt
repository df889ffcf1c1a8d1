-- `tail_row`: a refusal of the checks on the body's length, 6 where its tail does not suit, or the
-- field's four numbers. Assumes nothing.
use Rattle.std.proofs.Common.{◌≡◌, ℕ, Bool, true, false, List, [], ◌∷◌, length, refl, sym, ap, ap₂, ◌∙◌, ne_eqb}
use Rattle.std.proofs.lemmas.Result.{err_from_is_err_and}
use mir.Val.{bool_byte}
use Rattle.terms.specs.Paper.{answer, pick}
use Rattle.terms.specs.Refusals.{refusal_pos}
use Rattle.rules.specs.declared.Kind.TheVariants.{M201}
use Rattle.rules.specs.declared.Layout.{Layout}
use Rattle.rules.specs.Table.{measure_of}
use Rattle.rules.specs.Fields.{layout_of, suits_tail, named_in, tail_ok}
use Rattle.tails.specs.declared.TailField.{TailField}
use Rattle.tails.specs.Fields.{tail_fields, field_at}
use Rattle.host_frames.specs.Frames.{letters, field_numbers, tail_number, tail_told}
use Rattle.host_frames.proofs.tail_row.Goals as goal
use Rattle.host_frames.proofs.tail_row.Goals.{After-layout_of-layout, After-suits_tail}

-- the number: of the length, then of the tail
refused_number : (b : List ℕ) → (measure_of M201 (length b) ≡ 0 → ⊥) → tail_number b ≡ measure_of M201 (length b)
unfolding tail_number
refused_number b ne = rw (ne_eqb (measure_of M201 (length b)) 0 ne)

fine_number : (b : List ℕ) (t : Bool) → measure_of M201 (length b) ≡ 0 → tail_ok b ≡ t → tail_number b ≡ pick t 0 6
unfolding tail_number
fine_number b t e f = rw (e, f)

bit : (b : Bool) → bool_byte b ≡ pick b 1 0
bit true = refl
bit false = refl

named : (c : goal.After-layout_of-layout) → c.layout_of-layout.result ≡ named_in c.args.body.now
named c = c.layout_of-layout.ensures ∙ ap₂ layout_of c.letters_at.ensures c.at.ensures

suits : (c : goal.After-suits_tail) → tail_ok c.args.body.now ≡ c.suits_tail.result
unfolding tail_ok
suits c = sym (c.suits_tail.ensures ∙ ap (λ (l : Layout). suits_tail l (length c.args.body.now)) (named (goal.at.After-suits_tail c).After-layout_of-layout))

pub returns-in_err-measure : goal.returns-in_err-measure
unfolding tail_told
returns-in_err-measure c =
    let p = err_from_is_err_and c.from_residual.result c.from_residual.ensures.1 in
    let e = c.in_err-measure.ensures in
    rw (p.1, p.2) (e ∙ sym (refused_number _ (λ z. refusal_pos _ (e ∙ z))))

pub returns-then-not-suits_tail : goal.returns-then-not-suits_tail
unfolding tail_told
returns-then-not-suits_tail c = sym (fine_number _ false (sym c.in_ok-measure.ensures) (suits (goal.at.returns-then-not-suits_tail c).After-suits_tail ∙ c.if-not-suits_tail.true))

pub returns : goal.returns
unfolding tail_told
returns c =
    let l = (goal.at.returns c).After-suits_tail in
    let zero : 0 ≡ tail_number c.args.body.now = sym (fine_number _ true (sym c.in_ok-measure.ensures) (suits l ∙ c.if-not-suits_tail.false)) in
    let field = c.tail_field-field.ensures ∙ ap (λ (x : Layout). field_at c.args.i (tail_fields x (length c.args.body.now))) (named (goal.at.After-suits_tail l).After-layout_of-layout) in
    rw c.letters.ensures
    (ap (λ (b : ℕ). answer 0 (c.tail_field-field.result.place ∷ c.tail_field-field.result.len ∷ letters c.tail_field-field.result.content ∷ b ∷ [])) (bit c.tail_field-field.result.is_private)
    ∙ ap₂ (λ (n : ℕ) (f : TailField). answer n (field_numbers f)) zero field)
