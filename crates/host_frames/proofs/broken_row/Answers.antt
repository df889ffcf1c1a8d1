-- `broken_row`: a refusal of reading's checks of type and length, or what is told of the field.
-- Assumes nothing.
use Rattle.std.proofs.Common.{◌≡◌, ℕ, length, Option, ap, ap₂, ◌∙◌}
use Rattle.std.proofs.lemmas.Result.{err_from_is_err_and}
use Rattle.terms.specs.Paper.{answer}
use Rattle.rules.specs.declared.Kind.{Kind}
use Rattle.rules.specs.Table.{kind_of, kind_is, measure_of}
use Rattle.broken.specs.declared.Broken.{Broken}
use Rattle.broken.specs.Broken.{broken_of}
use Rattle.host_frames.specs.Frames.{broken_numbers, broken_told}
use Rattle.host_frames.proofs.broken_row.Goals as goal
use Rattle.host_frames.proofs.broken_row.Goals.{After-from-kind, After-broken_field}

kind : (c : goal.After-from-kind) → c.from-kind.result ≡ kind_of c.args.msg_type
kind c = kind_is _ _ c.from-kind.ensures

-- the number of the two checks on it
measured : (c : goal.After-from-kind) → measure_of c.from-kind.result (length c.args.body.now) ≡ measure_of (kind_of c.args.msg_type) (length c.args.body.now)
measured c = ap (λ (k : Kind). measure_of k (length c.args.body.now)) (kind c)

told : (c : goal.After-broken_field) → answer 0 (broken_numbers c.broken_field.result) ≡ broken_told c.args.msg_type c.args.body.now
unfolding broken_told
told c =
    let k = (goal.at.After-broken_field c).After-from-kind in
    ap₂ (λ (n : ℕ) (f : Option Broken). answer n (broken_numbers f)) (c.in_ok-measure.ensures ∙ measured k) (c.broken_field.ensures ∙ ap (λ (x : Kind). broken_of x c.args.body.now) (kind k))

pub returns-in_err-measure : goal.returns-in_err-measure
unfolding broken_told
returns-in_err-measure c =
    let p = err_from_is_err_and c.from_residual.result c.from_residual.ensures.1 in
    rw (p.1, p.2) (c.in_err-measure.ensures ∙ measured (goal.at.returns-in_err-measure c).After-from-kind)

pub returns-in-Some : goal.returns-in-Some
returns-in-Some c = rw c.in-Some.is at (told (goal.at.returns-in-Some c).After-broken_field)

pub returns-in-None : goal.returns-in-None
returns-in-None c = rw c.in-None.is at (told (goal.at.returns-in-None c).After-broken_field)
