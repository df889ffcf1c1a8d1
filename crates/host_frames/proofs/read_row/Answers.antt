-- `read_row`: reading's refusal, or what its paper and the view tell. Assumes nothing.
use Rattle.std.proofs.Common.{◌≡◌, ℕ, ◌+◌, ◌≤◌, List, length, drop, get_or, ap, ap₂, ◌∙◌, arith}
use Rattle.std.proofs.lemmas.Result.{err_from_is_err_and}
use Rattle.terms.specs.Paper.{Paper, one_number}
use Rattle.rules.specs.Table.{kind_of, kind_is}
use Rattle.frame_spec.specs.Frame.{msg_type, body_read}
use Rattle.frame_spec.specs.Outcomes.{read_values}
use Rattle.frame_spec.specs.Places.{read_inside, read_part}
use Rattle.frame_view.specs.View.{view_of}
use Rattle.host_frames.specs.Frames.{read_told_lem, read_told}
use Rattle.host_frames.proofs.read_row.Goals as goal
use Rattle.host_frames.proofs.read_row.Goals.{After-view_of-view, In_ok-header}

-- the frame ends within the bytes
inside : (c : goal.In_ok-header) → c.args.place + (28 + c.in_ok-header.header.body_len) ≤ length c.args.bytes.now
inside c = read_inside _ _ _ _ _ _ c.in_ok-header.ensures

-- the bytes from the place on, and the view of the body there
abbrev text : goal.After-view_of-view → List ℕ
text c = drop c.args.place c.args.bytes.now

viewed : (c : goal.After-view_of-view) → c.view_of-view.result ≡ view_of (kind_of (msg_type (text c))) (body_read (text c))
viewed c =
    c.view_of-view.ensures
    ∙ ap₂ view_of (kind_is _ _ c.from.ensures ∙ ap (λ (p : Paper). kind_of (get_or p.values 0 0)) (read_values _ _ _ _ _ c.in_ok-header.ensures)) (read_part _ _ _ _ _ _ c.in_ok-header.ensures)

pub overflow_add-start : goal.overflow_add-start
overflow_add-start c = omega (arith, inside (goal.at.overflow_add-start c).In_ok-header)

pub overflow_add-end : goal.overflow_add-end
overflow_add-end c = omega (arith, inside (goal.at.overflow_add-end c).In_ok-header)

pub slice_bounds-view_of-end : goal.slice_bounds-view_of-end
slice_bounds-view_of-end c = omega (arith, inside (goal.at.slice_bounds-view_of-end c).In_ok-header)

pub returns-in_err-header : goal.returns-in_err-header
unfolding read_told
returns-in_err-header c =
    let p = err_from_is_err_and c.from_residual.result c.from_residual.ensures.1 in
    rw (p.1, p.2) (one_number c.in_err-header.ensures)

pub returns : goal.returns
returns c =
    rw (c.value.ensures, c.value-2.ensures, c.value-3.ensures, c.value-4.ensures, c.value-5.ensures)
    (read_told_lem _ _ _ _ _ c.view_of-view.result c.in_ok-header.ensures (viewed (goal.at.returns c).After-view_of-view))
