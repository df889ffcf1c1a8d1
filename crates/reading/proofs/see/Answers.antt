-- `see`: the paper of a reading tells what is seen of it; a frame's body is a part of the bytes.
-- Assumes nothing.
use Rattle.std.proofs.Common.{◌≡◌, ℕ, ◌+◌, ◌≤◌, List, length, drop, ap, ◌∙◌, arith}
use Rattle.rules.specs.Table.{kind_is}
use Rattle.frame_spec.specs.Frame.{body_length, Whole}
use Rattle.frame_view.specs.View.{view_of}
use Rattle.frame_spec.specs.Outcomes.{good, read_done, read_length}
use Rattle.frame_spec.specs.Measures.{fits}
use Rattle.frame_spec.specs.Places.{part_body, inside_at}
use Rattle.reading.proofs.SeenLaws.{seen_refused, seen_read}
use Rattle.reading.proofs.see.Goals as goal
use Rattle.reading.proofs.see.Goals.{In-Ok}

abbrev text : goal.In-Ok → List ℕ
text c = drop c.args.at c.args.bytes.now

-- in the arm of a frame: its length, and that it ends within the bytes
len_is : (c : goal.In-Ok) → c.in-Ok.header.body_len ≡ body_length (text c)
len_is c = read_length _ _ _ _ _ c.in-Ok.ensures

whole : (c : goal.In-Ok) → Whole (text c)
whole c = (good _ (read_done _ _ _ _ _ c.in-Ok.ensures)).whole

inside : (c : goal.In-Ok) → c.args.at + (28 + c.in-Ok.header.body_len) ≤ length c.args.bytes.now
inside c = inside_at c.args.at c.args.bytes.now c.in-Ok.header.body_len (len_is c) (whole c).there

pub overflow_add-first : goal.overflow_add-first
overflow_add-first c = omega (arith, inside (goal.at.overflow_add-first c).In-Ok)

pub overflow_add-behind : goal.overflow_add-behind
overflow_add-behind c = omega (arith, inside (goal.at.overflow_add-behind c).In-Ok)

pub slice_bounds-view_of-end : goal.slice_bounds-view_of-end
slice_bounds-view_of-end c = omega (arith, inside (goal.at.slice_bounds-view_of-end c).In-Ok)

pub overflow_cast-result : goal.overflow_cast-result
overflow_cast-result c = let w = (goal.at.overflow_cast-result c).In-Ok in omega (arith, len_is w, (fits _ _ (whole w).measured).small)

pub returns-in-Err : goal.returns-in-Err
returns-in-Err c = c.blank.ensures ∙ seen_refused _ c.in-Err.why c.in-Err.ensures

pub returns-in-Ok : goal.returns-in-Ok
returns-in-Ok c =
    seen_read _ _ _ _ _ c.from.result c.view_of-view.result c.in-Ok.ensures (kind_is _ _ c.from.ensures)
    (c.view_of-view.ensures ∙ ap (view_of _) (part_body c.args.at c.args.bytes.now _ (len_is (goal.at.returns-in-Ok c).In-Ok)))
