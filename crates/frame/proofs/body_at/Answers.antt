-- `body_at`: the paper of a frame that reads tells its length, and that its body lies within the
-- bytes. Assumes nothing.
use Rattle.std.proofs.Common.{◌≡◌, ℕ, ◌+◌, ◌≤◌, List, [], ◌∷◌, length, drop, sym, ap, ◌∙◌, arith}
use Rattle.frame_spec.specs.Places.{body_none, read_inside, read_part}
use Rattle.frame.specs.Papers.{read_paper}
use Rattle.frame_spec.specs.Frame.{read_of}
use Rattle.terms.specs.Refusals.{refusal_pos}
use Rattle.terms.specs.Paper.{answer, one_number}
use Rattle.frame.proofs.body_at.Goals as goal
use Rattle.frame.proofs.body_at.Goals.{After-read_at, In-Ok}

abbrev text : goal.After-read_at → List ℕ
text c = drop c.args.at c.args.bytes.now

-- in the arm of a frame: its paper, and that it ends within the bytes
paper : (c : goal.In-Ok) → answer 0 (c.in-Ok.header.msg_type ∷ c.in-Ok.header.sending_time ∷ c.in-Ok.header.seq.0 ∷ c.in-Ok.header.body_len ∷ []) ≡ read_of (text (goal.at.In-Ok c).After-read_at)
paper c = sym (ap read_paper c.in-Ok.is) ∙ c.read_at.ensures

inside : (c : goal.In-Ok) → c.args.at + (28 + c.in-Ok.header.body_len) ≤ length c.args.bytes.now
inside c = read_inside _ _ _ _ _ _ (paper c)

pub overflow_add-first : goal.overflow_add-first
overflow_add-first c = omega (arith, inside (goal.at.overflow_add-first c).In-Ok)

pub overflow_add-behind : goal.overflow_add-behind
overflow_add-behind c = omega (arith, inside (goal.at.overflow_add-behind c).In-Ok)

pub slice_bounds-result-end-in-Ok : goal.slice_bounds-result-end-in-Ok
slice_bounds-result-end-in-Ok c = omega (arith, inside (goal.at.slice_bounds-result-end-in-Ok c).In-Ok)

pub returns-in-Err : goal.returns-in-Err
returns-in-Err c = sym (body_none _ (λ (z : (read_of (text (goal.at.returns-in-Err c).After-read_at)).number ≡ 0). refusal_pos c.in-Err.field-0 (one_number (sym (ap read_paper c.in-Err.is) ∙ c.read_at.ensures) ∙ z)))

pub returns-in-Ok : goal.returns-in-Ok
returns-in-Ok c = read_part _ _ _ _ _ _ (paper (goal.at.returns-in-Ok c).In-Ok)
