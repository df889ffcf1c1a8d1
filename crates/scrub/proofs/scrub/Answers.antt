-- `scrub`: reading's refusal is passed on; of a frame that reads, its paper tells the type and the
-- length that it is scrubbed by, and CheckSum's last byte the sum. Assumes nothing.
use Rattle.std.proofs.Common.{◌≡◌, ◌+◌, ◌≤◌, length, get_or, sym, ap, ◌∙◌, arith}
use Rattle.std.proofs.lemmas.Result.{err_from_is_err_and}
use Rattle.private.specs.Laws.{answer_refused, refused_same}
use Rattle.private.proofs.Laws.{answer_as, read_there, read_suits, read_sum, read_small, read_scrubs}
use Rattle.frame_spec.specs.Outcomes.{read_done, read_values, read_length}
use Rattle.frame_spec.specs.Frame.{msg_type, body_length, read_of}
use Rattle.rules.specs.Table.{kind_of, kind_is}
use Rattle.terms.specs.Refusals.{refusal_pos}
use Rattle.terms.specs.Paper.{Paper, one_number}
use Rattle.scrub.proofs.scrub.Goals as goal
use Rattle.scrub.proofs.scrub.Goals.{After-from-kind}

-- of a frame that reads: it does, its type, and its length
done : (c : goal.After-from-kind) → (read_of c.args.buf.now).number ≡ 0
done c = read_done _ _ _ _ _ c.in_ok-header.ensures

kind : (c : goal.After-from-kind) → c.from-kind.result ≡ kind_of (msg_type c.args.buf.now)
kind c =
    kind_is _ _ c.from-kind.ensures ∙ ap (λ (p : Paper). kind_of (get_or p.values 0 0)) (read_values _ _ _ _ _ c.in_ok-header.ensures)

len : (c : goal.After-from-kind) → c.in_ok-header.header.body_len ≡ body_length c.args.buf.now
len c = read_length _ _ _ _ _ c.in_ok-header.ensures

there : (c : goal.After-from-kind) → 28 + c.in_ok-header.header.body_len ≤ length c.args.buf.now
there c = read_there _ (done c) _ _ (kind c) (len c)

pub overflow_add-header : goal.overflow_add-header
overflow_add-header c = omega (arith, there (goal.at.overflow_add-header c).After-from-kind)

pub repaint-requires : goal.repaint-requires
repaint-requires c =
    let s = (goal.at.repaint-requires c).After-from-kind in (
      there s,
      (
        read_suits _ (done s) _ _ (kind s) (len s),
        (c.at-v.ensures ∙ read_sum _ (done s) _ _ (kind s) (len s), read_small _ (done s) _ _ (kind s) (len s)),
      ),
    )

pub overflow_add-result : goal.overflow_add-result
overflow_add-result c = omega (arith, there (goal.at.overflow_add-result c).After-from-kind)

pub returns-in_err-header : goal.returns-in_err-header
returns-in_err-header c =
    let p = err_from_is_err_and c.from_residual.result c.from_residual.ensures.1 in
    let ne : (read_of c.args.buf.now).number ≡ 0 → ⊥ = λ z. refusal_pos _ (one_number c.in_err-header.ensures ∙ z) in
    rw (p.1, p.2) (c.in_err-header.ensures ∙ answer_refused _ ne, sym (refused_same _ ne))

pub returns : goal.returns
returns c =
    let s = (goal.at.returns c).After-from-kind in
    (answer_as _ (done s) _ (len s), c.repaint.ensures ∙ read_scrubs _ (done s) _ _ (kind s) (len s))
