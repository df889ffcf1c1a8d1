-- `write`: `may_write` gives the answer; the bytes are stored only where it is 0. Assumes nothing.
use Rattle.std.proofs.Common.{◌≡◌, length, sym, ◌∙◌}
use Rattle.std.proofs.lemmas.Result.{err_from_is_err_and}
use Rattle.frame_spec.specs.WriteLaws.{fit, left_kept, left_laid}
use Rattle.frame_spec.specs.Write.{message, write_of}
use Rattle.terms.specs.Refusals.{refusal_pos}
use Rattle.terms.specs.Paper.{one_number}
use Rattle.frame.proofs.write.Goals as goal
use Rattle.frame.proofs.write.Goals.{In_ok-size}

done : (c : goal.In_ok-size) → (write_of (message c.args.msg_type c.args.sending_time c.args.seq.0 c.args.body.now) (length c.args.out.now)).number ≡ 0
done c = sym (one_number c.in_ok-size.ensures)

pub store-requires : goal.store-requires
store-requires c = (fit _ _ (done (goal.at.store-requires c).In_ok-size)).there

pub returns-in_err-size : goal.returns-in_err-size
returns-in_err-size c =
    let p = err_from_is_err_and c.from_residual.result c.from_residual.ensures.1 in
    rw (p.1, p.2) (c.in_err-size.ensures, sym (left_kept _ _ (λ z. refusal_pos _ (one_number c.in_err-size.ensures ∙ z))))

pub returns : goal.returns
returns c = (c.in_ok-size.ensures, c.store.ensures ∙ sym (left_laid _ _ (done (goal.at.returns c).In_ok-size)))
