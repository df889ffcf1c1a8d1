-- `rest_at`: what it requires says that the frame is whole, so its places are inside; each return
-- cites the outcome of reading behind the sum. Assumes nothing.
use Rattle.std.proofs.Common.{◌≡◌, ℕ, ◌+◌, ◌-◌, List, [], ◌∷◌, take, drop, sym, ap, ◌∙◌}
use Rattle.std.proofs.lemmas.Result.{err_from_is_err_and}
use Rattle.frame_spec.specs.Places.{be_at, be_here, stored_at, part_body, plain_sum}
use Rattle.frame_spec.specs.Outcomes.{accepted, judgement, read_sum, read_judgement, read_frame}
use Rattle.frame_spec.specs.Frame.{msg_type, sending_time, msg_seq_num, body_length, check_sum, plain}
use Rattle.rules.specs.Fields.{judge_of}
use Rattle.rules.specs.Outcomes.{judge_same}
use Rattle.octets.specs.Octets.{sum8}
use Rattle.terms.specs.declared.SessionNumber.{SessionNumber}
use Rattle.terms.specs.Refusals.{refusal_pos}
use Rattle.terms.specs.Paper.{answer}
use Rattle.frame.proofs.rest_at.Goals as goal
use Rattle.frame.proofs.rest_at.Goals.{After-judge, After-at-stored, Else-stored-v, Start}

-- what lies behind the place, as the function was called
abbrev text : goal.Start → List ℕ
text c = drop c.args.at c.args.bytes.now

sum : (c : goal.Start) → c.args.v ≡ sum8 (plain (text c))
sum c = c.requires.1 ∙ plain_sum c.args.at c.args.bytes.now c.args.head.body_len c.requires.0.1

stored : (c : goal.After-at-stored) → c.at-stored.result ≡ check_sum (text (goal.at.After-at-stored c).Start)
stored c = let s = c in c.at-stored.ensures ∙ stored_at s.args.at s.args.bytes.now s.args.head.body_len s.requires.0.1

right : (c : goal.Else-stored-v) → check_sum (text (goal.at.Else-stored-v c).Start) ≡ sum8 (plain (text (goal.at.Else-stored-v c).Start))
right c = sym (stored (goal.at.Else-stored-v c).After-at-stored) ∙ c.if-stored-v.false ∙ sum (goal.at.Else-stored-v c).Start

judged : (c : goal.After-judge) → judgement (text (goal.at.After-judge c).Start) ≡ judge_of c.args.head.kind c.at-sent.result (take (c.args.at + 24 + c.args.head.body_len - (c.args.at + 24)) (drop (c.args.at + 24) c.args.bytes.now))
judged c =
    let s = c in
    judge_same _ _ _ _ _ _ (sym s.requires.0.0) (sym (c.at-sent.ensures ∙ be_at s.args.at s.args.bytes.now 8 4))
    (sym (part_body s.args.at s.args.bytes.now s.args.head.body_len s.requires.0.1))

frame_is : (s : List ℕ) (t time q n : ℕ) → t ≡ msg_type s → time ≡ sending_time s → q ≡ msg_seq_num s → n ≡ body_length s → answer 0 (t ∷ time ∷ q ∷ n ∷ []) ≡ accepted s
frame_is s t time q n a b c d = rw (a, b, c, d)

pub returns-then-stored-v : goal.returns-then-stored-v
returns-then-stored-v c =
    let s = (goal.at.returns-then-stored-v c).Start in
    sym (read_sum _ c.requires.0.2 (λ e. c.if-stored-v.true (stored (goal.at.returns-then-stored-v c).After-at-stored ∙ e ∙ sym (sum s))))

pub returns-in_err-judge : goal.returns-in_err-judge
returns-in_err-judge c =
    let p = err_from_is_err_and c.from_residual.result c.from_residual.ensures.1 in
    rw (p.1, p.2)
    (sym (read_judgement _ c.requires.0.2 (right (goal.at.returns-in_err-judge c).Else-stored-v) _ (judged (goal.at.returns-in_err-judge c).After-judge ∙ sym c.in_err-judge.ensures) (refusal_pos _)))

pub returns : goal.returns
returns c =
    let s = c in
    frame_is _ _ _ _ _ (c.at.ensures ∙ be_here s.args.at s.args.bytes.now 4) (c.at-sent.ensures ∙ be_at s.args.at s.args.bytes.now 8 4)
    (ap (λ (x : SessionNumber). x.0) c.new.ensures ∙ c.at-2.ensures ∙ be_at s.args.at s.args.bytes.now 8 12)
    s.requires.0.1
    ∙ sym (read_frame _ c.requires.0.2 (right (goal.at.returns c).Else-stored-v) (judged (goal.at.returns c).After-judge ∙ sym c.in_ok-judge.ensures))
