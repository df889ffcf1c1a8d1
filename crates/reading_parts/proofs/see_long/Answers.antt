-- `see_long`: check by check; header and view are those of the front. Assumes nothing.
use Rattle.std.proofs.Common.{◌≡◌, ℕ, List, ◌++◌, sym, ap, ◌∙◌, arith}
use Rattle.terms.specs.declared.SessionNumber.{SessionNumber}
use Rattle.octets.specs.Octets.{sum8}
use Rattle.calendar.specs.Calendar.{real_time}
use Rattle.rules.specs.declared.Kind.{Kind}
use Rattle.rules.specs.Table.{kind_of, kind_is}
use Rattle.rules.specs.Fields.{fields_ok}
use Rattle.frame_spec.specs.Frame.{msg_type, sending_time, body_length, body, plain, check_sum}
use Rattle.reading_parts.specs.LongLaws.{in_front, front_long, view_lent, seen_sum, summed, seen_time, seen_field, seen_fine}
use Rattle.reading_parts.proofs.see_long.Goals as goal
use Rattle.reading_parts.proofs.see_long.Goals.{After-fields_ok, After-is_real, After-from-kind, After-at-body_len, After-at-msg_type, Else-stored_at-sum_of, Start}

abbrev both : goal.Start → List ℕ
both s = s.args.first.now ++ s.args.second.now

len_is : (c : goal.After-at-body_len) → c.at-body_len.result ≡ body_length (both (goal.at.After-at-body_len c).Start)
len_is c = c.at-body_len.ensures ∙ in_front _ _ c.requires 4 20 (omega arith)

right : (c : goal.Else-stored_at-sum_of) → check_sum (both (goal.at.Else-stored_at-sum_of c).Start) ≡ sum8 (plain (both (goal.at.Else-stored_at-sum_of c).Start))
right c = summed _ c.requires.whole _ _ _ (len_is (goal.at.Else-stored_at-sum_of c).After-at-body_len) c.stored_at.ensures c.sum_of.ensures c.if-stored_at-sum_of.false

real : (c : goal.After-is_real) → c.is_real.result ≡ real_time (sending_time (both (goal.at.After-is_real c).Start))
real c = c.is_real.ensures ∙ ap real_time (c.at.ensures ∙ in_front _ _ c.requires 8 4 (omega arith))

type_is : (c : goal.After-at-msg_type) → c.at-msg_type.result ≡ msg_type (both (goal.at.After-at-msg_type c).Start)
type_is c = c.at-msg_type.ensures ∙ in_front _ _ c.requires 4 0 (omega arith)

kind : (c : goal.After-from-kind) → c.from-kind.result ≡ kind_of (msg_type (both (goal.at.After-from-kind c).Start))
kind c = kind_is _ _ c.from-kind.ensures ∙ ap kind_of (type_is (goal.at.After-from-kind c).After-at-msg_type)

judged : (c : goal.After-fields_ok) → c.fields_ok.result ≡ fields_ok (kind_of (msg_type (both (goal.at.After-fields_ok c).Start))) (body (both (goal.at.After-fields_ok c).Start))
judged c = c.fields_ok.ensures ∙ ap (λ (k : Kind). fields_ok k (body (both (goal.at.After-fields_ok c).Start))) (kind (goal.at.After-fields_ok c).After-from-kind)

pub stored_at-requires : goal.stored_at-requires
stored_at-requires c = omega (arith, len_is (goal.at.stored_at-requires c).After-at-body_len, c.requires.whole.there)

pub returns-then-stored_at-sum_of : goal.returns-then-stored_at-sum_of
returns-then-stored_at-sum_of c = c.blank.ensures ∙ seen_sum _ c.requires.whole _ _ _ (len_is (goal.at.returns-then-stored_at-sum_of c).After-at-body_len) c.stored_at.ensures c.sum_of.ensures c.if-stored_at-sum_of.true

pub returns-then-not-is_real : goal.returns-then-not-is_real
returns-then-not-is_real c =
    let r = goal.at.returns-then-not-is_real c in
    c.blank-then-not-is_real.ensures ∙ seen_time _ c.requires.whole (right r.Else-stored_at-sum_of) (sym (real r.After-is_real) ∙ c.if-not-is_real.true)

pub fields_ok-requires : goal.fields_ok-requires
fields_ok-requires c = (c.requires, len_is (goal.at.fields_ok-requires c).After-at-body_len)

pub returns-then-not-fields_ok : goal.returns-then-not-fields_ok
returns-then-not-fields_ok c =
    let r = goal.at.returns-then-not-fields_ok c in
    c.blank-then-not-fields_ok.ensures ∙ seen_field _ c.requires.whole (right r.Else-stored_at-sum_of) (sym (real r.After-is_real) ∙ c.if-not-is_real.false) (sym (judged r.After-fields_ok) ∙ c.if-not-fields_ok.true)

pub slice_bounds-view_of-count : goal.slice_bounds-view_of-count
slice_bounds-view_of-count c = omega (arith, front_long _ _ c.requires)

pub slice_bounds-view_of-start : goal.slice_bounds-view_of-start
slice_bounds-view_of-start c = omega (arith, front_long _ _ c.requires)

pub returns : goal.returns
returns c =
    let r = goal.at.returns c in
    seen_fine _ c.requires.whole (right r.Else-stored_at-sum_of) _ _ _ _ c.view_of-view.result (type_is r.After-at-msg_type)
    (ap (λ (x : SessionNumber). x.0) c.new.ensures ∙ c.at-2.ensures ∙ in_front _ _ c.requires 8 12 (omega arith))
    (len_is r.After-at-body_len) (kind r.After-from-kind) (c.view_of-view.ensures ∙ view_lent _ _ c.requires _)
    (sym (real r.After-is_real) ∙ c.if-not-is_real.false)
    (sym (judged r.After-fields_ok) ∙ c.if-not-fields_ok.false)
