-- A broken session is refused; an ordinary frame that is taken sends nothing; else the verdict
-- decides. Assumes nothing.
use mathlib.Core.Path.{refl, sym, ap, ◌∙◌}
use Rattle.session_spec.specs.Calls.{own_number}
use Rattle.terms.specs.Refusals.{refusal_pos}
use Rattle.session_spec.proofs.Fine.{fits_at}
use Rattle.session_spec.proofs.Outcome.{broken_call, refused_call, done_call}
use Rattle.session.proofs.Taken.{taken_call, taken_fits}
use Rattle.session.specs.Papers.{line_of}
use borrow.Author.Rules.{rules}
use Rattle.session.proofs.Session.turn.Goals as goal

pub returns-then-not-sound : goal.returns-then-not-sound
returns-then-not-sound c =
    let q = broken_call _ _ _ (sym c.sound.ensures ∙ c.if-not-sound.true) in
    (c.refuse.ensures.0 ∙ sym q.0, ap line_of c.refuse.ensures.1 ∙ sym q.1)

pub taken-requires : goal.taken-requires
taken-requires c = taken_fits _ _ _ (sym c.takes.ensures ∙ c.if-takes.true) (search rules)

pub returns-then-takes : goal.returns-then-takes
returns-then-takes c =
    let q = taken_call _ _ _ _ (sym c.sound.ensures ∙ c.if-not-sound.false) c.max-clock.ensures (sym c.takes.ensures ∙ c.if-takes.true) in
    (c.taken.ensures.0 ∙ sym q.0, c.taken.ensures.1 ∙ sym q.1)

pub moved-requires : goal.moved-requires
moved-requires c =
    let q = c.in-Ok.ensures in
    fits_at _ _ _ _ q.0 (q.1 ∙ ap (own_number _ _ _) (sym q.0)) (search rules) (search rules)

pub returns-in-Ok : goal.returns-in-Ok
returns-in-Ok c =
    let q = c.in-Ok.ensures in
    let d = done_call _ _ _ _ _ (sym c.sound.ensures ∙ c.if-not-sound.false) c.max-clock.ensures q.0 (q.1 ∙ ap (own_number _ _ _) (sym q.0)) in
    (c.moved.ensures.0 ∙ sym d.0, c.moved.ensures.1 ∙ sym d.1)

pub returns-in-Err : goal.returns-in-Err
returns-in-Err c =
    let d = refused_call _ _ _ _ _ _ (refusal_pos c.in-Err.why) (sym c.sound.ensures ∙ c.if-not-sound.false) c.max-clock.ensures refl c.in-Err.ensures in
    (c.refuse-in-Err.ensures.0 ∙ sym d.0, ap line_of c.refuse-in-Err.ensures.1 ∙ sym d.1)
