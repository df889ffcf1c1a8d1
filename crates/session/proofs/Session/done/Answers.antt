-- Field by field. The sums fit, as is required. Assumes nothing.
use mathlib.Core.Bool.{Bool, true, false}
use mathlib.Core.Path.{◌≡◌, refl, sym, ap, ◌∙◌}
use mir.Val.{bool_byte}
use Rattle.terms.specs.Paper.{pick}
use Rattle.session_spec.specs.Table.{is_frame, sends}
use Rattle.session_spec.specs.Calls.{one, kind_in, done}
use Rattle.session.specs.Papers.{kind_of, event_of, cell_word}
use Rattle.session.specs.declared.Kind.{Kind}
use Rattle.session.specs.declared.Kind.TheVariants.{S001, S002, S003, P002}
use Rattle.std.specs.Prelude.{Option, Some, None, is_some}
use Rattle.session.proofs.Session.done.Goals as goal
use Rattle.session.proofs.Session.done.Goals.{then-sends, else-sends, then-frame, else-frame}

byte_is : (b : Bool) → bool_byte b ≡ one b
byte_is true = refl
byte_is false = refl

sends_is : (k : Option Kind) → is_some k ≡ sends (kind_of k)
sends_is None = refl
sends_is (Some S001) = refl
sends_is (Some S002) = refl
sends_is (Some S003) = refl
sends_is (Some P002) = refl

pub returns : goal.returns
unfolding done
returns c =
    let a = c.args in
    let s : c.is_some-sends.result ≡ sends (kind_in (cell_word a.cell)) = c.is_some-sends.ensures ∙ sends_is c.kind.result ∙ ap sends c.kind.ensures in
    let f : c.is_some-frame.result ≡ is_frame (event_of a.event) = c.is_some-frame.ensures ∙ c.frame_number.ensures.0 in
    let sent : c.if-sends.result ≡ pick c.is_some-sends.result a.clock a.self.sent = elim c.if-sends.branch [ then-sends w ↦ w.result-is ∙ sym (rw w.if-sends.true) | else-sends w ↦ w.result-is ∙ sym (rw w.if-sends.false) ] in
    let heard : c.if-frame.result ≡ pick c.is_some-frame.result a.clock a.self.heard = elim c.if-frame.branch [ then-frame w ↦ w.result-is ∙ sym (rw w.if-frame.true) | else-frame w ↦ w.result-is ∙ sym (rw w.if-frame.false) ] in
    rw (c.state.ensures, c.new.ensures, c.new-2.ensures, c.from.ensures, c.from-2.ensures, c.value.ensures, c.value-2.ensures, c.interval_after.ensures, sent, heard, s, f, byte_is (sends (kind_in (cell_word a.cell))), byte_is (is_frame (event_of a.event)))
