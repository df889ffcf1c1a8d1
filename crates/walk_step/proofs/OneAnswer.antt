-- Two answers that one promise allows are equal, and so are two final contents of a buffer.
-- Assumes nothing.
use mathlib.Core.Path.{sym, ap₂, ◌∙◌, refl}
use Rattle.std.specs.Prelude.{Result, ⊤}
use Rattle.terms.specs.declared.Refusal.{Refusal}
use Rattle.terms.proofs.Verdicts.{verdict_one}
use Rattle.terms.specs.OneAnswer.{OneAnswer}
use Rattle.ledger.specs.declared.Ledger.{Ledger}
use Rattle.walk_step.proofs.offer.Reads as offer
use Rattle.walk_step.proofs.offer.Kinds as offer-kinds
use Rattle.terms.specs.OneBuffer.{OneBuffer}
use Rattle.walk_step.proofs.made.Reads as made
use Rattle.walk_step.proofs.made.Kinds as made-kinds
use Rattle.walk_step.proofs.note.Reads as note
use Rattle.walk_step.proofs.note.Kinds as note-kinds
use Rattle.walk_step.proofs.onward.Reads as onward
use Rattle.walk_step.proofs.onward.Kinds as onward-kinds

pub offer_one_answer : OneAnswer _ offer-kinds.ps offer-kinds.r offer.Post
offer_one_answer κs a x y s t p q =
    ap₂ (λ (l : Ledger) (r : Result ⊤ Refusal). record { next = l; answer = r }) (p.1 ∙ sym q.1) (verdict_one x.answer y.answer (p.0 ∙ sym q.0))

pub made_one_answer : OneAnswer _ made-kinds.ps made-kinds.r made.Post
made_one_answer κs a x y s t p q = p ∙ sym q

pub note_one_answer : OneAnswer _ note-kinds.ps note-kinds.r note.Post
note_one_answer κs a x y s t p q = refl

pub note_one_buffer : OneBuffer _ note-kinds.ps note-kinds.r note.Post (λ κs s. s.0.now)
note_one_buffer κs a x y s t p q = p ∙ sym q

pub onward_one_answer : OneAnswer _ onward-kinds.ps onward-kinds.r onward.Post
onward_one_answer κs a x y s t p q = p ∙ sym q
