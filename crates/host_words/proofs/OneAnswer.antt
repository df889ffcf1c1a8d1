-- For each public function: two answers that its promise allows are equal, so are two later
-- contents of what it is lent, and a refusal leaves that as it was. Assumes nothing.
use mathlib.Core.Path.{refl, sym, ◌∙◌}
use mathlib.Core.List.{[], ◌∷◌}
use Rattle.terms.specs.OneAnswer.{OneAnswer}
use Rattle.terms.specs.OneBuffer.{OneBuffer, RefusedKeeps}
use Rattle.host_words.specs.Told.{Refuses, tells_kept}
use Rattle.host_words.proofs.ledger_in.Reads as ledger-in
use Rattle.host_words.proofs.ledger_in.Kinds as ledger-in-kinds
use Rattle.host_words.proofs.state_of.Reads as state-of
use Rattle.host_words.proofs.state_of.Kinds as state-of-kinds
use Rattle.host_words.proofs.first_asked.Reads as first-asked
use Rattle.host_words.proofs.first_asked.Kinds as first-asked-kinds
use Rattle.host_words.proofs.last_asked.Reads as last-asked
use Rattle.host_words.proofs.last_asked.Kinds as last-asked-kinds
use Rattle.host_words.proofs.keep.Reads as keep
use Rattle.host_words.proofs.keep.Kinds as keep-kinds
use Rattle.host_words.proofs.told_bytes.Reads as told-bytes
use Rattle.host_words.proofs.told_bytes.Kinds as told-bytes-kinds

pub ledger_in_one_answer : OneAnswer _ ledger-in-kinds.ps ledger-in-kinds.r ledger-in.Post
ledger_in_one_answer κs a x y s t p q = p ∙ sym q

pub state_of_one_answer : OneAnswer _ state-of-kinds.ps state-of-kinds.r state-of.Post
state_of_one_answer κs a x y s t p q = p ∙ sym q

pub first_asked_one_answer : OneAnswer _ first-asked-kinds.ps first-asked-kinds.r first-asked.Post
first_asked_one_answer κs a x y s t p q = p ∙ sym q

pub last_asked_one_answer : OneAnswer _ last-asked-kinds.ps last-asked-kinds.r last-asked.Post
last_asked_one_answer κs a x y s t p q = p ∙ sym q

pub keep_one_answer : OneAnswer _ keep-kinds.ps keep-kinds.r keep.Post
keep_one_answer κs a x y s t p q = refl

pub keep_one_buffer : OneBuffer _ keep-kinds.ps keep-kinds.r keep.Post (λ κs s. s.0.now)
keep_one_buffer κs a x y s t p q = p ∙ sym q

pub told_bytes_one_answer : OneAnswer _ told-bytes-kinds.ps told-bytes-kinds.r told-bytes.Post
told_bytes_one_answer κs a x y s t p q = p.answered ∙ sym q.answered

pub told_bytes_one_buffer : OneBuffer _ told-bytes-kinds.ps told-bytes-kinds.r told-bytes.Post (λ κs s. s.1.0.now ∷ [])
told_bytes_one_buffer κs a x y s t p q = p.told ∙ sym q.told

pub told_bytes_refused_keeps : RefusedKeeps _ told-bytes-kinds.ps told-bytes-kinds.r told-bytes.Post (λ κs x. Refuses x) (λ κs a. a.1.0.now ∷ []) (λ κs s. s.1.0.now ∷ [])
told_bytes_refused_keeps κs a x s p w = tells_kept p w
