-- For each public function: two answers that its promise allows are equal; where it is lent a
-- buffer, so are two later contents of it, and a refusal leaves it as it was. Assumes nothing.
use Rattle.std.proofs.Common.{sym, ◌∙◌}
use Rattle.terms.specs.OneAnswer.{OneAnswer, OneContent}
use Rattle.terms.specs.OneBuffer.{OneBuffer, RefusedKeeps}
use Rattle.octets.specs.Papers.{Refuses, written_one}
use Rattle.frame.specs.Papers.{read_one, found_one}
use Rattle.frame_spec.specs.WriteLaws.{refused_left}
use Rattle.frame.proofs.read_at.Reads as read_at
use Rattle.frame.proofs.read_at.Kinds as read-at-kinds
use Rattle.frame.proofs.body_at.Reads as body_at
use Rattle.frame.proofs.body_at.Kinds as body-at-kinds
use Rattle.frame.proofs.write.Reads as write
use Rattle.frame.proofs.write.Kinds as write-kinds
use Rattle.frame.proofs.search.Reads as search-reads
use Rattle.frame.proofs.search.Kinds as search-kinds

pub read_at_one_answer : OneAnswer _ read-at-kinds.ps read-at-kinds.r read_at.Post
read_at_one_answer κs a x y s t p q = read_one x y (p ∙ sym q)

-- the bytes of the part that is handed back
pub body_at_one_answer : OneContent _ body-at-kinds.ps body-at-kinds.r body_at.Post (λ κs x. x.now)
body_at_one_answer κs a x y s t p q = p ∙ sym q

pub write_one_answer : OneAnswer _ write-kinds.ps write-kinds.r write.Post
write_one_answer κs a x y s t p q = written_one x y (p.0 ∙ sym q.0)

pub search_one_answer : OneAnswer _ search-kinds.ps search-kinds.r search-reads.Post
search_one_answer κs a x y s t p q = found_one x y (p ∙ sym q)

pub write_one_buffer : OneBuffer _ write-kinds.ps write-kinds.r write.Post (λ κs s. s.1.1.1.1.0.now)
write_one_buffer κs a x y s t p q = p.1 ∙ sym q.1

pub write_refused_keeps : RefusedKeeps _ write-kinds.ps write-kinds.r write.Post (λ κs x. Refuses x) (λ κs a. a.1.1.1.1.0.now) (λ κs s. s.1.1.1.1.0.now)
write_refused_keeps κs a x s p w = refused_left _ _ _ x w p.0 p.1
