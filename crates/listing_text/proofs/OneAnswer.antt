-- For each public function: two answers that its promise allows are equal, so are two later
-- contents of the buffer lent, and a refusal leaves it as it was. Both promise in one shape, an
-- answer's paper and the contents. Assumes nothing.
use mathlib.Core.Path.{refl, sym, ◌∙◌}
use Rattle.terms.specs.OneAnswer.{OneAnswer}
use Rattle.terms.specs.OneBuffer.{OneBuffer, RefusedKeeps}
use Rattle.octets.specs.Papers.{Refuses, written_one, refused_kept}
use Rattle.listing_text.proofs.put_line.Reads as put-line
use Rattle.listing_text.proofs.put_line.Kinds as put-line-kinds
use Rattle.listing_text.proofs.put_summary.Reads as put-summary
use Rattle.listing_text.proofs.put_summary.Kinds as put-summary-kinds
use Rattle.listing_text.proofs.put_lines.Reads as put-lines
use Rattle.listing_text.proofs.put_lines.Kinds as put-lines-kinds
use Rattle.listing_text.proofs.put_listing.Reads as put-listing
use Rattle.listing_text.proofs.put_listing.Kinds as put-listing-kinds

pub put_line_one_answer : OneAnswer _ put-line-kinds.ps put-line-kinds.r put-line.Post
put_line_one_answer κs a x y s t p q = written_one x y (p.0 ∙ sym q.0)

pub put_line_one_buffer : OneBuffer _ put-line-kinds.ps put-line-kinds.r put-line.Post (λ κs s. s.0.now)
put_line_one_buffer κs a x y s t p q = p.1 ∙ sym q.1

pub put_line_refused_keeps : RefusedKeeps _ put-line-kinds.ps put-line-kinds.r put-line.Post (λ κs x. Refuses x) (λ κs a. a.0.now) (λ κs s. s.0.now)
put_line_refused_keeps κs a x s p w = refused_kept _ _ _ _ _ x refl w p.0 p.1

pub put_summary_one_answer : OneAnswer _ put-summary-kinds.ps put-summary-kinds.r put-summary.Post
put_summary_one_answer κs a x y s t p q = written_one x y (p.0 ∙ sym q.0)

pub put_summary_one_buffer : OneBuffer _ put-summary-kinds.ps put-summary-kinds.r put-summary.Post (λ κs s. s.0.now)
put_summary_one_buffer κs a x y s t p q = p.1 ∙ sym q.1

pub put_summary_refused_keeps : RefusedKeeps _ put-summary-kinds.ps put-summary-kinds.r put-summary.Post (λ κs x. Refuses x) (λ κs a. a.0.now) (λ κs s. s.0.now)
put_summary_refused_keeps κs a x s p w = refused_kept _ _ _ _ _ x refl w p.0 p.1

pub put_lines_one_answer : OneAnswer _ put-lines-kinds.ps put-lines-kinds.r put-lines.Post
put_lines_one_answer κs a x y s t p q = written_one x y (p.0 ∙ sym q.0)

pub put_lines_one_buffer : OneBuffer _ put-lines-kinds.ps put-lines-kinds.r put-lines.Post (λ κs s. s.0.now)
put_lines_one_buffer κs a x y s t p q = p.1 ∙ sym q.1

pub put_lines_refused_keeps : RefusedKeeps _ put-lines-kinds.ps put-lines-kinds.r put-lines.Post (λ κs x. Refuses x) (λ κs a. a.0.now) (λ κs s. s.0.now)
put_lines_refused_keeps κs a x s p w = refused_kept _ _ _ _ _ x refl w p.0 p.1

pub put_listing_one_answer : OneAnswer _ put-listing-kinds.ps put-listing-kinds.r put-listing.Post
put_listing_one_answer κs a x y s t p q = written_one x y (p.0 ∙ sym q.0)

pub put_listing_one_buffer : OneBuffer _ put-listing-kinds.ps put-listing-kinds.r put-listing.Post (λ κs s. s.0.now)
put_listing_one_buffer κs a x y s t p q = p.1 ∙ sym q.1

pub put_listing_refused_keeps : RefusedKeeps _ put-listing-kinds.ps put-listing-kinds.r put-listing.Post (λ κs x. Refuses x) (λ κs a. a.0.now) (λ κs s. s.0.now)
put_listing_refused_keeps κs a x s p w = refused_kept _ _ _ _ _ x refl w p.0 p.1
