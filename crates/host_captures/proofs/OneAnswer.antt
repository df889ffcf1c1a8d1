-- For each function: two answers that its promise allows are equal; so are two later contents of
-- all that it is lent, and a refusal leaves them as they were. What a function is lent is put in
-- one list, told row first, then words, then buffer. Assumes nothing.
use mathlib.Core.Path.{sym, ap₂, ◌∙◌}
use mathlib.Core.List.{[], ◌∷◌}
use Rattle.terms.specs.OneAnswer.{OneAnswer}
use Rattle.terms.specs.OneBuffer.{OneBuffer, RefusedKeeps}
use Rattle.host_words.specs.Told.{both, Refuses, tells_kept}
use Rattle.host_captures.proofs.Kept.{walk_kept, walk_left, clean_kept, lines_kept, listing_kept}
use Rattle.host_captures.proofs.rk_walk.Reads as rk-walk
use Rattle.host_captures.proofs.rk_walk.Kinds as rk-walk-kinds
use Rattle.host_captures.proofs.rk_record.Reads as rk-record
use Rattle.host_captures.proofs.rk_record.Kinds as rk-record-kinds
use Rattle.host_captures.proofs.rk_lines.Reads as rk-lines
use Rattle.host_captures.proofs.rk_lines.Kinds as rk-lines-kinds
use Rattle.host_captures.proofs.rk_listing.Reads as rk-listing
use Rattle.host_captures.proofs.rk_listing.Kinds as rk-listing-kinds
use Rattle.host_captures.proofs.rk_clean.Reads as rk-clean
use Rattle.host_captures.proofs.rk_clean.Kinds as rk-clean-kinds
use Rattle.host_captures.proofs.rk_is_clean.Reads as rk-is-clean
use Rattle.host_captures.proofs.rk_is_clean.Kinds as rk-is-clean-kinds

pub rk_walk_one_answer : OneAnswer _ rk-walk-kinds.ps rk-walk-kinds.r rk-walk.Post
rk_walk_one_answer κs a x y s t p q = p.0.answered ∙ sym q.0.answered

pub rk_walk_one_buffer : OneBuffer _ rk-walk-kinds.ps rk-walk-kinds.r rk-walk.Post (λ κs s. both s.1.1.1.0.now (both s.1.1.0.now s.1.0.now))
rk_walk_one_buffer κs a x y s t p q = ap₂ both (p.0.told ∙ sym q.0.told) (ap₂ both (p.1.0 ∙ sym q.1.0) (p.1.1 ∙ sym q.1.1))

pub rk_walk_refused_keeps : RefusedKeeps _ rk-walk-kinds.ps rk-walk-kinds.r rk-walk.Post (λ κs x. Refuses x) (λ κs a. both a.1.1.1.0.now (both a.1.1.0.now a.1.0.now)) (λ κs s. both s.1.1.1.0.now (both s.1.1.0.now s.1.0.now))
rk_walk_refused_keeps κs a x s p w = ap₂ both (tells_kept p.0 w) (ap₂ both (p.1.0 ∙ walk_kept _ a.1.0.now (λ z. w (p.0.answered ∙ z)) a.1.1.0.now) (p.1.1 ∙ walk_left _ _ (λ z. w (p.0.answered ∙ z))))

pub rk_record_one_answer : OneAnswer _ rk-record-kinds.ps rk-record-kinds.r rk-record.Post
rk_record_one_answer κs a x y s t p q = p.answered ∙ sym q.answered

pub rk_record_one_buffer : OneBuffer _ rk-record-kinds.ps rk-record-kinds.r rk-record.Post (λ κs s. s.1.0.now)
rk_record_one_buffer κs a x y s t p q = p.told ∙ sym q.told

pub rk_record_refused_keeps : RefusedKeeps _ rk-record-kinds.ps rk-record-kinds.r rk-record.Post (λ κs x. Refuses x) (λ κs a. a.1.0.now) (λ κs s. s.1.0.now)
rk_record_refused_keeps κs a x s p w = tells_kept p w

pub rk_lines_one_answer : OneAnswer _ rk-lines-kinds.ps rk-lines-kinds.r rk-lines.Post
rk_lines_one_answer κs a x y s t p q = p.0.answered ∙ sym q.0.answered

pub rk_lines_one_buffer : OneBuffer _ rk-lines-kinds.ps rk-lines-kinds.r rk-lines.Post (λ κs s. both (s.1.1.0.now ∷ []) s.1.0.now)
rk_lines_one_buffer κs a x y s t p q = ap₂ both (p.0.told ∙ sym q.0.told) (p.1 ∙ sym q.1)

pub rk_lines_refused_keeps : RefusedKeeps _ rk-lines-kinds.ps rk-lines-kinds.r rk-lines.Post (λ κs x. Refuses x) (λ κs a. both (a.1.1.0.now ∷ []) a.1.0.now) (λ κs s. both (s.1.1.0.now ∷ []) s.1.0.now)
rk_lines_refused_keeps κs a x s p w = ap₂ both (tells_kept p.0 w) (p.1 ∙ lines_kept _ _ (λ z. w (p.0.answered ∙ z)))

pub rk_listing_one_answer : OneAnswer _ rk-listing-kinds.ps rk-listing-kinds.r rk-listing.Post
rk_listing_one_answer κs a x y s t p q = p.0.answered ∙ sym q.0.answered

pub rk_listing_one_buffer : OneBuffer _ rk-listing-kinds.ps rk-listing-kinds.r rk-listing.Post (λ κs s. both (s.1.1.1.1.1.0.now ∷ []) s.1.1.1.1.0.now)
rk_listing_one_buffer κs a x y s t p q = ap₂ both (p.0.told ∙ sym q.0.told) (p.1 ∙ sym q.1)

pub rk_listing_refused_keeps : RefusedKeeps _ rk-listing-kinds.ps rk-listing-kinds.r rk-listing.Post (λ κs x. Refuses x) (λ κs a. both (a.1.1.1.1.1.0.now ∷ []) a.1.1.1.1.0.now) (λ κs s. both (s.1.1.1.1.1.0.now ∷ []) s.1.1.1.1.0.now)
rk_listing_refused_keeps κs a x s p w = ap₂ both (tells_kept p.0 w) (p.1 ∙ listing_kept _ _ _ _ _ (λ z. w (p.0.answered ∙ z)))

pub rk_clean_one_answer : OneAnswer _ rk-clean-kinds.ps rk-clean-kinds.r rk-clean.Post
rk_clean_one_answer κs a x y s t p q = p.0.answered ∙ sym q.0.answered

pub rk_clean_one_buffer : OneBuffer _ rk-clean-kinds.ps rk-clean-kinds.r rk-clean.Post (λ κs s. both s.1.1.0.now s.1.0.now)
rk_clean_one_buffer κs a x y s t p q = ap₂ both (p.0.told ∙ sym q.0.told) (p.1 ∙ sym q.1)

pub rk_clean_refused_keeps : RefusedKeeps _ rk-clean-kinds.ps rk-clean-kinds.r rk-clean.Post (λ κs x. Refuses x) (λ κs a. both a.1.1.0.now a.1.0.now) (λ κs s. both s.1.1.0.now s.1.0.now)
rk_clean_refused_keeps κs a x s p w = ap₂ both (tells_kept p.0 w) (p.1 ∙ clean_kept _ _ (λ z. w (p.0.answered ∙ z)))

pub rk_is_clean_one_answer : OneAnswer _ rk-is-clean-kinds.ps rk-is-clean-kinds.r rk-is-clean.Post
rk_is_clean_one_answer κs a x y s t p q = p.answered ∙ sym q.answered

pub rk_is_clean_one_buffer : OneBuffer _ rk-is-clean-kinds.ps rk-is-clean-kinds.r rk-is-clean.Post (λ κs s. s.1.0.now)
rk_is_clean_one_buffer κs a x y s t p q = p.told ∙ sym q.told

pub rk_is_clean_refused_keeps : RefusedKeeps _ rk-is-clean-kinds.ps rk-is-clean-kinds.r rk-is-clean.Post (λ κs x. Refuses x) (λ κs a. a.1.0.now) (λ κs s. s.1.0.now)
rk_is_clean_refused_keeps κs a x s p w = tells_kept p w
