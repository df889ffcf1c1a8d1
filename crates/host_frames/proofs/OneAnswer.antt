-- For each function: two answers that its promise allows are equal; so are two later contents of
-- all that it is lent, and a refusal leaves them as they were. What a function is lent is put in
-- one list, told row first, then buffer. Assumes nothing.
use mathlib.Core.Path.{sym, ap₂, ◌∙◌}
use mathlib.Core.List.{[], ◌∷◌}
use Rattle.terms.specs.OneAnswer.{OneAnswer}
use Rattle.terms.specs.OneBuffer.{OneBuffer, RefusedKeeps}
use Rattle.frame_spec.specs.WriteLaws.{left_kept}
use Rattle.host_words.specs.Told.{both, Refuses, tells_kept}
use Rattle.host_frames.proofs.Kept.{scrub_kept}
use Rattle.host_frames.proofs.rk_read.Reads as rk-read
use Rattle.host_frames.proofs.rk_read.Kinds as rk-read-kinds
use Rattle.host_frames.proofs.rk_write.Reads as rk-write
use Rattle.host_frames.proofs.rk_write.Kinds as rk-write-kinds
use Rattle.host_frames.proofs.rk_search.Reads as rk-search
use Rattle.host_frames.proofs.rk_search.Kinds as rk-search-kinds
use Rattle.host_frames.proofs.rk_scrub.Reads as rk-scrub
use Rattle.host_frames.proofs.rk_scrub.Kinds as rk-scrub-kinds
use Rattle.host_frames.proofs.rk_private.Reads as rk-private
use Rattle.host_frames.proofs.rk_private.Kinds as rk-private-kinds
use Rattle.host_frames.proofs.rk_tail_field.Reads as rk-tail-field
use Rattle.host_frames.proofs.rk_tail_field.Kinds as rk-tail-field-kinds
use Rattle.host_frames.proofs.rk_broken_field.Reads as rk-broken-field
use Rattle.host_frames.proofs.rk_broken_field.Kinds as rk-broken-field-kinds
use Rattle.host_frames.proofs.rk_entries.Reads as rk-entries
use Rattle.host_frames.proofs.rk_entries.Kinds as rk-entries-kinds
use Rattle.host_frames.proofs.rk_entry.Reads as rk-entry
use Rattle.host_frames.proofs.rk_entry.Kinds as rk-entry-kinds

pub rk_read_one_answer : OneAnswer _ rk-read-kinds.ps rk-read-kinds.r rk-read.Post
rk_read_one_answer κs a x y s t p q = p.answered ∙ sym q.answered

pub rk_read_one_buffer : OneBuffer _ rk-read-kinds.ps rk-read-kinds.r rk-read.Post (λ κs s. s.1.1.0.now)
rk_read_one_buffer κs a x y s t p q = p.told ∙ sym q.told

pub rk_read_refused_keeps : RefusedKeeps _ rk-read-kinds.ps rk-read-kinds.r rk-read.Post (λ κs x. Refuses x) (λ κs a. a.1.1.0.now) (λ κs s. s.1.1.0.now)
rk_read_refused_keeps κs a x s p w = tells_kept p w

pub rk_write_one_answer : OneAnswer _ rk-write-kinds.ps rk-write-kinds.r rk-write.Post
rk_write_one_answer κs a x y s t p q = p.0.answered ∙ sym q.0.answered

pub rk_write_one_buffer : OneBuffer _ rk-write-kinds.ps rk-write-kinds.r rk-write.Post (λ κs s. both (s.1.1.1.1.1.0.now ∷ []) s.1.1.1.1.0.now)
rk_write_one_buffer κs a x y s t p q = ap₂ both (p.0.told ∙ sym q.0.told) (p.1 ∙ sym q.1)

pub rk_write_refused_keeps : RefusedKeeps _ rk-write-kinds.ps rk-write-kinds.r rk-write.Post (λ κs x. Refuses x) (λ κs a. both (a.1.1.1.1.1.0.now ∷ []) a.1.1.1.1.0.now) (λ κs s. both (s.1.1.1.1.1.0.now ∷ []) s.1.1.1.1.0.now)
rk_write_refused_keeps κs a x s p w = ap₂ both (tells_kept p.0 w) (p.1 ∙ left_kept _ _ (λ z. w (p.0.answered ∙ z)))

pub rk_search_one_answer : OneAnswer _ rk-search-kinds.ps rk-search-kinds.r rk-search.Post
rk_search_one_answer κs a x y s t p q = p.answered ∙ sym q.answered

pub rk_search_one_buffer : OneBuffer _ rk-search-kinds.ps rk-search-kinds.r rk-search.Post (λ κs s. s.1.1.0.now)
rk_search_one_buffer κs a x y s t p q = p.told ∙ sym q.told

pub rk_search_refused_keeps : RefusedKeeps _ rk-search-kinds.ps rk-search-kinds.r rk-search.Post (λ κs x. Refuses x) (λ κs a. a.1.1.0.now) (λ κs s. s.1.1.0.now)
rk_search_refused_keeps κs a x s p w = tells_kept p w

pub rk_scrub_one_answer : OneAnswer _ rk-scrub-kinds.ps rk-scrub-kinds.r rk-scrub.Post
rk_scrub_one_answer κs a x y s t p q = p.0.answered ∙ sym q.0.answered

pub rk_scrub_one_buffer : OneBuffer _ rk-scrub-kinds.ps rk-scrub-kinds.r rk-scrub.Post (λ κs s. both (s.1.0.now ∷ []) s.0.now)
rk_scrub_one_buffer κs a x y s t p q = ap₂ both (p.0.told ∙ sym q.0.told) (p.1 ∙ sym q.1)

pub rk_scrub_refused_keeps : RefusedKeeps _ rk-scrub-kinds.ps rk-scrub-kinds.r rk-scrub.Post (λ κs x. Refuses x) (λ κs a. both (a.1.0.now ∷ []) a.0.now) (λ κs s. both (s.1.0.now ∷ []) s.0.now)
rk_scrub_refused_keeps κs a x s p w = ap₂ both (tells_kept p.0 w) (p.1 ∙ scrub_kept _ (λ z. w (p.0.answered ∙ z)))

pub rk_private_one_answer : OneAnswer _ rk-private-kinds.ps rk-private-kinds.r rk-private.Post
rk_private_one_answer κs a x y s t p q = p.answered ∙ sym q.answered

pub rk_private_one_buffer : OneBuffer _ rk-private-kinds.ps rk-private-kinds.r rk-private.Post (λ κs s. s.1.1.1.0.now)
rk_private_one_buffer κs a x y s t p q = p.told ∙ sym q.told

pub rk_private_refused_keeps : RefusedKeeps _ rk-private-kinds.ps rk-private-kinds.r rk-private.Post (λ κs x. Refuses x) (λ κs a. a.1.1.1.0.now) (λ κs s. s.1.1.1.0.now)
rk_private_refused_keeps κs a x s p w = tells_kept p w

pub rk_tail_field_one_answer : OneAnswer _ rk-tail-field-kinds.ps rk-tail-field-kinds.r rk-tail-field.Post
rk_tail_field_one_answer κs a x y s t p q = p.answered ∙ sym q.answered

pub rk_tail_field_one_buffer : OneBuffer _ rk-tail-field-kinds.ps rk-tail-field-kinds.r rk-tail-field.Post (λ κs s. s.1.1.0.now)
rk_tail_field_one_buffer κs a x y s t p q = p.told ∙ sym q.told

pub rk_tail_field_refused_keeps : RefusedKeeps _ rk-tail-field-kinds.ps rk-tail-field-kinds.r rk-tail-field.Post (λ κs x. Refuses x) (λ κs a. a.1.1.0.now) (λ κs s. s.1.1.0.now)
rk_tail_field_refused_keeps κs a x s p w = tells_kept p w

pub rk_broken_field_one_answer : OneAnswer _ rk-broken-field-kinds.ps rk-broken-field-kinds.r rk-broken-field.Post
rk_broken_field_one_answer κs a x y s t p q = p.answered ∙ sym q.answered

pub rk_broken_field_one_buffer : OneBuffer _ rk-broken-field-kinds.ps rk-broken-field-kinds.r rk-broken-field.Post (λ κs s. s.1.1.0.now)
rk_broken_field_one_buffer κs a x y s t p q = p.told ∙ sym q.told

pub rk_broken_field_refused_keeps : RefusedKeeps _ rk-broken-field-kinds.ps rk-broken-field-kinds.r rk-broken-field.Post (λ κs x. Refuses x) (λ κs a. a.1.1.0.now) (λ κs s. s.1.1.0.now)
rk_broken_field_refused_keeps κs a x s p w = tells_kept p w

pub rk_entries_one_answer : OneAnswer _ rk-entries-kinds.ps rk-entries-kinds.r rk-entries.Post
rk_entries_one_answer κs a x y s t p q = p.answered ∙ sym q.answered

pub rk_entries_one_buffer : OneBuffer _ rk-entries-kinds.ps rk-entries-kinds.r rk-entries.Post (λ κs s. s.1.0.now ∷ [])
rk_entries_one_buffer κs a x y s t p q = p.told ∙ sym q.told

pub rk_entries_refused_keeps : RefusedKeeps _ rk-entries-kinds.ps rk-entries-kinds.r rk-entries.Post (λ κs x. Refuses x) (λ κs a. a.1.0.now ∷ []) (λ κs s. s.1.0.now ∷ [])
rk_entries_refused_keeps κs a x s p w = tells_kept p w

pub rk_entry_one_answer : OneAnswer _ rk-entry-kinds.ps rk-entry-kinds.r rk-entry.Post
rk_entry_one_answer κs a x y s t p q = p.answered ∙ sym q.answered

pub rk_entry_one_buffer : OneBuffer _ rk-entry-kinds.ps rk-entry-kinds.r rk-entry.Post (λ κs s. s.1.1.0.now)
rk_entry_one_buffer κs a x y s t p q = p.told ∙ sym q.told

pub rk_entry_refused_keeps : RefusedKeeps _ rk-entry-kinds.ps rk-entry-kinds.r rk-entry.Post (λ κs x. Refuses x) (λ κs a. a.1.1.0.now) (λ κs s. s.1.1.0.now)
rk_entry_refused_keeps κs a x s p w = tells_kept p w
