-- A capture scrubbed while it arrives, of every row of calls of the code on a stream that it
-- opened, refused calls and empty cuts among them: what is written is what cleaning the whole
-- writes, and so are the counts. `Row calls x` says that the stream x comes of the calls, each
-- meeting its promise; `taken` has the joined bytes of the calls not refused; `heard` has what a
-- host then has from its buffers.
use Rattle.std.specs.Prelude.{ℕ, ◌≤◌, ◌≡◌, true, List, [], ◌∷◌, length}
use contract.Lifetimes.{Lfts}
use borrow.Fn.Kinds.{Dens, ended_of, res_t}
use denote.Triple.Clauses.{AtExit}
use Rattle.terms.specs.Paper.{answer}
use Rattle.clean_spec.specs.Clean.{clean_in, clean_of, clean_answer}
use Rattle.stream_spec.specs.declared.Stream.{Stream}
use Rattle.stream_spec.specs.Trace.{Calls, none}
use Rattle.stream_spec.specs.Words.{readings}
use Rattle.stream_spec.proofs.Stream.opened.Reads as opened
use Rattle.stream_spec.proofs.Stream.opened.Kinds as opened-kinds
use Rattle.stream_clean_spec.specs.Trace.{counted, taken, ended, Row, opening, heard, heard_counts, Arrives}
use Rattle.stream_clean_spec.proofs.Arrives as Proofs
use Rattle.stream_clean.proofs.Promised as Promised
use Rattle.host_stream_spec.specs.Lent.{Lent}
use Rattle.host_stream_spec.specs.Washes.{Washes, wash_heard, wash_counted, HostWashes}
use Rattle.host_stream_spec.proofs.Washings as Host
use Rattle.host_stream.proofs.Promised as Follow

-- bytes and counts so far, and the state that the calls leave
pub cleaned_as_it_arrives : (calls : Calls) → Arrives calls
cleaned_as_it_arrives = Proofs.cleaned_as_it_arrives

module _ {calls : Calls} {x : Stream} (row : Row calls x) where
  -- so far the host has the frames that are decided, each scrubbed, end to end
  pub so_far_cleaned : heard row ≡ clean_in (taken calls) (readings (ended calls) (taken calls))
  so_far_cleaned = Proofs.heard_so_far row

  -- and the counts that the calls returned, added up, are those of these frames (`Arrives`)
  pub so_far_counted : heard_counts row ≡ counted calls
  so_far_counted = Proofs.heard_counted row

  -- after the closing call, the cleaned capture
  module _ (e : ended calls ≡ true) where
    pub whole_cleaned : heard row ≡ clean_of (taken calls)
    whole_cleaned = Proofs.heard_whole row e

    -- and the counts that all calls returned add up to those that cleaning the whole returns
    pub whole_counted : (room : ℕ) → length (clean_of (taken calls)) ≤ room
        → answer 0 ((heard_counts row).bytes ∷ (heard_counts row).frames ∷ (heard_counts row).found ∷ []) ≡ clean_answer (taken calls) room
    whole_counted = rw (Proofs.heard_counted row) (Proofs.cleaned_whole calls e).told

-- The same through C and Rust: of what a host has after a row of calls on what rk_stream_open wrote
pub through_clean : {calls : Calls} {k : Lent} (w : Washes calls k) → HostWashes calls k (wash_heard w) (wash_counted w)
through_clean = Host.every_host_cleaning

-- Opening, by the checker's promise of its `ensures`, begins such a row
pub opened_begins : (κs : Lfts 0) (a : Dens κs opened-kinds.ps) (x : (res_t opened-kinds.r κs).Denot) (s : AtExit (ended_of 0 opened-kinds.ps opened-kinds.r) κs) → opened.Post κs a x s → Row none x
opened_begins κs a x s p = opening p

-- and each call lengthens it, in Rattle and through C, where rk_stream_open begins it
data Named : Type 0 where
  named : Named

ties : Calls → Named
ties calls =
    let cut_goes_on = Promised.cut_goes_on {calls = calls} in
    let end_goes_on = Promised.end_goes_on {calls = calls} in
    let host-opening = Follow.open_is_wash_opening in
    let host-clean = Follow.clean_goes_on {calls = calls} in
    let host-clean-close = Follow.clean_close_goes_on {calls = calls} in
    named
