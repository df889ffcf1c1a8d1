-- A stream that the code opens begins a row of calls. Assumes nothing.
use borrow.Fn.Kinds.{Dens, ended_of, res_t}
use contract.Lifetimes.{Lfts}
use denote.Triple.Clauses.{AtExit}
use Rattle.stream_spec.specs.Trace.{none, Row, opening}
use Rattle.stream_spec.proofs.Stream.opened.Reads as opened
use Rattle.stream_spec.proofs.Stream.opened.Kinds as opened-kinds

pub opened_is_opening : (κs : Lfts 0) (a : Dens κs opened-kinds.ps) (x : (res_t opened-kinds.r κs).Denot) (s : AtExit (ended_of 0 opened-kinds.ps opened-kinds.r) κs) → opened.Post κs a x s → Row none x
opened_is_opening κs a x s p = opening p
