-- What the promises that the checker makes of `clean_cut` and `clean_end` come to: such calls make
-- a `Row`, and so `cleaned_as_it_arrives` holds of what they hand back and write. Assumes nothing.
use borrow.Fn.Kinds.{Dens, ended_of, res_t}
use contract.Lifetimes.{Lfts}
use denote.Triple.Clauses.{AtExit}
use lib.ListN.{length}
use Rattle.stream_spec.specs.Calls.{Feed, Close}
use Rattle.stream_spec.specs.Trace.{Calls, ◌▸◌}
use Rattle.stream.specs.Standing.{whole, fed_of}
use Rattle.stream_clean_spec.specs.Trace.{Row, one_more}
use Rattle.stream_clean.proofs.clean_cut.Reads as clean-cut
use Rattle.stream_clean.proofs.clean_cut.Kinds as clean-cut-kinds
use Rattle.stream_clean.proofs.clean_end.Reads as clean_End
use Rattle.stream_clean.proofs.clean_end.Kinds as clean-end-kinds

pub cut_goes_on : {calls : Calls} (κs : Lfts 3) (a : Dens κs clean-cut-kinds.ps) (x : (res_t clean-cut-kinds.r κs).Denot) (s : AtExit (ended_of 3 clean-cut-kinds.ps clean-cut-kinds.r) κs) → Row calls (whole a.0 a.1.0.now) → clean-cut.Post κs a x s
    → Row (calls ▸ record { call = Feed a.1.1.0.now; room = length a.1.1.1.0.now }) (whole x.next s.1.0.now)
cut_goes_on κs a x s row p = one_more (Feed a.1.1.0.now) a.1.1.1.0.now s.1.1.1.0.now (fed_of x s.1.0.now) row p

pub end_goes_on : {calls : Calls} (κs : Lfts 2) (a : Dens κs clean-end-kinds.ps) (x : (res_t clean-end-kinds.r κs).Denot) (s : AtExit (ended_of 2 clean-end-kinds.ps clean-end-kinds.r) κs) → Row calls (whole a.0 a.1.0.now) → clean_End.Post κs a x s
    → Row (calls ▸ record { call = Close; room = length a.1.1.0.now }) (whole x.next s.1.0.now)
end_goes_on κs a x s row p = one_more Close a.1.1.0.now s.1.1.0.now (fed_of x s.1.0.now) row p
