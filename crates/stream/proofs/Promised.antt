-- What the promises that the checker makes of `feed` and `close` come to: such calls make a `Row`,
-- and so CR 1 holds of what they hand back and write. Assumes nothing.
use Prim.Native.Nat.{ℕ, ◌*◌, ◌≤◌}
use mathlib.Core.Path.{◌≡◌, refl, sym, ap, ap₂, ◌∙◌}
use mathlib.Core.Bool.{Bool, true, false}
use mathlib.Core.List.{List, [], ◌++◌}
use native.Mathlib.Omega.{arith}
use borrow.Fn.Kinds.{Dens, ended_of, res_t}
use contract.Lifetimes.{Lfts}
use denote.Triple.Clauses.{AtExit}
use lib.Dec.{eqb}
use lib.ListN.{length, take, get_or}
use Rattle.terms.specs.Paper.{Paper, pick, one_number}
use Rattle.octets.specs.Octets.{laid}
use Rattle.octets.specs.Overlays.{take_front}
use Rattle.record.specs.Record.{record_of}
use Rattle.record.specs.RecordLaws.{length_record}
use Rattle.walk_laws.specs.Frames.{joined, each_of, each_joined, each_long}
use Rattle.walk_spec.specs.Walk.{walk_of, table_of}
use Rattle.stream_spec.specs.declared.Stream.{Stream}
use Rattle.stream_spec.specs.declared.Fed.{Fed}
use Rattle.stream_spec.specs.State.{StreamRules}
use Rattle.stream_spec.specs.Calls.{Call, Feed, Close, cut_of, closes, share, number_to, answer_for, leaves_for, records_of}
use Rattle.std.specs.Prelude.{Result, Ok, Err}
use Rattle.std.specs.Result.{result_unwrap_or}
use Rattle.terms.specs.declared.Refusal.{Refusal}
use Rattle.ledger.specs.Papers.{count_paper}
use Rattle.terms.specs.Verdicts.{verdict_number}
use Rattle.stream_spec.specs.CallLaws.{Promised}
use Rattle.stream_spec.specs.Trace.{Calls, ◌▸◌, after, given, taken, ended, Row, opening, one_more, heard}
use Rattle.stream_spec.specs.Words.{decided, number_told, Closed}
use Rattle.stream_spec.proofs.Rules.{rules_facts}
use Rattle.stream_spec.proofs.Cuttings.{every_cutting, closing_call, ran_is}
use Rattle.stream.specs.Standing.{whole, fed_of}
use Rattle.stream.proofs.feed.Reads as feed
use Rattle.stream.proofs.feed.Kinds as feed-kinds
use Rattle.stream.proofs.close.Reads as close
use Rattle.stream.proofs.close.Kinds as close-kinds

-- ---- the code's calls make a row: it begins with `Stream::opened` (`opened_is_opening` of
-- `stream_spec`), and goes on with `feed` and `close`

pub feed_goes_on : {calls : Calls} (κs : Lfts 3) (a : Dens κs feed-kinds.ps) (x : (res_t feed-kinds.r κs).Denot) (s : AtExit (ended_of 3 feed-kinds.ps feed-kinds.r) κs) → Row calls (whole a.0 a.1.0.now) → feed.Post κs a x s
    → Row (calls ▸ record { call = Feed a.1.1.0.now; room = length a.1.1.1.0.now }) (whole x.next s.1.0.now)
feed_goes_on κs a x s row p = one_more (Feed a.1.1.0.now) a.1.1.1.0.now s.1.1.1.0.now (fed_of x s.1.0.now) row p.1 p.0

pub close_goes_on : {calls : Calls} (κs : Lfts 2) (a : Dens κs close-kinds.ps) (x : (res_t close-kinds.r κs).Denot) (s : AtExit (ended_of 2 close-kinds.ps close-kinds.r) κs) → Row calls (whole a.0 a.1.0.now) → close.Post κs a x s
    → Row (calls ▸ record { call = Close; room = length a.1.1.0.now }) (whole x.next s.1.0.now)
close_goes_on κs a x s row p = one_more Close a.1.1.0.now s.1.1.0.now (fed_of x s.1.0.now) row (λ i. omega arith) p

-- ---- what a call says it wrote, and what stands in its buffer

records_by : (a : Result ℕ Refusal) → result_unwrap_or a 0 ≡ get_or (count_paper a).values 0 0
records_by (Ok n) = refl
records_by (Err w) = refl

number_by : (a : Result ℕ Refusal) → verdict_number a ≡ (count_paper a).number
number_by (Ok n) = refl
number_by (Err w) = refl

module _ (x : Stream) (call : Call) (d d' : List ℕ) (r : Fed ℕ) (p : Promised x (closes call) (cut_of call) d d' r) where
  records_are : records_of r ≡ pick (eqb (number_to x call (length d)) 0) (length (share x call)) 0
  unfolding answer_for
  records_are = records_by r.answer ∙ ap (λ (y : Paper). get_or y.values 0 0) p.0

  found_by_lem : (t : Bool) → eqb (number_to x call (length d)) 0 ≡ t → take (64 * records_of r) d' ≡ table_of (pick t (share x call) [])
  unfolding leaves_for joined each_of
  found_by_lem true e =
      let w : d' ≡ laid 0 (table_of (share x call)) d = p.1.1 ∙ rw e in
      rw (records_are, e, w) (take_front (64 * length (share x call)) (table_of (share x call)) d (each_long record_of 64 length_record (share x call)))
  found_by_lem false e = rw (records_are, e)

heard_given : {calls : Calls} {x : Stream} (row : Row calls x) → heard row ≡ table_of (given calls)
unfolding given joined each_of
heard_given (opening e) = refl
heard_given (one_more {calls} {x} call d d' r row b p) =
    ap₂ (λ (a b : List ℕ). a ++ b) (heard_given row) (found_by_lem x call d d' r p _ refl ∙ rw (ran_is row))
    ∙ sym (each_joined record_of (given calls) _)

-- ---- CR 1 of a row

module _ {calls : Calls} {x : Stream} (row : Row calls x) where
  -- the state rules hold of every stream that the code hands back
  pub ran_rules : StreamRules x
  ran_rules = rw (ran_is row) (rules_facts (after calls) (every_cutting calls).rules)

  -- at most 8,191 bytes are kept
  pub ran_few : x.len ≤ 8191
  ran_few = rw (ran_is row) (every_cutting calls).few

  -- the bytes that the host then has are those of the records decided, each once and in their order
  pub ran_heard : heard row ≡ table_of (decided (ended calls) (taken calls))
  ran_heard = heard_given row ∙ ap table_of (every_cutting calls).records

  -- after the closing call records, counts and ledger are the closed walk's over the joined bytes,
  -- and the store is blank
  pub ran_closed : ended calls ≡ true → (given calls ≡ (walk_of (taken calls)).records) × Closed (taken calls) x
  ran_closed e = rw (ran_is row) (closing_call calls e)

  -- one more call of the code
  module _ (call : Call) (d d' : List ℕ) (r : Fed ℕ) (p : Promised x (closes call) (cut_of call) d d' r) where
    -- its number is told from the bytes taken alone
    pub ran_number : verdict_number r.answer ≡ number_told calls call (length d)
    unfolding answer_for
    ran_number = number_by r.answer ∙ one_number p.0 ∙ rw (ran_is row) ((every_cutting calls).numbers call (length d))

    -- where it is 0, its records stand at the front of the buffer, and behind those given before
    -- they make up what is decided
    pub ran_written : number_told calls call (length d) ≡ 0 → (d' ≡ laid 0 (table_of (share (after calls) call)) d) × (given calls ++ share (after calls) call ≡ decided (ended (calls ▸ record { call = call; room = length d })) (taken (calls ▸ record { call = call; room = length d })))
    unfolding leaves_for given
    ran_written z =
        let n : number_to (after calls) call (length d) ≡ 0 = (every_cutting calls).numbers call (length d) ∙ z in
        (p.1.1 ∙ rw (ran_is row, n), sym (rw n) ∙ (every_cutting (calls ▸ record { call = call; room = length d })).records)
