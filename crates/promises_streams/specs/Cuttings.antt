-- CR 1, of every row of calls of the code on a stream that it opened, refused calls and empty cuts
-- among them. `Row calls x` says that the stream x comes of the calls, each meeting its promise.
-- `taken` has "the joined bytes of the calls not refused", `ended` says whether the closing call is
-- among those, and `heard` has what a host then has from its buffers. No capture is too long:
-- `number_told` knows no such number.
use Rattle.std.specs.Prelude.{ℕ, ◌^◌, ◌≤◌, ◌<◌, ◌≡◌, true, refl, List, ◌++◌, length, drop, Result, Ok, Err}
use Rattle.std.proofs.Common.{sym, ◌∙◌, arith}
use Rattle.std.proofs.Math.Path.{ap}
use Rattle.ledger.specs.State.{book_of, ledger_of}
use Rattle.listing_text.specs.Text.{summary_of}
use Rattle.frame_spec.specs.Frame.{read_of}
use Rattle.walk_spec.specs.Walk.{sights, table_of}
use Rattle.walk_spec.specs.Records.{Covers}
use Rattle.walk_spec.specs.Literal.{Walk, literal_walk}
use Rattle.walk_spec.proofs.LiteralLaws.{literal_walk_lem}
use Rattle.listing_text.specs.Whole.{lines_of, listing_of}
use Rattle.listing_text.specs.Laws.{listing_table}
use Rattle.listing_text.specs.Fit.{walk_fits}
use Rattle.listing_text.specs.Listed.{last_at, listed_of, walked_book}
use Rattle.stream_spec.specs.declared.Stream.{Stream}
use Rattle.stream_spec.specs.declared.Fed.{Fed}
use Rattle.stream_spec.specs.State.{head_of, StreamRules}
use Rattle.stream_spec.specs.Calls.{Call, cut_of, closes}
use Rattle.terms.specs.declared.Refusal.{Refusal}
use Rattle.terms.specs.Verdicts.{verdict_number}
use Rattle.stream_spec.specs.CallLaws.{Promised}
use Rattle.stream_spec.specs.Answers.{refused_leaves, refused_stream}
use Rattle.stream_spec.specs.Trace.{Calls, after, given, taken, ended, Row, heard}
use Rattle.stream_spec.specs.Words.{wait_at, decided, number_told}
use Rattle.stream_spec.proofs.Rules.{rules_facts}
use Rattle.stream_spec.proofs.Cuttings.{every_cutting, one_state, ran_is, ran_bytes, waits_there, waits_first}
use Rattle.stream_spec.proofs.Promised as Opened
use Rattle.stream.proofs.Promised as Promised
use Rattle.host_stream_spec.specs.Lent.{Lent}
use Rattle.host_stream_spec.specs.Rows.{Followed, HostFollows}
use Rattle.host_stream.proofs.Promised as Follow
use Rattle.host_stream_spec.proofs.Cuttings.{every_host_cutting}
use Rattle.stream.proofs.Promised.{ran_rules, ran_few, ran_heard, ran_closed, ran_number}

-- an answer that is not 0 is a refusal
refusal_in : (x : Result ℕ Refusal) → (verdict_number x ≡ 0 → ⊥) → (w : Refusal) × (x ≡ Err w)
refusal_in (Ok n) f = absurd (f refl)
refusal_in (Err w) f = (w, refl)

-- a place that "waits for more": `wait_at` is such a place, or the end, and every one before it
-- lies inside a frame that was read
pub waits_for_more : (s : List ℕ) → wait_at s < length s → (read_of (drop (wait_at s) s)).number ≡ 1
waits_for_more = waits_there

pub waits_at_first : (s : List ℕ) (i : ℕ) → i < wait_at s → (read_of (drop i s)).number ≡ 1 → Covers i (sights s)
waits_at_first = waits_first

module _ {calls : Calls} {x : Stream} (row : Row calls x) where
  -- so far the host has the records below that place; after the closing call, all
  pub so_far : heard row ≡ table_of (decided (ended calls) (taken calls))
  so_far = ran_heard row

  -- the bytes taken have places of 64 bits
  taken_fits : length (taken calls) < 256 ^ 8
  taken_fits = omega (arith, (every_cutting calls).places, (rules_facts (after calls) (every_cutting calls).rules).places)

  -- after the closing call ledger, records and listing are those of the closed walk over
  -- the bytes taken
  module _ (e : ended calls ≡ true) where
    pub same_ledger : x.tally.ledger ≡ ledger_of (literal_walk (taken calls)).ledger
    same_ledger = (ran_closed row e).1.ledger ∙ ap (λ (w : Walk). ledger_of w.ledger) (sym (literal_walk_lem (taken calls)))

    -- records given, counts and ledger are those of the walk in document 01's own words
    pub same_walk : ◌≡◌ {A = Walk} (record { records = given calls; frames = x.tally.frames; refused = x.tally.refused; ledger = book_of x.tally.ledger }) (literal_walk (taken calls))
    same_walk =
        let s = taken calls in
        let c = ran_closed row e in
        let b : book_of x.tally.ledger ≡ (literal_walk s).ledger = ap book_of same_ledger ∙ walked_book s in
        rw (b, c.0, c.1.frames, c.1.refused) (sym (rw (literal_walk_lem s)))

    pub same_records : heard row ≡ table_of (literal_walk (taken calls)).records
    same_records = so_far ∙ ap table_of (sym (every_cutting calls).records ∙ ap (λ (w : Walk). w.records) same_walk)

    pub same_listing : lines_of (given calls) ++ summary_of (last_at x.tally.frames x.tally.refused (book_of x.tally.ledger)) ≡ listed_of (taken calls)
    unfolding listed_of
    same_listing = ap (λ (w : Walk). lines_of w.records ++ summary_of (last_at w.frames w.refused w.ledger)) same_walk

    -- and so is the text that `listing_text::put_listing` makes of the bytes that the host has
    pub same_text : listing_of (heard row) (last_at x.tally.frames x.tally.refused (book_of x.tally.ledger)) ≡ listed_of (taken calls)
    same_text =
        let s = taken calls in
        let last = last_at x.tally.frames x.tally.refused (book_of x.tally.ledger) in
        let g : (literal_walk s).records ≡ given calls = ap (λ (w : Walk). w.records) (sym same_walk) in
        ap (λ (b : List ℕ). listing_of b last) same_records
        ∙ listing_table (literal_walk s).records last (walk_fits s (ran_bytes row) taken_fits)
        ∙ rw g same_listing

  -- "at most 8,191 bytes" wait between calls: the last of the bytes taken
  pub few_kept : x.len ≤ 8191
  few_kept = ran_few row

  pub last_kept : head_of x.len x.kept ≡ drop x.place (taken calls)
  last_kept = rw (ran_is row) (every_cutting calls).keeps_last

  pub stream_rules : StreamRules x
  stream_rules = ran_rules row

  module _ (call : Call) (d d' : List ℕ) (r : Fed ℕ) (p : Promised x (closes call) (cut_of call) d d' r) where
    -- the number of a further call, by the calls before it: 19, then 29, then 8
    pub its_number : verdict_number r.answer ≡ number_told calls call (length d)
    its_number = ran_number row call d d' r p

    -- beside a refusal "nothing changes"
    pub nothing_changes : (verdict_number r.answer ≡ 0 → ⊥) → (r.stream ≡ x) × (d' ≡ d)
    nothing_changes n =
        let w = refusal_in r.answer n in
        (refused_stream x (closes call) (cut_of call) d d' r p w, refused_leaves x (closes call) (cut_of call) d d' r p w)

-- "for every cutting", before the closing call too: the same bytes taken leave one stream, and one
-- row of records
pub one_outcome : {calls others : Calls} {x y : Stream} (row : Row calls x) (other : Row others y) → taken calls ≡ taken others → ended calls ≡ ended others
    → (x ≡ y) × (heard row ≡ heard other)
one_outcome {calls} {others} row other t e =
    (ran_is row ∙ one_state calls others t e ∙ sym (ran_is other), so_far row ∙ rw (t, e) (sym (so_far other)))

-- The same through C and Rust: of what a host has after a row of calls on what rk_stream_open wrote
pub through_follow : {calls : Calls} {k : Lent} → Followed calls k → HostFollows calls k
through_follow = every_host_cutting

-- that opening and each call of the code, by the checker's promise of its `ensures`, begin such a
-- row and lengthen it
data Named : Type 0 where
  named : Named

ties : Calls → Named
ties calls =
    let opened_is_opening = Opened.opened_is_opening in
    let feed_goes_on = Promised.feed_goes_on {calls = calls} in
    let close_goes_on = Promised.close_goes_on {calls = calls} in
    let host-opening = Follow.open_is_opening in
    let host-feed = Follow.feed_goes_on {calls = calls} in
    let host-close = Follow.close_goes_on {calls = calls} in
    named
