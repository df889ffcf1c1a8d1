-- Demand 1 for the functions of a stream: `promises/specs/Demand1.antt` tells what is said here.
use Rattle.std.specs.Prelude.{ℕ, refl, Result, Ok, Err}
use Rattle.terms.specs.declared.Refusal.{Refusal}
use Rattle.ledger.specs.Papers.{count_paper}
use Rattle.stream_spec.specs.declared.Fed.{Fed}
use Rattle.stream_spec.specs.Calls.{fed_paper}
use Rattle.stream_clean_spec.specs.declared.Sums.{Sums}
use Rattle.stream_clean_spec.specs.Calls.{washed_paper, summed_paper}
use Rattle.reading_parts.proofs.OneAnswer as reading_parts
use Rattle.stream_spec.proofs.OneAnswer as stream_spec
use Rattle.stream.proofs.OneAnswer as stream
use Rattle.stream_clean.proofs.OneAnswer as stream_clean
use Rattle.host_stream.proofs.OneAnswer as host_stream
use Rattle.promises_words.specs.Words.{Named, named, refusal_in_table, Numbered, done, refused}

-- EVERY ANSWER

-- reading_parts
parts_answers : Named
parts_answers =
    let see_one_answer = reading_parts.see_one_answer in
    named

-- stream_spec
flow_answers : Named
flow_answers =
    let Stream-opened-one-answer = stream_spec.Stream-opened-one-answer in
    named

-- stream
stream_answers : Named
stream_answers =
    let may_take_one_answer = stream.may_take_one_answer in
    let keep_rest_one_answer = stream.keep_rest_one_answer in
    let waits_one_answer = stream.waits_one_answer in
    let passes_one_answer = stream.passes_one_answer in
    let feed_one_answer = stream.feed_one_answer in
    let close_one_answer = stream.close_one_answer in
    named

-- stream_clean
stream_clean_answers : Named
stream_clean_answers =
    let clean_cut_one_answer = stream_clean.clean_cut_one_answer in
    let clean_end_one_answer = stream_clean.clean_end_one_answer in
    named

-- host_stream
follow_answers : Named
follow_answers =
    let rk_stream_open_one_answer = host_stream.rk_stream_open_one_answer in
    let rk_stream_feed_one_answer = host_stream.rk_stream_feed_one_answer in
    let rk_stream_close_one_answer = host_stream.rk_stream_close_one_answer in
    let rk_stream_clean_one_answer = host_stream.rk_stream_clean_one_answer in
    let rk_stream_clean_close_one_answer = host_stream.rk_stream_clean_close_one_answer in
    named

-- EVERY NUMBER

-- the calls of a stream
counted_numbered : (x : Result ℕ Refusal) → Numbered (count_paper x).number
counted_numbered (Ok n) = done refl
counted_numbered (Err w) = refused (refusal_in_table w)

pub stream_numbered : (x : Fed ℕ) → Numbered (fed_paper x).number
stream_numbered x = counted_numbered x.answer

summed_numbered : (x : Result Sums Refusal) → Numbered (summed_paper x).number
summed_numbered (Ok s) = done refl
summed_numbered (Err w) = refused (refusal_in_table w)

pub stream_clean_numbered : (x : Fed Sums) → Numbered (washed_paper x).number
stream_clean_numbered x = summed_numbered x.answer

-- EVERY BUFFER

stream_buffers : Named
stream_buffers =
    let keep_rest_one_buffer = stream.keep_rest_one_buffer in
    let feed_one_buffer = stream.feed_one_buffer in
    let feed_refused_keeps = stream.feed_refused_keeps in
    let close_one_buffer = stream.close_one_buffer in
    let close_refused_keeps = stream.close_refused_keeps in
    named

stream_clean_buffers : Named
stream_clean_buffers =
    let clean_cut_one_buffer = stream_clean.clean_cut_one_buffer in
    let clean_cut_refused_keeps = stream_clean.clean_cut_refused_keeps in
    let clean_end_one_buffer = stream_clean.clean_end_one_buffer in
    let clean_end_refused_keeps = stream_clean.clean_end_refused_keeps in
    named

follow_buffers : Named
follow_buffers =
    let rk_stream_open_one_buffer = host_stream.rk_stream_open_one_buffer in
    let rk_stream_open_refused_keeps = host_stream.rk_stream_open_refused_keeps in
    let rk_stream_feed_one_buffer = host_stream.rk_stream_feed_one_buffer in
    let rk_stream_feed_refused_keeps = host_stream.rk_stream_feed_refused_keeps in
    let rk_stream_close_one_buffer = host_stream.rk_stream_close_one_buffer in
    let rk_stream_close_refused_keeps = host_stream.rk_stream_close_refused_keeps in
    let rk_stream_clean_one_buffer = host_stream.rk_stream_clean_one_buffer in
    let rk_stream_clean_refused_keeps = host_stream.rk_stream_clean_refused_keeps in
    let rk_stream_clean_close_one_buffer = host_stream.rk_stream_clean_close_one_buffer in
    let rk_stream_clean_close_refused_keeps = host_stream.rk_stream_clean_close_refused_keeps in
    named
