-- Demand 1, sentence by sentence. "Every public entry point takes all input, ends": no public
-- function has a `requires` (the gate's tools/promises looks), and the checker accepts a function
-- only where it ends and does nothing undefined for all input that its contract admits. What is
-- left to say are the answers.
use Rattle.reading.specs.declared.Seen.{Seen}
use Rattle.reading.specs.Seen.{seen_number}
use Rattle.terms.proofs.OneAnswer as terms
use Rattle.record.proofs.OneAnswer as «record»
use Rattle.listing_text.proofs.OneAnswer as listing_text
use Rattle.reading.proofs.OneAnswer as reading
use Rattle.walk_step.proofs.OneAnswer as walk_step
use Rattle.walk.proofs.OneAnswer as walk
use Rattle.clean.proofs.OneAnswer as clean
use Rattle.host_captures.proofs.OneAnswer as host_captures
use Rattle.promises_words.specs.Words.{Named, named, Numbered, verdict_numbered}

-- "EVERY PUBLIC ENTRY POINT TAKES ALL INPUT": of each public function, the theorem that its promise
-- fixes the answer for all input. (tools/promises compares these lists, and those of the files of
-- this name in `promises_frames`, `promises_ledger` and so on, with the public functions.)

-- terms
terms_answers : Named
terms_answers =
    let SessionNumber-new-one-answer = terms.SessionNumber-new-one-answer in
    let SessionNumber-value-one-answer = terms.SessionNumber-value-one-answer in
    let TickNumber-new-one-answer = terms.TickNumber-new-one-answer in
    let TickNumber-value-one-answer = terms.TickNumber-value-one-answer in
    let ChannelNumber-new-one-answer = terms.ChannelNumber-new-one-answer in
    let ChannelNumber-value-one-answer = terms.ChannelNumber-value-one-answer in
    let U32FromRefusal_from_one_answer = terms.U32FromRefusal_from_one_answer in
    let number_of_one_answer = terms.number_of_one_answer in
    named

-- record
record_answers : Named
record_answers =
    let put_one_answer = «record».put_one_answer in
    let record_at_one_answer = «record».record_at_one_answer in
    named

-- listing_text: single lines
report_answers : Named
report_answers =
    let put_line_one_answer = listing_text.put_line_one_answer in
    let put_summary_one_answer = listing_text.put_summary_one_answer in
    named

-- reading
seen_answers : Named
seen_answers =
    let blank_one_answer = reading.blank_one_answer in
    let see_one_answer = reading.see_one_answer in
    named

-- walk_step: an offer
offers_answers : Named
offers_answers =
    let offer_one_answer = walk_step.offer_one_answer in
    named

-- walk_step: the table of records, and the next reading
table_answers : Named
table_answers =
    let onward_one_answer = walk_step.onward_one_answer in
    let made_one_answer = walk_step.made_one_answer in
    let note_one_answer = walk_step.note_one_answer in
    named

-- walk
walk_answers : Named
walk_answers =
    let walk_one_answer = walk.walk_one_answer in
    named

-- listing_text: a whole listing
lines_answers : Named
lines_answers =
    let put_lines_one_answer = listing_text.put_lines_one_answer in
    let put_listing_one_answer = listing_text.put_listing_one_answer in
    named

-- clean
clean_answers : Named
clean_answers =
    let clean_one_answer = clean.clean_one_answer in
    let is_clean_one_answer = clean.is_clean_one_answer in
    named

-- host_captures
host_captures_answers : Named
host_captures_answers =
    let rk_walk_one_answer = host_captures.rk_walk_one_answer in
    let rk_record_one_answer = host_captures.rk_record_one_answer in
    let rk_lines_one_answer = host_captures.rk_lines_one_answer in
    let rk_listing_one_answer = host_captures.rk_listing_one_answer in
    let rk_clean_one_answer = host_captures.rk_clean_one_answer in
    let rk_is_clean_one_answer = host_captures.rk_is_clean_one_answer in
    named

-- "AND REFUSES WHAT IT CAN'T USE WITH A NUMBER FROM DOCUMENT 01"

-- what is seen at a place
pub seen_numbered : (x : Seen) → Numbered (seen_number x)
seen_numbered x = verdict_numbered x.answer

-- "A REFUSAL WRITES NOTHING INTO A LENT BUFFER": of each function that is lent one, that its later
-- contents are fixed, and that a refusal leaves them.

record_buffers : Named
record_buffers =
    let put_one_buffer = «record».put_one_buffer in
    let put_refused_keeps = «record».put_refused_keeps in
    named

report_buffers : Named
report_buffers =
    let put_line_one_buffer = listing_text.put_line_one_buffer in
    let put_line_refused_keeps = listing_text.put_line_refused_keeps in
    let put_summary_one_buffer = listing_text.put_summary_one_buffer in
    let put_summary_refused_keeps = listing_text.put_summary_refused_keeps in
    named

table_buffers : Named
table_buffers =
    let note_one_buffer = walk_step.note_one_buffer in
    named

walk_buffers : Named
walk_buffers =
    let walk_one_buffer = walk.walk_one_buffer in
    let walk_refused_keeps = walk.walk_refused_keeps in
    named

lines_buffers : Named
lines_buffers =
    let put_lines_one_buffer = listing_text.put_lines_one_buffer in
    let put_lines_refused_keeps = listing_text.put_lines_refused_keeps in
    let put_listing_one_buffer = listing_text.put_listing_one_buffer in
    let put_listing_refused_keeps = listing_text.put_listing_refused_keeps in
    named

clean_buffers : Named
clean_buffers =
    let clean_one_buffer = clean.clean_one_buffer in
    let clean_refused_keeps = clean.clean_refused_keeps in
    named

host_captures_buffers : Named
host_captures_buffers =
    let rk_walk_one_buffer = host_captures.rk_walk_one_buffer in
    let rk_walk_refused_keeps = host_captures.rk_walk_refused_keeps in
    let rk_record_one_buffer = host_captures.rk_record_one_buffer in
    let rk_record_refused_keeps = host_captures.rk_record_refused_keeps in
    let rk_lines_one_buffer = host_captures.rk_lines_one_buffer in
    let rk_lines_refused_keeps = host_captures.rk_lines_refused_keeps in
    let rk_listing_one_buffer = host_captures.rk_listing_one_buffer in
    let rk_listing_refused_keeps = host_captures.rk_listing_refused_keeps in
    let rk_clean_one_buffer = host_captures.rk_clean_one_buffer in
    let rk_clean_refused_keeps = host_captures.rk_clean_refused_keeps in
    let rk_is_clean_one_buffer = host_captures.rk_is_clean_one_buffer in
    let rk_is_clean_refused_keeps = host_captures.rk_is_clean_refused_keeps in
    named
