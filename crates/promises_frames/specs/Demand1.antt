-- Demand 1 of frames, as Demand1.antt of `promises` has it.
use Rattle.std.specs.Prelude.{ℕ, zero, suc, refl, List, Option, Some, None, Result, Ok, Err}
use Rattle.terms.specs.declared.Refusal.{Refusal}
use Rattle.octets.specs.Papers.{written_paper}
use Rattle.frame_spec.specs.Given.{Reads}
use Rattle.frame.specs.declared.Header.{Header}
use Rattle.frame.specs.Papers.{read_paper, found_paper}
use Rattle.entries.specs.declared.Entry.{Entry}
use Rattle.entries.specs.declared.Entry.TheVariants as an
use Rattle.entries.specs.Papers.{answer_paper}
use Rattle.octets.proofs.OneAnswer as octets
use Rattle.calendar.proofs.OneAnswer as calendar
use Rattle.digits.proofs.OneAnswer as digits
use Rattle.rules.proofs.OneAnswer as rules
use Rattle.frame.proofs.OneAnswer as frame
use Rattle.entries.proofs.OneAnswer as entries
use Rattle.private.proofs.OneAnswer as private
use Rattle.scrub.proofs.OneAnswer as scrub
use Rattle.frame_view.proofs.OneAnswer as frame_view
use Rattle.host_frames.proofs.OneAnswer as host_frames
use Rattle.tails.proofs.OneAnswer as tails
use Rattle.broken.proofs.OneAnswer as broken
use Rattle.promises_words.specs.Words.{Named, named, refusal_in_table, in_table, Numbered, done, refused}

-- "EVERY PUBLIC ENTRY POINT TAKES ALL INPUT"

-- octets
octets_answers : Named
octets_answers =
    let U8Number_at_one_answer = octets.U8Number_at_one_answer in
    let U16Number_at_one_answer = octets.U16Number_at_one_answer in
    let U32Number_at_one_answer = octets.U32Number_at_one_answer in
    let letters_at_one_answer = octets.letters_at_one_answer in
    let U64Number_at_one_answer = octets.U64Number_at_one_answer in
    let sum_one_answer = octets.sum_one_answer in
    let sum_after_one_answer = octets.sum_after_one_answer in
    let has_room_one_answer = octets.has_room_one_answer in
    let fill_one_answer = octets.fill_one_answer in
    let put_one_answer = octets.put_one_answer in
    let lay_one_answer = octets.lay_one_answer in
    named

-- calendar
calendar_answers : Named
calendar_answers =
    let is_real_one_answer = calendar.is_real_one_answer in
    named

-- digits
digits_answers : Named
digits_answers =
    let put_digits_one_answer = digits.put_digits_one_answer in
    let put_decimal_one_answer = digits.put_decimal_one_answer in
    let digits_at_one_answer = digits.digits_at_one_answer in
    let decimal_at_one_answer = digits.decimal_at_one_answer in
    named

-- rules
rules_answers : Named
rules_answers =
    let KindFromU32_from_one_answer = rules.KindFromU32_from_one_answer in
    let is_known_one_answer = rules.is_known_one_answer in
    let measure_one_answer = rules.measure_one_answer in
    let layout_of_one_answer = rules.layout_of_one_answer in
    let pair_ok_one_answer = rules.pair_ok_one_answer in
    let suits_tail_one_answer = rules.suits_tail_one_answer in
    named

-- rules: the field rules
fields_answers : Named
fields_answers =
    let judge_one_answer = rules.judge_one_answer in
    let fields_ok_one_answer = rules.fields_ok_one_answer in
    let m102_fixed_ok_one_answer = rules.m102_fixed_ok_one_answer in
    let entry_size_one_answer = rules.entry_size_one_answer in
    let entry_ok_one_answer = rules.entry_ok_one_answer in
    named

-- frame
frame_answers : Named
frame_answers =
    let read_at_one_answer = frame.read_at_one_answer in
    let body_at_one_answer = frame.body_at_one_answer in
    let write_one_answer = frame.write_one_answer in
    let search_one_answer = frame.search_one_answer in
    named

-- entries
entries_answers : Named
entries_answers =
    let open_at_one_answer = entries.open_at_one_answer in
    let reader_of_one_answer = entries.reader_of_one_answer in
    let reader_of_one_reader = entries.reader_of_one_reader in
    let Entries_step_one_answer = entries.Entries_step_one_answer in
    let EntriesIterator_next_one_answer = entries.EntriesIterator_next_one_answer in
    let step_from_one_answer = entries.step_from_one_answer in
    named

-- private
private_answers : Named
private_answers =
    let parts_in_one_answer = private.parts_in_one_answer in
    let private_span_one_answer = private.private_span_one_answer in
    named

-- scrub
scrub_answers : Named
scrub_answers =
    let scrub_into_one_answer = scrub.scrub_into_one_answer in
    let scrub_one_answer = scrub.scrub_one_answer in
    named

-- frame_view
view_answers : Named
view_answers =
    let view_of_one_answer = frame_view.view_of_one_answer in
    named

-- host_frames
host_answers : Named
host_answers =
    let rk_read_one_answer = host_frames.rk_read_one_answer in
    let rk_write_one_answer = host_frames.rk_write_one_answer in
    let rk_search_one_answer = host_frames.rk_search_one_answer in
    let rk_scrub_one_answer = host_frames.rk_scrub_one_answer in
    let rk_private_one_answer = host_frames.rk_private_one_answer in
    let rk_entries_one_answer = host_frames.rk_entries_one_answer in
    let rk_entry_one_answer = host_frames.rk_entry_one_answer in
    named

-- digits
digits_answers_more : Named
digits_answers_more =
    let width_one_answer = digits.width_one_answer in
    named

-- host_frames
host_frames_answers : Named
host_frames_answers =
    let rk_tail_field_one_answer = host_frames.rk_tail_field_one_answer in
    let rk_broken_field_one_answer = host_frames.rk_broken_field_one_answer in
    named

-- tails
tails_answers : Named
tails_answers =
    let tail_field_one_answer = tails.tail_field_one_answer in
    named

-- broken
broken_answers : Named
broken_answers =
    let broken_field_one_answer = broken.broken_field_one_answer in
    named

-- "AND REFUSES WHAT IT CAN'T USE WITH A NUMBER FROM DOCUMENT 01"

pub read_numbered : (x : Result Header Refusal) → Numbered (read_paper x).number
read_numbered (Ok h) = done refl
read_numbered (Err w) = refused (refusal_in_table w)

pub written_numbered : (x : Result ℕ Refusal) → Numbered (written_paper x).number
written_numbered (Ok n) = done refl
written_numbered (Err w) = refused (refusal_in_table w)

pub found_numbered : (x : Result (Option ℕ) Refusal) → Numbered (found_paper x).number
found_numbered (Ok (Some p)) = done refl
found_numbered (Ok None) = done refl
found_numbered (Err w) = refused (refusal_in_table w)

pub entry_numbered : (x : Result Entry Refusal) → Numbered (answer_paper x).number
entry_numbered (Ok (an.Short kind price)) = done refl
entry_numbered (Ok (an.Long kind price size position)) = done refl
entry_numbered (Err w) = refused (refusal_in_table w)

-- what reading answers
pub reads_numbered : (n : ℕ) (s : List ℕ) → Reads n s → Numbered n
unfolding in_table
reads_numbered zero s h = done refl
reads_numbered (suc zero) s h = refused refl
reads_numbered (suc (suc zero)) s h = refused refl
reads_numbered (suc (suc (suc zero))) s h = refused refl
reads_numbered (suc (suc (suc (suc zero)))) s h = refused refl
reads_numbered (suc (suc (suc (suc (suc zero))))) s h = refused refl
reads_numbered (suc (suc (suc (suc (suc (suc zero)))))) s h = refused refl
reads_numbered (suc (suc (suc (suc (suc (suc (suc zero))))))) s h = refused refl
reads_numbered (suc (suc (suc (suc (suc (suc (suc (suc n)))))))) s h = absurd h

-- "A REFUSAL WRITES NOTHING INTO A LENT BUFFER"

octets_buffers : Named
octets_buffers =
    let fill_one_buffer = octets.fill_one_buffer in
    let put_one_buffer = octets.put_one_buffer in
    let put_refused_keeps = octets.put_refused_keeps in
    let lay_one_buffer = octets.lay_one_buffer in
    let lay_refused_keeps = octets.lay_refused_keeps in
    named

digits_buffers : Named
digits_buffers =
    let put_digits_one_buffer = digits.put_digits_one_buffer in
    let put_digits_refused_keeps = digits.put_digits_refused_keeps in
    let put_decimal_one_buffer = digits.put_decimal_one_buffer in
    let put_decimal_refused_keeps = digits.put_decimal_refused_keeps in
    named

frame_buffers : Named
frame_buffers =
    let write_one_buffer = frame.write_one_buffer in
    let write_refused_keeps = frame.write_refused_keeps in
    named

-- the reader itself is lent to a step
entries_buffers : Named
entries_buffers =
    let Entries_step_one_buffer = entries.Entries_step_one_buffer in
    let Entries_step_refused_keeps = entries.Entries_step_refused_keeps in
    let EntriesIterator_next_one_buffer = entries.EntriesIterator_next_one_buffer in
    let EntriesIterator_next_refused_keeps = entries.EntriesIterator_next_refused_keeps in
    named

scrub_buffers : Named
scrub_buffers =
    let scrub_into_one_buffer = scrub.scrub_into_one_buffer in
    let scrub_into_refused_keeps = scrub.scrub_into_refused_keeps in
    let scrub_one_buffer = scrub.scrub_one_buffer in
    let scrub_refused_keeps = scrub.scrub_refused_keeps in
    named

-- of all that a function of host_frames is lent: told row and buffer
host_buffers : Named
host_buffers =
    let rk_read_one_buffer = host_frames.rk_read_one_buffer in
    let rk_read_refused_keeps = host_frames.rk_read_refused_keeps in
    let rk_write_one_buffer = host_frames.rk_write_one_buffer in
    let rk_write_refused_keeps = host_frames.rk_write_refused_keeps in
    let rk_search_one_buffer = host_frames.rk_search_one_buffer in
    let rk_search_refused_keeps = host_frames.rk_search_refused_keeps in
    let rk_scrub_one_buffer = host_frames.rk_scrub_one_buffer in
    let rk_scrub_refused_keeps = host_frames.rk_scrub_refused_keeps in
    let rk_private_one_buffer = host_frames.rk_private_one_buffer in
    let rk_private_refused_keeps = host_frames.rk_private_refused_keeps in
    let rk_entries_one_buffer = host_frames.rk_entries_one_buffer in
    let rk_entries_refused_keeps = host_frames.rk_entries_refused_keeps in
    let rk_entry_one_buffer = host_frames.rk_entry_one_buffer in
    let rk_entry_refused_keeps = host_frames.rk_entry_refused_keeps in
    named

-- host_frames
host_frames_buffers : Named
host_frames_buffers =
    let rk_tail_field_one_buffer = host_frames.rk_tail_field_one_buffer in
    let rk_broken_field_one_buffer = host_frames.rk_broken_field_one_buffer in
    let rk_broken_field_refused_keeps = host_frames.rk_broken_field_refused_keeps in
    named
