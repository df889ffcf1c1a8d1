-- Demand 1 of STEP frames and market files, as Demand1.antt of `promises` has it.
use Rattle.host_step.proofs.OneAnswer as host_step
use Rattle.market.proofs.OneAnswer as market
use Rattle.market_columns.proofs.OneAnswer as market_columns
use Rattle.market_values.proofs.OneAnswer as market_values
use Rattle.step_frame.proofs.OneAnswer as step_frame
use Rattle.step_scrub.proofs.OneAnswer as step_scrub
use Rattle.step_tags.proofs.OneAnswer as step_tags
use Rattle.host_market.proofs.OneAnswer as host_market
use Rattle.promises_words.specs.Words.{Named, named}

-- "EVERY PUBLIC ENTRY POINT TAKES ALL INPUT"

-- host_step
host_step_answers : Named
host_step_answers =
    let rk_step_read_one_answer = host_step.rk_step_read_one_answer in
    let rk_step_field_one_answer = host_step.rk_step_field_one_answer in
    let rk_step_write_one_answer = host_step.rk_step_write_one_answer in
    let rk_step_scrub_one_answer = host_step.rk_step_scrub_one_answer in
    named

-- market
market_answers : Named
market_answers =
    let due_one_answer = market.due_one_answer in
    let line_type_one_answer = market.line_type_one_answer in
    let LineType_rows_one_answer = market.LineType_rows_one_answer in
    let rows_of_one_answer = market.rows_of_one_answer in
    let U64FromFault_from_one_answer = market.U64FromFault_from_one_answer in
    let check_one_answer = market.check_one_answer in
    named

-- market_columns
market_columns_answers : Named
market_columns_answers =
    let number_at_one_answer = market_columns.number_at_one_answer in
    let column_one_answer = market_columns.column_one_answer in
    let column_ok_one_answer = market_columns.column_ok_one_answer in
    let number_fits_one_answer = market_columns.number_fits_one_answer in
    let put_number_one_answer = market_columns.put_number_one_answer in
    let put_fixed_one_answer = market_columns.put_fixed_one_answer in
    named

-- market_values
market_values_answers : Named
market_values_answers =
    let values_one_answer = market_values.values_one_answer in
    let written_one_answer = market_values.written_one_answer in
    named

-- step_frame
step_frame_answers : Named
step_frame_answers =
    let field_at_one_answer = step_frame.field_at_one_answer in
    let U32FromStepRefusal_from_one_answer = step_frame.U32FromStepRefusal_from_one_answer in
    let read_at_one_answer = step_frame.read_at_one_answer in
    let write_one_answer = step_frame.write_one_answer in
    named

-- step_scrub
step_scrub_answers : Named
step_scrub_answers =
    let scrub_one_answer = step_scrub.scrub_one_answer in
    named

-- step_tags
step_tags_answers : Named
step_tags_answers =
    let is_type_one_answer = step_tags.is_type_one_answer in
    let rows_of_one_answer = step_tags.rows_of_one_answer in
    let needed_by_one_answer = step_tags.needed_by_one_answer in
    let unreal_one_answer = step_tags.unreal_one_answer in
    let fit_one_answer = step_tags.fit_one_answer in
    named

-- host_market
host_market_answers : Named
host_market_answers =
    let FindingFromResultUsizeWrong_from_one_answer = host_market.FindingFromResultUsizeWrong_from_one_answer in
    let rk_market_check_one_answer = host_market.rk_market_check_one_answer in
    let rk_market_values_one_answer = host_market.rk_market_values_one_answer in
    let rk_market_write_one_answer = host_market.rk_market_write_one_answer in
    named

-- "A REFUSAL WRITES NOTHING INTO A LENT BUFFER"

-- host_step
host_step_buffers : Named
host_step_buffers =
    let rk_step_read_one_buffer = host_step.rk_step_read_one_buffer in
    let rk_step_field_one_buffer = host_step.rk_step_field_one_buffer in
    let rk_step_write_one_buffer = host_step.rk_step_write_one_buffer in
    let rk_step_write_refused_keeps = host_step.rk_step_write_refused_keeps in
    let rk_step_scrub_one_buffer = host_step.rk_step_scrub_one_buffer in
    let rk_step_scrub_refused_keeps = host_step.rk_step_scrub_refused_keeps in
    named

-- market_columns
market_columns_buffers : Named
market_columns_buffers =
    let put_number_one_buffer = market_columns.put_number_one_buffer in
    let put_number_refused_keeps = market_columns.put_number_refused_keeps in
    let put_fixed_one_buffer = market_columns.put_fixed_one_buffer in
    let put_fixed_refused_keeps = market_columns.put_fixed_refused_keeps in
    named

-- market_values
market_values_buffers : Named
market_values_buffers =
    let values_one_buffer = market_values.values_one_buffer in
    let values_refused_keeps = market_values.values_refused_keeps in
    let written_one_buffer = market_values.written_one_buffer in
    let written_refused_keeps = market_values.written_refused_keeps in
    named

-- step_frame
step_frame_buffers : Named
step_frame_buffers =
    let write_one_buffer = step_frame.write_one_buffer in
    let write_refused_keeps = step_frame.write_refused_keeps in
    named

-- step_scrub
step_scrub_buffers : Named
step_scrub_buffers =
    let scrub_one_buffer = step_scrub.scrub_one_buffer in
    let scrub_refused_keeps = step_scrub.scrub_refused_keeps in
    named

-- host_market
host_market_buffers : Named
host_market_buffers =
    let rk_market_values_one_buffer = host_market.rk_market_values_one_buffer in
    let rk_market_values_refused_keeps = host_market.rk_market_values_refused_keeps in
    let rk_market_write_one_buffer = host_market.rk_market_write_one_buffer in
    let rk_market_write_refused_keeps = host_market.rk_market_write_refused_keeps in
    named
