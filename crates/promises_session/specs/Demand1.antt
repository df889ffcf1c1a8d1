-- Demand 1 of a session, as Demand1.antt of `promises` has it.
use Rattle.host_session.proofs.OneAnswer as host_session
use Rattle.session.proofs.OneAnswer as session
use Rattle.promises_words.specs.Words.{Named, named}

-- "EVERY PUBLIC ENTRY POINT TAKES ALL INPUT"

-- host_session
host_session_answers : Named
host_session_answers =
    let rk_session_open_one_answer = host_session.rk_session_open_one_answer in
    let rk_session_begin_one_answer = host_session.rk_session_begin_one_answer in
    let rk_session_time_one_answer = host_session.rk_session_time_one_answer in
    let rk_session_leave_one_answer = host_session.rk_session_leave_one_answer in
    let rk_session_ask_one_answer = host_session.rk_session_ask_one_answer in
    let rk_session_receive_one_answer = host_session.rk_session_receive_one_answer in
    let rk_session_may_send_one_answer = host_session.rk_session_may_send_one_answer in
    named

-- session
session_answers : Named
session_answers =
    let RefusalFromFault_from_one_answer = session.RefusalFromFault_from_one_answer in
    let Session-opened-one-answer = session.Session-opened-one-answer in
    let Session-turn-one-answer = session.Session-turn-one-answer in
    let Session-may-send-one-answer = session.Session-may-send-one-answer in
    let Session-received-one-answer = session.Session-received-one-answer in
    let told_by_one_answer = session.told_by_one_answer in
    named

-- "A REFUSAL WRITES NOTHING INTO A LENT BUFFER"

-- host_session
host_session_buffers : Named
host_session_buffers =
    let rk_session_open_one_buffer = host_session.rk_session_open_one_buffer in
    let rk_session_begin_one_buffer = host_session.rk_session_begin_one_buffer in
    let rk_session_time_one_buffer = host_session.rk_session_time_one_buffer in
    let rk_session_leave_one_buffer = host_session.rk_session_leave_one_buffer in
    let rk_session_ask_one_buffer = host_session.rk_session_ask_one_buffer in
    let rk_session_receive_one_buffer = host_session.rk_session_receive_one_buffer in
    named
