-- Demand 1 of the table of channels and of the month's page, as Demand1.antt of `promises` has it.
use Rattle.channels.proofs.OneAnswer as channels
use Rattle.host_channels.proofs.OneAnswer as host_channels
use Rattle.host_month.proofs.OneAnswer as host_month
use Rattle.month.proofs.OneAnswer as month
use Rattle.promises_words.specs.Words.{Named, named}

-- "EVERY PUBLIC ENTRY POINT TAKES ALL INPUT"

-- channels, host_channels
channels_answers : Named
channels_answers =
    let Index-turn-to-one-answer = channels.Index-turn-to-one-answer in
    let Row-answered-one-answer = channels.Row-answered-one-answer in
    let Channels-none-one-answer = channels.Channels-none-one-answer in
    let rk_channels_one_answer = host_channels.rk_channels_one_answer in
    named

-- host_month
host_month_answers : Named
host_month_answers =
    let rk_month_start_one_answer = host_month.rk_month_start_one_answer in
    let rk_month_add_one_answer = host_month.rk_month_add_one_answer in
    named

-- month
month_answers : Named
month_answers =
    let Month-started-one-answer = month.Month-started-one-answer in
    let Month-added-one-answer = month.Month-added-one-answer in
    named

-- "A REFUSAL WRITES NOTHING INTO A LENT BUFFER"

-- of the table that is lent to host_channels
host_channels_buffers : Named
host_channels_buffers =
    let rk_channels_one_buffer = host_channels.rk_channels_one_buffer in
    let rk_channels_refused_keeps = host_channels.rk_channels_refused_keeps in
    named

-- host_month
host_month_buffers : Named
host_month_buffers =
    let rk_month_start_one_buffer = host_month.rk_month_start_one_buffer in
    let rk_month_start_refused_keeps = host_month.rk_month_start_refused_keeps in
    let rk_month_add_one_buffer = host_month.rk_month_add_one_buffer in
    let rk_month_add_refused_keeps = host_month.rk_month_add_refused_keeps in
    named
