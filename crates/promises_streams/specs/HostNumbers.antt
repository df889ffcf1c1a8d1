-- Demand 1 through the host, for a stream: an answer is 0, or one of document 01's table.
use Rattle.std.specs.Prelude.{ℕ, ◌+◌, ◌/◌, refl, Bool, not, List, leb, length}
use Rattle.terms.specs.Paper.{pick}
use Rattle.stream_spec.specs.declared.Stream.{Stream}
use Rattle.stream_spec.specs.State as stream
use Rattle.stream_spec.specs.State.{last_place}
use Rattle.stream_spec.specs.Calls as stream-calls
use Rattle.stream_spec.specs.Calls.{given_of, number_for, answer_for}
use Rattle.host_stream_spec.specs.Lent.{lent, stream_in}
use Rattle.host_stream.proofs.rk_stream_open.Reads as rk-stream-open
use Rattle.host_stream.proofs.rk_stream_open.Kinds as rk-stream-open-kinds
use Rattle.host_stream.proofs.rk_stream_feed.Reads as rk-stream-feed
use Rattle.host_stream.proofs.rk_stream_feed.Kinds as rk-stream-feed-kinds
use Rattle.host_stream.proofs.rk_stream_close.Reads as rk-stream-close
use Rattle.host_stream.proofs.rk_stream_close.Kinds as rk-stream-close-kinds
use Rattle.promises_words.specs.Words.{Promises, in_table, Numbered, done, refused, picked}

streaming : (x : Stream) (closing : Bool) (cut : List ℕ) (len : ℕ) → Numbered (number_for x closing cut len)
unfolding number_for in_table
streaming x closing cut len =
    let full = not (leb (length (given_of x closing cut)) (len / 64)) in
    let far = not (leb (x.place + (x.len + length cut)) last_place) in
    picked (not (stream.sound_of x)) 13 (pick x.closed 19 (pick far 29 (pick full 8 0))) (refused refl)
    (picked x.closed 19 (pick far 29 (pick full 8 0)) (refused refl)
    (picked far 29 (pick full 8 0) (refused refl) (picked full 8 0 (refused refl) (done refl))))

calling_stream : (x : Stream) (call : stream-calls.Call) (len : ℕ) → Numbered (stream-calls.answer_to x call len).number
unfolding answer_for
calling_stream x call len = streaming x (stream-calls.closes call) (stream-calls.cut_of call) len

pub rk_stream_open_numbered : Promises _ rk-stream-open-kinds.ps rk-stream-open-kinds.r rk-stream-open.Post (λ κs a x s. Numbered x)
rk_stream_open_numbered κs a x s p = done p.0

pub rk_stream_feed_numbered : Promises _ rk-stream-feed-kinds.ps rk-stream-feed-kinds.r rk-stream-feed.Post (λ κs a x s. Numbered x)
rk_stream_feed_numbered κs a x s p =
    rw p.0.0.answered (calling_stream (stream_in (lent a.0.now a.1.0.now a.1.1.0.now)) (stream-calls.Feed a.1.1.1.0.now) (length a.1.1.1.1.0.now))

pub rk_stream_close_numbered : Promises _ rk-stream-close-kinds.ps rk-stream-close-kinds.r rk-stream-close.Post (λ κs a x s. Numbered x)
rk_stream_close_numbered κs a x s p =
    rw p.0.answered (calling_stream (stream_in (lent a.0.now a.1.0.now a.1.1.0.now)) stream-calls.Close (length a.1.1.1.0.now))
