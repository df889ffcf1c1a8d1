-- Bodies for examples: what a field holds is given, all else is fixed. A text is one byte, as often
-- as its field is wide.
use Rattle.std.specs.Prelude.{ℕ, List, [], ◌∷◌, ◌++◌, replicate}
use Rattle.octets.specs.Octets.{bytes_of}

-- S001: SenderCompID, TargetCompID, HeartBtInt
abbrev pub logon_body : ℕ → ℕ → ℕ → List ℕ
logon_body sender target heart = replicate 32 sender ++ (replicate 32 target ++ (bytes_of 2 heart ++ replicate 8 0x31))

-- P001 of channel 100 and number 3: SecurityType, EndOfChannel
abbrev pub channel_body : ℕ → ℕ → List ℕ
channel_body type end = type ∷ bytes_of 2 100 ++ (bytes_of 8 3 ++ (end ∷ []))

-- P002 of channel 100: first and last number, ResendStatus, RejectText
abbrev pub resend_body : ℕ → ℕ → ℕ → ℕ → List ℕ
resend_body first last status text = bytes_of 2 100 ++ (1 ∷ bytes_of 8 first ++ (bytes_of 8 last ++ (status ∷ replicate 32 text)))

-- M102: SecurityType, the letters of the stream as one number, and the prices of two entries of 10
-- bytes, whose types are 5 and 6
abbrev pub snapshot_body : ℕ → ℕ → ℕ → ℕ → List ℕ
snapshot_body type stream one two =
    type ∷ 1 ∷ bytes_of 4 20220314 ++ (bytes_of 4 93000000 ++ (bytes_of 5 stream ++ (replicate 56 0 ++ (bytes_of 2 2 ++ (bytes_of 2 5 ++ (bytes_of 8 one ++ (bytes_of 2 6 ++ bytes_of 8 two)))))))

-- M201 of channel 100 and number 3: the letters of the stream as one number, ExecType, and what
-- stands behind the 45 fixed bytes
abbrev pub tick_on : ℕ → ℕ → List ℕ → List ℕ
tick_on stream exec tail = 13 ∷ bytes_of 2 100 ++ (bytes_of 8 3 ++ (bytes_of 5 stream ++ (replicate 12 0x30 ++ (exec ∷ replicate 16 0 ++ tail))))

-- of a stream that 000 does not name
abbrev pub tick_body : List ℕ → List ℕ
tick_body = tick_on 0x3030303030 0x30

-- an order's extension: Side, QuoteID, MemberID, TraderCode, InvestorName; BasketID and
-- SecondaryOrderID are letters, all else is 0
abbrev pub order_tail : ℕ → ℕ → ℕ → ℕ → ℕ → List ℕ
order_tail side quote member trader investor =
    side ∷ replicate 18 quote ++ (replicate 12 member ++ (replicate 12 trader ++ (replicate 16 0 ++ (replicate 16 0x42 ++ (replicate 32 investor ++ (replicate 6 0 ++ (replicate 18 0x53 ++ replicate 8 0)))))))
