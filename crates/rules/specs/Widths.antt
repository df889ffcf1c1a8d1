-- Document 01's table, "Body, widths in order": a field is told by its number in that order,
-- counted from 0, and stands behind the widths before it. So no offset below is typed by hand.
use Rattle.std.specs.Prelude.{ℕ, zero, suc, ◌+◌, ◌≡◌, refl, List, [], ◌∷◌, get_or, length}
use Rattle.octets.specs.Octets.{be}
use Rattle.rules.specs.declared.Kind.{Kind}
use Rattle.rules.specs.declared.Kind.TheVariants.{S001, S002, S003, P001, P002, M101, M102, M201, Unknown}

abbrev pub widths : Kind → List ℕ
widths S001 = 32 ∷ 32 ∷ 2 ∷ 8 ∷ []  -- SenderCompID, TargetCompID, HeartBtInt, ApplVerID
widths S002 = 4 ∷ 256 ∷ []  -- SessionStatus, Text
widths S003 = []  -- none
widths P001 = 1 ∷ 2 ∷ 8 ∷ 1 ∷ []  -- SecurityType, ChannelNO, ApplLastSeqNum, EndOfChannel
widths P002 = 2 ∷ 1 ∷ 8 ∷ 8 ∷ 1 ∷ 32 ∷ []  -- ChannelNO, ResendType, ApplBegSeqNum, ApplEndSeqNum, ResendStatus, RejectText
widths M101 = []  -- carried as bytes, not judged
widths M102 = 1 ∷ 1 ∷ 4 ∷ 4 ∷ 5 ∷ 8 ∷ 8 ∷ 8 ∷ 8 ∷ 8 ∷ 8 ∷ 8 ∷ 2 ∷ []  -- SecurityType, TradSesMode, TradeDate, LastUpdateTime, MDStreamID, SecurityID, Symbol, PreClosePx, TotalVolumeTraded, NumTrades, TotalValueTraded, TradingPhaseCode, NoMDEntries, then entries
widths M201 = 1 ∷ 2 ∷ 8 ∷ 5 ∷ 8 ∷ 4 ∷ 1 ∷ 8 ∷ 8 ∷ []  -- SecurityType, ChannelNO, ApplSeqNum, MDStreamID, SecurityID, TransactTime, ExecType, Price, OrderQty, then the extension
widths Unknown = []

-- an M102 entry: type, price, size, position; one of MD001 has the first two
abbrev pub entry_widths : List ℕ
entry_widths = 2 ∷ 8 ∷ 8 ∷ 1 ∷ []

-- THE EXTENSION OF AN M201, by 000: what stands behind the 45 fixed bytes

-- what a field holds: letters, or a number
pub data Holds : Type 0 where
  text : Holds
  number : Holds

-- 2.5.4.1, an order: Side, QuoteID, MemberID, TraderCode, FullAmountTrade, SettlType,
-- ContractMultiplier, ExpirationDays, TotalValueTraded, BasketID, InvestorName, BidTransType,
-- BidExecInstType, ExpireDate, SecondaryOrderID, MinQty
abbrev pub order_widths : List ℕ
order_widths = 1 ∷ 18 ∷ 12 ∷ 12 ∷ 1 ∷ 1 ∷ 4 ∷ 2 ∷ 8 ∷ 16 ∷ 32 ∷ 1 ∷ 1 ∷ 4 ∷ 18 ∷ 8 ∷ []

abbrev pub order_holds : List Holds
order_holds = text ∷ text ∷ text ∷ text ∷ number ∷ number ∷ number ∷ number ∷ number ∷ text ∷ text ∷ number ∷ number ∷ number ∷ text ∷ number ∷ []

-- 2.5.4.2, a trade: BidApplSeqNum, OfferApplSeqNum, TotalValueTraded, TradeMethod, MarginPrice
abbrev pub trade_widths : List ℕ
trade_widths = 18 ∷ 18 ∷ 8 ∷ 1 ∷ 8 ∷ []

abbrev pub trade_holds : List Holds
trade_holds = text ∷ text ∷ number ∷ number ∷ number ∷ []

-- the sum of the first i widths
abbrev pub before : ℕ → List ℕ → ℕ
before zero ws = 0
before (suc i) [] = 0
before (suc i) (w ∷ ws) = w + before i ws

-- field number i of a type: how wide it is, where it stands in the body, and its number
abbrev pub width_of : Kind → ℕ → ℕ
width_of k i = get_or (widths k) i 0

abbrev pub place_of : Kind → ℕ → ℕ
place_of k i = before i (widths k)

abbrev pub field : Kind → ℕ → List ℕ → ℕ
field k i b = be (width_of k i) (place_of k i) b

-- field number i of the entry at a place
abbrev pub entry_field : ℕ → ℕ → List ℕ → ℕ
entry_field i at b = be (get_or entry_widths i 0) (at + before i entry_widths) b

-- all widths of a type: the fixed bytes of its body
abbrev pub fixed : Kind → ℕ
fixed k = before (length (widths k)) (widths k)

-- the table's column "Length" is the sum of the widths
pub lengths_are : fixed S001 ∷ fixed S002 ∷ fixed S003 ∷ fixed P001 ∷ fixed P002 ∷ fixed M102 ∷ fixed M201 ∷ [] ≡ 74 ∷ 260 ∷ 0 ∷ 12 ∷ 52 ∷ 73 ∷ 45 ∷ []
lengths_are = refl

-- and the two sizes of an entry: with a price alone, and whole
pub entry_sizes_are : before 2 entry_widths ∷ before 4 entry_widths ∷ [] ≡ 10 ∷ 19 ∷ []
entry_sizes_are = refl

-- and of the two extensions
abbrev pub whole : List ℕ → ℕ
whole ws = before (length ws) ws

pub extension_lengths_are : whole order_widths ∷ whole trade_widths ∷ [] ≡ 139 ∷ 53 ∷ []
extension_lengths_are = refl
