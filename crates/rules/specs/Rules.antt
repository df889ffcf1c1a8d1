-- Document 01's table and field rules (Frame, paragraphs 3 to 5), a row or a rule to a line, in its
-- order. `field K i b` is field number i of the body b, counted from 0 in the table's order
-- (Widths.antt); "n digits" is below 10 ^ n.
use Rattle.std.specs.Prelude.{ℕ, ◌+◌, ◌*◌, ◌<◌, ◌≤◌, ◌^◌, ◌≡◌, ◌⊎◌, List, length}
use Rattle.terms.specs.Letters.{spelled}
use Rattle.rules.specs.Widths.{field, entry_field, fixed, order_widths, trade_widths, whole}
use Rattle.rules.specs.declared.Layout.{Layout}
use Rattle.rules.specs.declared.Layout.TheVariants.{Order, Trade, Other}
use Rattle.rules.specs.declared.Kind.{Kind}
use Rattle.rules.specs.declared.Kind.TheVariants.{S001, S002, S003, P001, P002, M101, M102, M201, Unknown}

-- MsgType, four letters as one number
abbrev pub TypeRule : Kind → ℕ → Type 0
TypeRule S001 t = t ≡ spelled "S001"
TypeRule S002 t = t ≡ spelled "S002"
TypeRule S003 t = t ≡ spelled "S003"
TypeRule P001 t = t ≡ spelled "P001"
TypeRule P002 t = t ≡ spelled "P002"
TypeRule M101 t = t ≡ spelled "M101"
TypeRule M102 t = t ≡ spelled "M102"
TypeRule M201 t = t ≡ spelled "M201"
TypeRule Unknown t = ⊥

-- Length
abbrev pub LengthRule : Kind → ℕ → Type 0
LengthRule S001 n = n ≡ fixed S001  -- 74
LengthRule S002 n = n ≡ fixed S002  -- 260
LengthRule S003 n = n ≡ fixed S003  -- 0
LengthRule P001 n = n ≡ fixed P001  -- 12
LengthRule P002 n = n ≡ fixed P002  -- 52
LengthRule M101 n = n ≡ n  -- any: above 8,164 is 3 before it comes to this
LengthRule M102 n = fixed M102 ≤ n  -- 73
LengthRule M201 n = fixed M201 ≤ n  -- 45
LengthRule Unknown n = ⊥

-- S001: an interval above 0
pub record S001Rules (b : List ℕ) : Type 0 where
  pub heart_bt_int : 0 < field S001 2 b

-- S002: a status up to 9,999
pub record S002Rules (b : List ℕ) : Type 0 where
  pub session_status : field S002 0 b ≤ 9999

-- P001: one security type, a flag Y or N; ChannelNO 4 digits, ApplLastSeqNum at most 18
pub record P001Rules (b : List ℕ) : Type 0 where
  pub security_type : field P001 0 b ≡ 13
  pub channel_no : field P001 1 b < 10 ^ 4
  pub appl_last_seq_num : field P001 2 b < 10 ^ 18
  pub end_of_channel : (field P001 3 b ≡ spelled "Y") ⊎ (field P001 3 b ≡ spelled "N")

-- P002: one resend type, a start above 0, a status up to 5 or 99; a request has no end or one "not
-- below" its start. ChannelNO 4 digits; both resend numbers at most 18.
pub record P002Rules (b : List ℕ) : Type 0 where
  pub channel_no : field P002 0 b < 10 ^ 4
  pub resend_type : field P002 1 b ≡ 1
  pub appl_beg_seq_num : 0 < field P002 2 b
  pub appl_beg_digits : field P002 2 b < 10 ^ 18
  pub appl_end_digits : field P002 3 b < 10 ^ 18
  pub resend_status : (field P002 4 b ≤ 5) ⊎ (field P002 4 b ≡ 99)
  pub request : field P002 4 b ≡ 0 → (field P002 3 b ≡ 0) ⊎ (field P002 2 b ≤ field P002 3 b)

-- which streams an M102's security type has; a stream is its five letters as one number
pub data Pair (t s : ℕ) : Type 0 where
  pair_1 : t ≡ 1 → spelled "MD001" ≤ s → s ≤ spelled "MD004" → Pair t s
  pair_2 : t ≡ 2 → s ≡ spelled "MD301" → Pair t s
  pair_3_MD101 : t ≡ 3 → s ≡ spelled "MD101" → Pair t s
  pair_3_MD102 : t ≡ 3 → s ≡ spelled "MD102" → Pair t s
  pair_12 : t ≡ 12 → s ≡ spelled "MD201" → Pair t s
  pair_13 : t ≡ 13 → s ≡ spelled "MD210" → Pair t s
  pair_14 : t ≡ 14 → s ≡ spelled "MDE01" → Pair t s

-- An M102 entry: 10 bytes for stream MD001, else 19 (document 01, Frame, paragraph 4). Price 13
-- digits, size 12, position 2; its type may be any.
pub data EntrySize (s w : ℕ) : Type 0 where
  short : s ≡ spelled "MD001" → w ≡ 10 → EntrySize s w
  long : (s ≡ spelled "MD001" → ⊥) → w ≡ 19 → EntrySize s w

pub record EntryRules (s at : ℕ) (b : List ℕ) : Type 0 where
  pub price : entry_field 1 at b < 10 ^ 13
  pub size : (s ≡ spelled "MD001" → ⊥) → entry_field 2 at b < 10 ^ 12
  pub position : (s ≡ spelled "MD001" → ⊥) → entry_field 3 at b < 10 ^ 2

-- M102: a mode from 1 to 3, a paired stream, "whole entries" to the body's end.
-- TradeDate 8 digits, LastUpdateTime 9, PreClosePx 13, the three totals 16. `w` is the size
-- of an entry.
pub record M102Rules (w : ℕ) (b : List ℕ) : Type 0 where
  pub trad_ses_mode_low : 1 ≤ field M102 1 b
  pub trad_ses_mode : field M102 1 b ≤ 3
  pub pair : Pair (field M102 0 b) (field M102 4 b)
  pub trade_date : field M102 2 b < 10 ^ 8
  pub last_update_time : field M102 3 b < 10 ^ 9
  pub pre_close_px : field M102 7 b < 10 ^ 13
  pub total_volume_traded : field M102 8 b < 10 ^ 16
  pub num_trades : field M102 9 b < 10 ^ 16
  pub total_value_traded : field M102 10 b < 10 ^ 16
  pub entry_size_holds : EntrySize (field M102 4 b) w
  pub whole_entries : length b ≡ fixed M102 + field M102 12 b * w
  pub entries : (i : ℕ) → i < field M102 12 b → EntryRules (field M102 4 b) (fixed M102 + i * w) b

-- CR 2: which layout an extension has. 000, 2.5.1, has orders on the streams MD211 to MD216 and
-- trades on MD217; ExecType 0 or 4 is an order's, F a trade's. A stream that does not go with the
-- layout of its ExecType is as one that no paper names.
pub data Orders (s e : ℕ) : Type 0 where
  order_0 : spelled "MD211" ≤ s → s ≤ spelled "MD216" → e ≡ spelled "0" → Orders s e
  order_4 : spelled "MD211" ≤ s → s ≤ spelled "MD216" → e ≡ spelled "4" → Orders s e

pub data Trades (s e : ℕ) : Type 0 where
  trade_F : s ≡ spelled "MD217" → e ≡ spelled "F" → Trades s e

pub data LayoutRule (s e : ℕ) : Layout → Type 0 where
  is_order : Orders s e → LayoutRule s e Order
  is_trade : Trades s e → LayoutRule s e Trade
  is_other : (Orders s e → ⊥) → (Trades s e → ⊥) → LayoutRule s e Other

-- the length of an M201 body whose extension is laid out so
abbrev pub TailRule : Layout → ℕ → Type 0
TailRule Order n = n ≡ fixed M201 + whole order_widths  -- 45 + 139
TailRule Trade n = n ≡ fixed M201 + whole trade_widths  -- 45 + 53
TailRule Other n = n ≡ n  -- any

-- M201: which values of SecurityType and ExecType there are, and that no ApplSeqNum is 0; any
-- stream will do. ChannelNO 4 digits, ApplSeqNum at most 18, TransactTime 9, Price 13, OrderQty 15.
-- By CR 2 the extension has the length of its layout.
pub record M201Rules (b : List ℕ) : Type 0 where
  pub security_type : field M201 0 b ≡ 13
  pub channel_no : field M201 1 b < 10 ^ 4
  pub appl_seq_num : 0 < field M201 2 b
  pub appl_seq_digits : field M201 2 b < 10 ^ 18
  pub transact_time : field M201 5 b < 10 ^ 9
  pub exec_type : ((field M201 6 b ≡ spelled "0") ⊎ (field M201 6 b ≡ spelled "4")) ⊎ (field M201 6 b ≡ spelled "F")
  pub price : field M201 7 b < 10 ^ 13
  pub order_qty : field M201 8 b < 10 ^ 15
  pub tail : (l : Layout) → LayoutRule (field M201 3 b) (field M201 6 b) l → TailRule l (length b)

-- "none" for S003; M101 is "carried as bytes, not judged"
pub record NoRules : Type 0 where

abbrev pub FieldRules : Kind → List ℕ → Type 0
FieldRules S001 b = S001Rules b
FieldRules S002 b = S002Rules b
FieldRules S003 b = NoRules
FieldRules P001 b = P001Rules b
FieldRules P002 b = P002Rules b
FieldRules M101 b = NoRules
FieldRules M102 b = (w : ℕ) × M102Rules w b
FieldRules M201 b = M201Rules b
FieldRules Unknown b = ⊥
