-- Which field breaks a rule. Document 01's field rules once more, a line for each field in the
-- order of its widths: a rule stands with the field of which it is said. Meaning.antt has that
-- together they are the rules.
use Rattle.std.specs.Prelude.{ℕ, zero, suc, ◌+◌, ◌*◌, ◌-◌, Bool, true, ◌&&◌, ◌||◌, List, [], ◌∷◌, ◌++◌, eqb, ltb, leb, length, Option, Some, None}
use Rattle.terms.specs.Paper.{pick}
use Rattle.terms.specs.Letters.{spelled}
use Rattle.rules.specs.declared.Kind.{Kind}
use Rattle.rules.specs.declared.Kind.TheVariants.{S001, S002, S003, P001, P002, M101, M102, M201, Unknown}
use Rattle.rules.specs.Widths.{widths, entry_widths, field, entry_field, fixed}
use Rattle.rules.specs.Fields.{digits, pair_ok, tail_ok, entry_size}
use Rattle.broken.specs.declared.Broken.{Broken}

-- a field of a body: where it starts, how long it is, its number, the number of the entry that it
-- is in or 0, and whether it keeps its rule
pub record Field : Type 0 where
  pub place : ℕ
  pub len : ℕ
  pub index : ℕ
  pub entry : ℕ
  pub holds : Bool

abbrev pub field_at : ℕ → ℕ → ℕ → ℕ → Bool → Field
field_at place len index entry holds = record { place = place; len = len; index = index; entry = entry; holds = holds }

-- fields of these widths, one behind the other: `at` is where the first of the row starts, `off`
-- how many bytes of the row are before, `i` the next number
abbrev pub laid_out : ℕ → ℕ → ℕ → ℕ → List ℕ → List Bool → List Field
laid_out at off i e [] ts = []
laid_out at off i e (w ∷ ws) [] = []
laid_out at off i e (w ∷ ws) (t ∷ ts) = field_at (at + off) w i e t ∷ laid_out at (off + w) (i + 1) e ws ts

-- a security type that some stream of an M102 goes with
abbrev pub type_ok : ℕ → Bool
type_ok t = ((((eqb t 1 || eqb t 2) || eqb t 3) || eqb t 12) || eqb t 13) || eqb t 14

-- as many entries as NoMDEntries says fill the body
abbrev pub count_ok : List ℕ → Bool
count_ok b = eqb (length b) (fixed M102 + field M102 12 b * entry_size (field M102 4 b))

-- which fixed fields keep their rule; one without a rule always does
abbrev pub kept : Kind → List ℕ → List Bool
kept S001 b =
    true  -- SenderCompID
    ∷ true  -- TargetCompID
    ∷ ltb 0 (field S001 2 b)  -- HeartBtInt
    ∷ true  -- ApplVerID
    ∷ []
kept S002 b =
    leb (field S002 0 b) 9999  -- SessionStatus
    ∷ true  -- Text
    ∷ []
kept S003 b = []
kept P001 b =
    eqb (field P001 0 b) 13  -- SecurityType
    ∷ digits 4 (field P001 1 b)  -- ChannelNO
    ∷ digits 18 (field P001 2 b)  -- ApplLastSeqNum
    ∷ (eqb (field P001 3 b) (spelled "Y") || eqb (field P001 3 b) (spelled "N"))  -- EndOfChannel
    ∷ []
kept P002 b =
    digits 4 (field P002 0 b)  -- ChannelNO
    ∷ eqb (field P002 1 b) 1  -- ResendType
    ∷ (ltb 0 (field P002 2 b) && digits 18 (field P002 2 b))  -- ApplBegSeqNum
    ∷ (digits 18 (field P002 3 b) && ((ltb 0 (field P002 4 b) || eqb (field P002 3 b) 0) || leb (field P002 2 b) (field P002 3 b)))  -- ApplEndSeqNum, also "in a request"
    ∷ (leb (field P002 4 b) 5 || eqb (field P002 4 b) 99)  -- ResendStatus
    ∷ true  -- RejectText
    ∷ []
kept M101 b = []
kept M102 b =
    type_ok (field M102 0 b)  -- SecurityType
    ∷ (leb 1 (field M102 1 b) && leb (field M102 1 b) 3)  -- TradSesMode
    ∷ digits 8 (field M102 2 b)  -- TradeDate
    ∷ digits 9 (field M102 3 b)  -- LastUpdateTime
    ∷ pair_ok (field M102 0 b) (field M102 4 b)  -- MDStreamID, paired with SecurityType
    ∷ true  -- SecurityID
    ∷ true  -- Symbol
    ∷ digits 13 (field M102 7 b)  -- PreClosePx
    ∷ digits 16 (field M102 8 b)  -- TotalVolumeTraded
    ∷ digits 16 (field M102 9 b)  -- NumTrades
    ∷ digits 16 (field M102 10 b)  -- TotalValueTraded
    ∷ true  -- TradingPhaseCode
    ∷ count_ok b  -- NoMDEntries
    ∷ []
kept M201 b =
    eqb (field M201 0 b) 13  -- SecurityType
    ∷ digits 4 (field M201 1 b)  -- ChannelNO
    ∷ (ltb 0 (field M201 2 b) && digits 18 (field M201 2 b))  -- ApplSeqNum
    ∷ true  -- MDStreamID
    ∷ true  -- SecurityID
    ∷ digits 9 (field M201 5 b)  -- TransactTime
    ∷ ((eqb (field M201 6 b) (spelled "0") || eqb (field M201 6 b) (spelled "4")) || eqb (field M201 6 b) (spelled "F"))  -- ExecType
    ∷ digits 13 (field M201 7 b)  -- Price
    ∷ digits 15 (field M201 8 b)  -- OrderQty
    ∷ []
kept Unknown b = []

abbrev pub fixed_fields : Kind → List ℕ → List Field
fixed_fields k b = laid_out 0 0 0 0 (widths k) (kept k b)

-- number e of an M102's entries, of w bytes at a place: type, price, size, position, numbers 13 to
-- 16; one of MD001 has the first two
abbrev pub entry_fields : ℕ → ℕ → ℕ → List ℕ → List Field
entry_fields w at e b =
    pick (eqb w 10)
    (laid_out at 0 13 e (2 ∷ 8 ∷ []) (true ∷ digits 13 (entry_field 1 at b) ∷ []))
    (laid_out at 0 13 e entry_widths (true ∷ digits 13 (entry_field 1 at b) ∷ digits 12 (entry_field 2 at b) ∷ digits 2 (entry_field 3 at b) ∷ []))

-- those of the first n entries
unfoldable pub entries_fields : ℕ → ℕ → List ℕ → List Field
entries_fields zero w b = []
entries_fields (suc n) w b = entries_fields n w b ++ entry_fields w (fixed M102 + n * w) (n + 1) b

-- all of them
abbrev pub entries_of : List ℕ → List Field
entries_of b = entries_fields (field M102 12 b) (entry_size (field M102 4 b)) b

-- the extension of an M201, whose rule is its length: number 9
abbrev pub extension : List ℕ → List Field
extension b = field_at (fixed M201) (length b - fixed M201) 9 0 (tail_ok b) ∷ []

-- ALL FIELDS of a body, from the front
abbrev pub fields_of : Kind → List ℕ → List Field
fields_of S001 b = fixed_fields S001 b
fields_of S002 b = fixed_fields S002 b
fields_of S003 b = fixed_fields S003 b
fields_of P001 b = fixed_fields P001 b
fields_of P002 b = fixed_fields P002 b
fields_of M101 b = fixed_fields M101 b
fields_of M102 b = fixed_fields M102 b ++ entries_of b
fields_of M201 b = fixed_fields M201 b ++ extension b
fields_of Unknown b = []

-- WHAT IS TOLD: the first field whose rule is broken, or none
abbrev pub none : Option Broken
none = None

abbrev pub broken_at : ℕ → ℕ → ℕ → ℕ → Option Broken
broken_at place len index entry = Some (record { place = place; len = len; index = index; entry = entry })

abbrev pub told : Field → Option Broken
told f = broken_at f.place f.len f.index f.entry

-- the first of these, else what is told of the fields behind them
unfoldable pub lowest_from : List Field → Option Broken → Option Broken
lowest_from [] rest = rest
lowest_from (f ∷ fs) rest = pick f.holds (lowest_from fs rest) (told f)

unfoldable pub broken_of : Kind → List ℕ → Option Broken
broken_of k b = lowest_from (fields_of k b) none
