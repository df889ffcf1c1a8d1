-- The field rules of document 01 as tests on a body, and the checks 7 and 6. Rules.antt has the
-- rules one by one, Meaning.antt that they agree.
use Rattle.std.specs.Prelude.{ℕ, zero, suc, ◌+◌, ◌*◌, ◌^◌, Bool, true, false, ◌&&◌, ◌||◌, List, length, ltb, leb, eqb}
use Rattle.terms.specs.Letters.{spelled}
use Rattle.terms.specs.Paper.{pick}
use Rattle.octets.specs.Octets.{be}
use Rattle.calendar.specs.Calendar.{real_time}
use Rattle.rules.specs.declared.Kind.{Kind}
use Rattle.rules.specs.declared.Kind.TheVariants.{S001, S002, S003, P001, P002, M101, M102, M201, Unknown}
use Rattle.rules.specs.declared.Layout.{Layout}
use Rattle.rules.specs.declared.Layout.TheVariants.{Order, Trade, Other}

-- at most n decimal digits
abbrev pub digits : ℕ → ℕ → Bool
digits n x = ltb x (10 ^ n)

unfoldable pub s001_ok : List ℕ → Bool
s001_ok b = ltb 0 (be 2 64 b)

unfoldable pub s002_ok : List ℕ → Bool
s002_ok b = leb (be 4 0 b) 9999

unfoldable pub p001_ok : List ℕ → Bool
p001_ok b = ((eqb (be 1 0 b) 13 && digits 4 (be 2 1 b)) && digits 18 (be 8 3 b)) && (eqb (be 1 11 b) (spelled "Y") || eqb (be 1 11 b) (spelled "N"))

unfoldable pub p002_ok : List ℕ → Bool
p002_ok b =
    (((((digits 4 (be 2 0 b) && eqb (be 1 2 b) 1) && ltb 0 (be 8 3 b)) && digits 18 (be 8 3 b)) && digits 18 (be 8 11 b))
    && (leb (be 1 19 b) 5 || eqb (be 1 19 b) 99))
    && ((ltb 0 (be 1 19 b) || eqb (be 8 11 b) 0) || leb (be 8 3 b) (be 8 11 b))

-- the layout of an M201's extension, by its stream and its ExecType
abbrev pub orders_ok : ℕ → ℕ → Bool
orders_ok s e = (leb (spelled "MD211") s && leb s (spelled "MD216")) && (eqb e (spelled "0") || eqb e (spelled "4"))

abbrev pub trades_ok : ℕ → ℕ → Bool
trades_ok s e = eqb s (spelled "MD217") && eqb e (spelled "F")

unfoldable pub layout_of : ℕ → ℕ → Layout
layout_of s e = pick (orders_ok s e) Order (pick (trades_ok s e) Trade Other)

-- whether a body of n bytes suits it
unfoldable pub suits_tail : Layout → ℕ → Bool
suits_tail Order n = eqb n 184
suits_tail Trade n = eqb n 98
suits_tail Other n = true

-- the layout that an M201 body names, and whether the body has its length
abbrev pub named_in : List ℕ → Layout
named_in b = layout_of (be 5 11 b) (be 1 28 b)

unfoldable pub tail_ok : List ℕ → Bool
tail_ok b = suits_tail (named_in b) (length b)

unfoldable pub m201_ok : List ℕ → Bool
m201_ok b =
    (((((((eqb (be 1 0 b) 13 && digits 4 (be 2 1 b)) && ltb 0 (be 8 3 b)) && digits 18 (be 8 3 b)) && digits 9 (be 4 24 b))
    && ((eqb (be 1 28 b) (spelled "0") || eqb (be 1 28 b) (spelled "4")) || eqb (be 1 28 b) (spelled "F")))
    && digits 13 (be 8 29 b))
    && digits 15 (be 8 37 b))
    && tail_ok b

-- a security type and a stream
abbrev pub pair_ok : ℕ → ℕ → Bool
pair_ok t s =
    (((((eqb t 1 && leb (spelled "MD001") s) && leb s (spelled "MD004"))
    || (eqb t 2 && eqb s (spelled "MD301")))
    || (eqb t 3 && (eqb s (spelled "MD101") || eqb s (spelled "MD102"))))
    || (eqb t 12 && eqb s (spelled "MD201")))
    || (eqb t 13 && eqb s (spelled "MD210"))
    || (eqb t 14 && eqb s (spelled "MDE01"))

unfoldable pub m102_values_ok : List ℕ → Bool
m102_values_ok b =
    ((((((leb 1 (be 1 1 b) && leb (be 1 1 b) 3) && digits 8 (be 4 2 b)) && digits 9 (be 4 6 b)) && digits 13 (be 8 31 b))
    && digits 16 (be 8 39 b))
    && digits 16 (be 8 47 b))
    && digits 16 (be 8 55 b)

-- the fixed part, but for the number of entries
abbrev pub m102_fixed_ok : List ℕ → Bool
m102_fixed_ok b = pair_ok (be 1 0 b) (be 5 10 b) && m102_values_ok b

-- the bytes of an entry of a stream: 10 for MD001, else 19
unfoldable pub entry_size : ℕ → ℕ
entry_size s = pick (eqb s (spelled "MD001")) 10 19

-- the entry of w bytes at a place
unfoldable pub entry_ok : ℕ → ℕ → List ℕ → Bool
entry_ok w at b = digits 13 (be 8 (at + 2) b) && (eqb w 10 || (digits 12 (be 8 (at + 10) b) && digits 2 (be 1 (at + 18) b)))

-- the first n entries
unfoldable pub entries_ok : ℕ → ℕ → List ℕ → Bool
entries_ok zero w b = true
entries_ok (suc n) w b = entries_ok n w b && entry_ok w (73 + n * w) b

unfoldable pub m102_ok : List ℕ → Bool
m102_ok b =
    (m102_fixed_ok b && eqb (length b) (73 + be 2 71 b * entry_size (be 5 10 b)))
    && entries_ok (be 2 71 b) (entry_size (be 5 10 b)) b

unfoldable pub fields_ok : Kind → List ℕ → Bool
fields_ok S001 b = s001_ok b
fields_ok S002 b = s002_ok b
fields_ok S003 b = true
fields_ok P001 b = p001_ok b
fields_ok P002 b = p002_ok b
fields_ok M101 b = true
fields_ok M102 b = m102_ok b
fields_ok M201 b = m201_ok b
fields_ok Unknown b = false

-- what is said behind the checksum: 7 where the time is not real, then 6 where a field
-- rule is broken
unfoldable pub judge_of : Kind → ℕ → List ℕ → ℕ
judge_of k time b = pick (real_time time) (pick (fields_ok k b) 0 6) 7
