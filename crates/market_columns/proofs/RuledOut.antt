-- For each public function: wrong answers that its promise rules out, as tables of what is given
-- and what is then wrong. Assumes nothing.
use Prim.Native.Nat.{ℕ, ◌+◌}
use mathlib.Core.Path.{◌≡◌, refl, ap₂}
use mathlib.Core.Bool.{Bool, true, false, ◌&&◌}
use mathlib.Core.List.{List, [], ◌∷◌}
use lib.Dec.{leb}
use lib.ListN.{length, get_or, replicate}
use Rattle.terms.specs.Paper.{Paper, pick}
use Rattle.terms.specs.RuledOut.{Row, ◌never◌, ◌only◌, Kept, RulesOut, ruled, bools, lists, papers, beside}
use Rattle.octets.specs.Octets.{numeral, digits_of, laid}
use Rattle.digits.specs.Digits.{decimal_of, width_in, all_digits, said_by, said_if_digits, digits_at, decimal_at, nothing}
use Rattle.market_columns.specs.Numbers.{amount, amount_paper, spaces, decimals_at, joined, number_in, number_at, number_text, column_text, number_fits}
use Rattle.market_columns.specs.Columns.{Column, wide, kind_of, decimals_of, row_of, kind_number, FormIs, alike, column_ok, ok_at, is_fixed, fixed_text}
use Rattle.market_columns.specs.Tables.{starts}
use Rattle.market_columns.specs.declared.Form.{Form}
use Rattle.market_columns.proofs.number_at.Reads as number_at
use Rattle.market_columns.proofs.number_at.Kinds as number-at-kinds
use Rattle.market_columns.proofs.number_fits.Reads as number_fits
use Rattle.market_columns.proofs.number_fits.Kinds as number-fits-kinds
use Rattle.market_columns.proofs.put_number.Reads as put-number
use Rattle.market_columns.proofs.put_number.Kinds as put-number-kinds
use Rattle.market_columns.proofs.column.Reads as column
use Rattle.market_columns.proofs.column.Kinds as column-kinds
use Rattle.market_columns.proofs.column_ok.Reads as column-ok
use Rattle.market_columns.proofs.column_ok.Kinds as column-ok-kinds
use Rattle.market_columns.proofs.put_fixed.Reads as put-fixed
use Rattle.market_columns.proofs.put_fixed.Kinds as put-fixed-kinds

-- NUMBER_AT: bytes, a place, a width and decimals; sign and units, or nothing
abbrev pub number_at_wrong : List (Row (List ℕ × (ℕ × (ℕ × ℕ))) Paper)
number_at_wrong =
    ((32 ∷ 32 ∷ 49 ∷ 50 ∷ 46 ∷ 51 ∷ 52 ∷ 53 ∷ []), (0, (8, 3))) only amount 0 12345
    ∷ ((32 ∷ 45 ∷ 49 ∷ 50 ∷ 46 ∷ 51 ∷ 52 ∷ 53 ∷ []), (0, (8, 3))) only amount 1 12345  -- the sign dropped
    ∷ ((32 ∷ 48 ∷ 49 ∷ 50 ∷ 46 ∷ 51 ∷ 52 ∷ 53 ∷ []), (0, (8, 3))) only nothing  -- a needless zero
    ∷ ((32 ∷ 32 ∷ 45 ∷ 48 ∷ 46 ∷ 48 ∷ 48 ∷ 48 ∷ []), (0, (8, 3))) only nothing  -- minus zero
    ∷ ((32 ∷ 32 ∷ 32 ∷ 32 ∷ 46 ∷ 53 ∷ 48 ∷ 48 ∷ []), (0, (8, 3))) only nothing
    ∷ ((49 ∷ 50 ∷ 46 ∷ 51 ∷ 52 ∷ 53 ∷ 32 ∷ 32 ∷ []), (0, (8, 3))) only nothing  -- left-aligned
    ∷ ((32 ∷ 32 ∷ 32 ∷ 49 ∷ 50 ∷ 46 ∷ 51 ∷ 52 ∷ []), (0, (8, 3))) only nothing  -- two decimals for three
    ∷ ((32 ∷ 32 ∷ 32 ∷ 32 ∷ 32 ∷ 32 ∷ 32 ∷ 32 ∷ []), (0, (8, 3))) only nothing  -- blank
    ∷ ((32 ∷ 32 ∷ 49 ∷ 50 ∷ 46 ∷ 51 ∷ 52 ∷ 53 ∷ []), (1, (8, 3))) only nothing  -- past the end
    ∷ ((32 ∷ 32 ∷ 32 ∷ 32 ∷ 48 ∷ []), (0, (5, 0))) only amount 0 0
    ∷ []

pub number_at_rules_out : RulesOut (Kept _ number-at-kinds.ps number-at-kinds.r number_at.Post) (λ c. let f = c.args.1.1.0 in (c.args.0.now, (c.args.1.0, (f.width, f.decimals)))) (λ c. amount_paper c.result) number_at_wrong
unfolding number_at number_in joined decimals_at spaces digits_at decimal_at said_if_digits said_by all_digits numeral
number_at_rules_out = ruled papers (λ (i : List ℕ × (ℕ × (ℕ × ℕ))). number_at i.1.0 i.1.1.0 i.1.1.1 i.0) (λ c p. p) _ refl

-- NUMBER_FITS: a width, decimals, a sign and units
abbrev pub number_fits_wrong : List (Row (ℕ × (ℕ × (ℕ × ℕ))) Bool)
number_fits_wrong =
    (11, (3, (0, 9999999999))) only true
    ∷ (11, (3, (0, 10000000000))) only false  -- one byte too long
    ∷ (11, (3, (1, 9999999999))) only false  -- the sign without a byte of its own
    ∷ (11, (3, (1, 0))) only false  -- minus zero
    ∷ (11, (3, (2, 5))) only false  -- a sign that is neither 0 nor 1
    ∷ (3, (3, (0, 5))) only false  -- no byte before the point
    ∷ []

pub number_fits_rules_out : RulesOut (Kept _ number-fits-kinds.ps number-fits-kinds.r number_fits.Post) (λ c. let f = c.args.0 in let a = c.args.1.0 in (f.width, (f.decimals, (a.sign, a.units)))) (λ c. c.result) number_fits_wrong
unfolding number_fits number_text decimal_of width_in digits_of
number_fits_rules_out = ruled bools (λ (i : ℕ × (ℕ × (ℕ × ℕ))). number_fits i.0 i.1.0 i.1.1.0 i.1.1.1) (λ c p. p) _ refl

-- PUT_NUMBER: a buffer, a place, a width, decimals, a sign and units; whether it was put, and the
-- buffer then
abbrev Put : Type 0
Put = Bool × List ℕ

abbrev put : Bool → List ℕ → Put
put b d = (b, d)

abbrev puts : Bool → List ℕ → List ℕ → Put
puts b x d = put b (pick b x d)

abbrev pub put_number_wrong : List (Row (List ℕ × (ℕ × (ℕ × (ℕ × (ℕ × ℕ))))) Put)
put_number_wrong =
    (replicate 9 7, (1, (8, (3, (1, 12345))))) only put true (7 ∷ (32 ∷ 45 ∷ 49 ∷ 50 ∷ 46 ∷ 51 ∷ 52 ∷ 53 ∷ []))
    ∷ (replicate 9 7, (1, (8, (3, (1, 12345))))) never put true (7 ∷ (32 ∷ 32 ∷ 49 ∷ 50 ∷ 46 ∷ 51 ∷ 52 ∷ 53 ∷ []))  -- the sign dropped
    ∷ (replicate 9 7, (1, (8, (3, (0, 5))))) only put true (7 ∷ (32 ∷ 32 ∷ 32 ∷ 48 ∷ 46 ∷ 48 ∷ 48 ∷ 53 ∷ []))  -- decimals without zeros
    ∷ (replicate 8 7, (1, (8, (3, (0, 5))))) only put false (replicate 8 7)  -- no room
    ∷ (replicate 9 7, (1, (5, (3, (0, 10000))))) only put false (replicate 9 7)  -- too long for its column
    ∷ (replicate 9 7, (1, (8, (3, (2, 5))))) only put false (replicate 9 7)  -- a sign that is neither 0 nor 1
    ∷ []

pub put_number_rules_out : RulesOut (Kept _ put-number-kinds.ps put-number-kinds.r put-number.Post) (λ c. let f = c.args.1.1.0 in let a = c.args.1.1.1.0 in (c.args.0.now, (c.args.1.0, (f.width, (f.decimals, (a.sign, a.units)))))) (λ c. put c.result c.exit.0.now) put_number_wrong
unfolding number_fits number_text column_text decimal_of width_in digits_of laid
put_number_rules_out =
    ruled (beside bools lists) (λ (i : List ℕ × (ℕ × (ℕ × (ℕ × (ℕ × ℕ))))). puts (number_fits i.1.1.0 i.1.1.1.0 i.1.1.1.1.0 i.1.1.1.1.1 && leb (i.1.0 + i.1.1.0) (length i.0)) (laid i.1.0 (column_text i.1.1.0 i.1.1.1.0 i.1.1.1.1.0 i.1.1.1.1.1) i.0) i.0) (λ c p. ap₂ put p.0 p.1) _ refl

-- COLUMN: a row; its kind, width, decimals and where its constant stands
abbrev four : ℕ → ℕ → ℕ → ℕ → List ℕ
four k w d t = k ∷ w ∷ d ∷ t ∷ []

form_list : (x : Form) (c : Column) (t : ℕ) → FormIs c (kind_number x.kind) x.width x.decimals x.start → x.start ≡ t → four (kind_number x.kind) x.width x.decimals x.start ≡ four (kind_of c) (wide c) (decimals_of c) t
form_list x c t f e = rw (f.kind_is, f.width_is, f.decimals_is, e)

abbrev pub column_wrong : List (Row ℕ (List ℕ))
column_wrong =
    2 only four 1 10 0 0  -- BodyLength is blank: no number
    ∷ 3 only four 2 5 0 0
    ∷ 11 only four 4 32 0 0  -- the name is no text that is judged
    ∷ 14 only four 2 16 3 0
    ∷ 15 never four 2 11 2 0  -- two decimals for three
    ∷ 36 only four 0 5 0 30
    ∷ 57 only four 3 12 0 0
    ∷ 58 only four 0 0 0 0
    ∷ []

pub column_rules_out : RulesOut (Kept _ column-kinds.ps column-kinds.r column.Post) (λ c. c.args.0) (λ c. four (kind_number c.result.kind) c.result.width c.result.decimals c.result.start) column_wrong
column_rules_out = ruled lists (λ (i : ℕ). four (kind_of (row_of i)) (wide (row_of i)) (decimals_of (row_of i)) (get_or starts i 0)) (λ c p. form_list c.result (row_of c.args.0) (get_or starts c.args.0 0) p.0 p.1) _ refl

-- COLUMN_OK: bytes, a place and a row
abbrev pub column_ok_wrong : List (Row (List ℕ × (ℕ × ℕ)) Bool)
column_ok_wrong =
    ((77 ∷ 68 ∷ 52 ∷ 48 ∷ 49 ∷ []), (0, 9)) only true
    ∷ ((77 ∷ 68 ∷ 52 ∷ 48 ∷ 52 ∷ []), (0, 9)) only false  -- a constant not looked at
    ∷ (replicate 10 32, (0, 2)) only true
    ∷ ((32 ∷ 32 ∷ 32 ∷ 32 ∷ 32 ∷ 32 ∷ 32 ∷ 50 ∷ 49 ∷ 57 ∷ []), (0, 2)) only false  -- BodyLength filled taken
    ∷ ((32 ∷ 32 ∷ 32 ∷ 32 ∷ 32 ∷ 49 ∷ 50 ∷ 46 ∷ 51 ∷ 52 ∷ 53 ∷ []), (0, 15)) only true
    ∷ (replicate 11 32, (0, 15)) only false  -- a blank price taken
    ∷ ((32 ∷ 32 ∷ 32 ∷ 32 ∷ 48 ∷ 49 ∷ 50 ∷ 46 ∷ 51 ∷ 52 ∷ 53 ∷ []), (0, 15)) only false  -- a needless zero
    ∷ ((32 ∷ 32 ∷ 32 ∷ 32 ∷ 32 ∷ 45 ∷ 48 ∷ 46 ∷ 48 ∷ 48 ∷ 48 ∷ []), (0, 15)) only false  -- minus zero
    ∷ ((48 ∷ 48 ∷ 48 ∷ 49 ∷ 50 ∷ []), (0, 10)) only true
    ∷ ((32 ∷ 48 ∷ 48 ∷ 49 ∷ 50 ∷ []), (0, 10)) only false  -- text that begins with a space
    ∷ (replicate 5 32, (0, 10)) only true
    ∷ (replicate 32 124, (0, 11)) only true  -- a name of bars refused
    ∷ ((77 ∷ 68 ∷ 52 ∷ 48 ∷ []), (0, 9)) only false  -- cut short
    ∷ []

pub column_ok_rules_out : RulesOut (Kept _ column-ok-kinds.ps column-ok-kinds.r column-ok.Post) (λ c. (c.args.0.now, (c.args.1.0, c.args.1.1.0))) (λ c. c.result) column_ok_wrong
unfolding ok_at column_ok alike number_in joined decimals_at spaces digits_at decimal_at said_if_digits said_by all_digits numeral
column_ok_rules_out = ruled bools (λ (i : List ℕ × (ℕ × ℕ)). ok_at i.1.1 i.1.0 i.0) (λ c p. p) _ refl

-- PUT_FIXED: a buffer, a place and a row; whether it was put, and the buffer then
abbrev pub put_fixed_wrong : List (Row (List ℕ × (ℕ × ℕ)) Put)
put_fixed_wrong =
    (replicate 6 7, (1, 26)) only put true (7 ∷ (77 ∷ 68 ∷ 52 ∷ 48 ∷ 52 ∷ []))
    ∷ (replicate 6 7, (1, 26)) never put true (7 ∷ (77 ∷ 68 ∷ 52 ∷ 48 ∷ 49 ∷ []))  -- one type for every line
    ∷ (replicate 8 7, (0, 4)) only put true (replicate 8 32)
    ∷ (replicate 6 7, (1, 10)) only put false (replicate 6 7)  -- a column with a value of its own
    ∷ (replicate 5 7, (1, 26)) only put false (replicate 5 7)  -- no room
    ∷ []

pub put_fixed_rules_out : RulesOut (Kept _ put-fixed-kinds.ps put-fixed-kinds.r put-fixed.Post) (λ c. (c.args.0.now, (c.args.1.0, c.args.1.1.0))) (λ c. put c.result c.exit.0.now) put_fixed_wrong
unfolding fixed_text laid
put_fixed_rules_out =
    ruled (beside bools lists) (λ (i : List ℕ × (ℕ × ℕ)). puts (is_fixed (row_of i.1.1) && leb (i.1.0 + wide (row_of i.1.1)) (length i.0)) (laid i.1.0 (fixed_text (row_of i.1.1)) i.0) i.0) (λ c p. ap₂ put p.0 p.1) _ refl
