-- For each public function: wrong answers that its promise rules out, as tables of what is given
-- and what is then wrong. Assumes nothing.
use Prim.Native.Nat.{ℕ}
use mathlib.Core.Path.{refl, ap, ◌∙◌}
use mathlib.Core.Bool.{Bool, true, false}
use mathlib.Core.List.{List, [], ◌∷◌}
use lib.ListN.{replicate}
use Rattle.terms.specs.RuledOut.{Row, ◌never◌, ◌only◌, Kept, RulesOut, ruled, numbers, bools}
use Rattle.octets.specs.Octets.{numeral}
use Rattle.digits.specs.Digits.{all_digits, said_by, said_if_digits, digits_at, decimal_at}
use Rattle.calendar.specs.Calendar.{leap, days_in, real_parts, real_time}
use Rattle.step_tags.specs.Masks.{mask_of}
use Rattle.step_tags.specs.Table.{rows, row_at, row_in, row_of, among, types, has, needs, rows_of, needed_by}
use Rattle.step_tags.specs.Forms.{some, is_number, is_flag, is_time, time_of, is_unreal, suits, good_value, fit_row, fit_number}
use Rattle.step_tags.specs.Laws.{fit_number_is}
use Rattle.step_tags.proofs.is_type.Reads as is-type
use Rattle.step_tags.proofs.is_type.Kinds as is-type-kinds
use Rattle.step_tags.proofs.rows_of.Reads as rows_of_lem
use Rattle.step_tags.proofs.rows_of.Kinds as rows-of-kinds
use Rattle.step_tags.proofs.needed_by.Reads as needed-by
use Rattle.step_tags.proofs.needed_by.Kinds as needed-by-kinds
use Rattle.step_tags.proofs.unreal.Reads as unreal
use Rattle.step_tags.proofs.unreal.Kinds as unreal-kinds
use Rattle.step_tags.proofs.fit.Reads as fit
use Rattle.step_tags.proofs.fit.Kinds as fit-kinds

-- IS_TYPE: a byte
abbrev pub is_type_wrong : List (Row ℕ Bool)
is_type_wrong =
    65 only true  -- logon refused
    ∷ 52 only true  -- sequence reset refused
    ∷ 104 only false  -- h taken
    ∷ 87 only false  -- W taken
    ∷ 54 only false  -- any digit taken
    ∷ []

pub is_type_rules_out : RulesOut (Kept _ is-type-kinds.ps is-type-kinds.r is-type.Post) (λ c. c.args.0) (λ c. c.result) is_type_wrong
unfolding among
is_type_rules_out = ruled bools (λ (t : ℕ). among t types) (λ c p. p) _ refl

-- ROWS_OF, NEEDED_BY: a type. Row 8 is HeartBtInt, row 2 MsgSeqNum, rows 25 and 26 those of a
-- sequence reset
abbrev pub rows_of_wrong : List (Row ℕ ℕ)
rows_of_wrong =
    48 only 0x2007F
    ∷ 48 never 0x2017F  -- 108 in a heartbeat
    ∷ 53 never 0x600007F  -- a sequence reset under 5
    ∷ 52 only 0x600007F
    ∷ 104 only 0  -- a type h with the header's rows
    ∷ []

pub rows_of_rules_out : RulesOut (Kept _ rows-of-kinds.ps rows-of-kinds.r rows_of_lem.Post) (λ c. c.args.0) (λ c. c.result) rows_of_wrong
unfolding mask_of rows row_at among has
rows_of_rules_out = ruled numbers rows_of (λ c p. p) _ refl

abbrev pub needed_by_wrong : List (Row ℕ ℕ)
needed_by_wrong =
    48 only 0x27
    ∷ 48 never 0  -- nothing needed
    ∷ 48 never 0x23  -- 34 not needed
    ∷ 65 never 0x39A7  -- user name and password needed
    ∷ 65 only 0x21A7
    ∷ []

pub needed_by_rules_out : RulesOut (Kept _ needed-by-kinds.ps needed-by-kinds.r needed-by.Post) (λ c. c.args.0) (λ c. c.result) needed_by_wrong
unfolding mask_of rows row_at among has needs
needed_by_rules_out = ruled numbers needed_by (λ c p. p) _ refl

-- UNREAL: a value
abbrev pub unreal_wrong : List (Row (List ℕ) Bool)
unreal_wrong =
    (50 ∷ 48 ∷ 50 ∷ 54 ∷ 49 ∷ 51 ∷ 48 ∷ 49 ∷ 45 ∷ 48 ∷ 57 ∷ 58 ∷ 51 ∷ 48 ∷ 58 ∷ 48 ∷ 48 ∷ 46 ∷ 49 ∷ 50 ∷ 51 ∷ []) only true  -- month 13 taken
    ∷ (50 ∷ 48 ∷ 50 ∷ 54 ∷ 48 ∷ 49 ∷ 50 ∷ 49 ∷ 45 ∷ 48 ∷ 57 ∷ 58 ∷ 51 ∷ 48 ∷ 58 ∷ 48 ∷ 48 ∷ 46 ∷ 49 ∷ 50 ∷ 51 ∷ []) only false  -- a real time refused by 7
    ∷ (50 ∷ 48 ∷ 50 ∷ 54 ∷ 49 ∷ 51 ∷ 48 ∷ 49 ∷ 32 ∷ 48 ∷ 57 ∷ 58 ∷ 51 ∷ 48 ∷ 58 ∷ 48 ∷ 48 ∷ 46 ∷ 49 ∷ 50 ∷ 51 ∷ []) only false  -- another form refused by 7 and not by 26
    ∷ [] only false
    ∷ []

pub unreal_rules_out : RulesOut (Kept _ unreal-kinds.ps unreal-kinds.r unreal.Post) (λ c. c.args.0.now) (λ c. c.result) unreal_wrong
unfolding numeral all_digits said_by said_if_digits digits_at decimal_at leap days_in real_parts real_time some is_time time_of is_unreal
unreal_rules_out = ruled bools is_unreal (λ c p. p) _ refl

-- FIT: a tag and a value
abbrev pub fit_wrong : List (Row (ℕ × List ℕ) ℕ)
fit_wrong =
    (49, 65 ∷ []) only 0  -- nothing fits
    ∷ (49, []) only 27  -- an empty value taken
    ∷ (49, replicate 33 65) only 27  -- 33 bytes of 32
    ∷ (58, replicate 1025 65) only 27  -- 1,025 bytes of 1,024
    ∷ (58, replicate 1024 65) only 24
    ∷ (34, 48 ∷ 55 ∷ []) only 27  -- `07`: a needless zero taken
    ∷ (34, 48 ∷ []) only 2  -- `0` refused
    ∷ (34, 65 ∷ []) only 27  -- a letter as a number
    ∷ (43, 121 ∷ []) only 27  -- `y` for Y
    ∷ (43, 89 ∷ []) only 3
    ∷ (52, (50 ∷ 48 ∷ 50 ∷ 54 ∷ 49 ∷ 51 ∷ 48 ∷ 49 ∷ 45 ∷ 48 ∷ 57 ∷ 58 ∷ 51 ∷ 48 ∷ 58 ∷ 48 ∷ 48 ∷ 46 ∷ 49 ∷ 50 ∷ 51 ∷ [])) only 27  -- month 13 taken
    ∷ (52, (50 ∷ 48 ∷ 50 ∷ 54 ∷ 48 ∷ 49 ∷ 50 ∷ 49 ∷ 45 ∷ 48 ∷ 57 ∷ 58 ∷ 51 ∷ 48 ∷ 58 ∷ 48 ∷ 48 ∷ 46 ∷ 49 ∷ 50 ∷ 51 ∷ [])) only 5
    ∷ (999, 65 ∷ []) only 27  -- a tag that no type has
    ∷ (8, 65 ∷ []) only 27  -- a second 8
    ∷ []

pub fit_rules_out : RulesOut (Kept _ fit-kinds.ps fit-kinds.r fit.Post) (λ c. (c.args.0, c.args.1.0.now)) (λ c. fit_number c.result) fit_wrong
unfolding numeral all_digits said_by said_if_digits digits_at decimal_at leap days_in real_parts real_time rows row_at row_in row_of some is_number is_flag is_time time_of is_unreal suits good_value fit_row
fit_rules_out = ruled numbers (λ (i : ℕ × List ℕ). fit_row i.0 i.1) (λ c p. ap fit_number p ∙ fit_number_is c.args.0 c.args.1.0.now) _ refl
