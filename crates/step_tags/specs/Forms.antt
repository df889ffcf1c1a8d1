-- Paper 001, 2.2.1: the forms of a value. A value lies between `=` and SOH, so text holds any
-- byte but SOH.
use Rattle.std.specs.Prelude.{ℕ, ◌+◌, ◌*◌, Bool, true, false, not, ◌&&◌, ◌||◌, List, [], ◌∷◌, eqb, leb, length, get_or, Option, Some, None}
use Rattle.std.specs.Bool.{then_some}
use Rattle.terms.specs.Paper.{pick}
use Rattle.digits.specs.Digits.{decimal_at, digits_at}
use Rattle.calendar.specs.Calendar.{real_time}
use Rattle.step_tags.specs.Table.{C, N, B, T, row_at, row_of}

-- text of 1 to w bytes
abbrev pub is_text : ℕ → List ℕ → Bool
is_text w v = leb 1 (length v) && leb (length v) w

unfoldable pub some : List ℕ → Bool
some [] = false
some (x ∷ xs) = true

-- 1 to w digits, with no needless zero in front
unfoldable pub is_number : ℕ → List ℕ → Bool
is_number w v = leb (length v) w && some (decimal_at 0 (length v) v).values

-- `Y` or `N`
unfoldable pub is_flag : List ℕ → Bool
is_flag v = eqb (length v) 1 && (eqb (get_or v 0 0) 89 || eqb (get_or v 0 0) 78)

-- the n bytes from a place on are digits; the number that they say
abbrev pub digits_in : ℕ → ℕ → List ℕ → Bool
digits_in at n v = some (digits_at at n v).values

abbrev pub number_at : ℕ → ℕ → List ℕ → ℕ
number_at at n v = get_or (digits_at at n v).values 0 0

-- `YYYYMMDD-HH:mm:SS.sss`
unfoldable pub is_time : List ℕ → Bool
is_time v =
    eqb (length v) 21
    && ((((((((eqb (get_or v 8 0) 45 && eqb (get_or v 11 0) 58) && eqb (get_or v 14 0) 58) && eqb (get_or v 17 0) 46)
    && digits_in 0 8 v) && digits_in 9 2 v) && digits_in 12 2 v) && digits_in 15 2 v) && digits_in 18 3 v)

-- the number that its 17 digits say
unfoldable pub time_of : List ℕ → ℕ
time_of v = (((number_at 0 8 v * 100 + number_at 9 2 v) * 100 + number_at 12 2 v) * 100 + number_at 15 2 v) * 1000 + number_at 18 3 v

-- the number of a value of that form
abbrev pub time_if : List ℕ → Option ℕ
time_if v = then_some (is_time v) (time_of v)

-- of that form, and no time of the calendar
unfoldable pub is_unreal : List ℕ → Bool
is_unreal v = is_time v && not (real_time (time_of v))

-- a value of the form and width of a row
unfoldable pub suits : ℕ → ℕ → List ℕ → Bool
suits f w v = pick (eqb f C) (is_text w v) (pick (eqb f N) (is_number w v) (pick (eqb f B) (is_flag v) (pick (eqb f T) (is_time v) false)))

abbrev pub form_ok : ℕ → List ℕ → Bool
form_ok i v = suits (row_at i).form (row_at i).width v

-- a real time of the calendar in that form
unfoldable pub is_real_time : List ℕ → Bool
is_real_time v = is_time v && real_time (time_of v)

-- THE ROW OF A FIELD whose value has its form and, where it is a time, is real; 27 for any other
unfoldable pub good_value : ℕ → ℕ → List ℕ → Bool
good_value f w v = suits f w v && not (eqb f T && is_unreal v)

unfoldable pub fit_row : ℕ → List ℕ → ℕ
fit_row t v = pick (good_value (row_at (row_of t)).form (row_at (row_of t)).width v) (row_of t) 27

-- the same where 27 is no row
abbrev pub fit_of : ℕ → List ℕ → Option ℕ
fit_of t v = then_some (good_value (row_at (row_of t)).form (row_at (row_of t)).width v) (row_of t)

abbrev pub fit_number : Option ℕ → ℕ
fit_number (Some row) = row
fit_number None = 27
