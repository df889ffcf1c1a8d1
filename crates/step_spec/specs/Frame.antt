-- What reading a STEP frame answers: the checks in the order 23, 24, 3, 25, 5, 7, 26. A check says
-- 0 where it passes, 1 where the bytes end before it is decided, and its own number as soon as no
-- further bytes can mend it.
use Rattle.std.specs.Prelude.{ℕ, suc, ◌+◌, ◌-◌, ◌&&◌, List, [], ◌∷◌, ◌++◌, eqb, leb, ltb, length, get_or, take, drop}
use Rattle.terms.specs.Paper.{Paper, answer, refusal, pick}
use Rattle.terms.specs.Checks.{or_else}
use Rattle.octets.specs.Octets.{sum8}
use Rattle.digits.specs.Digits.{is_digit, decimal_of, decimal_at, plain}
use Rattle.step_tags.specs.Table.{among, types}
use Rattle.step_tags.specs.Forms.{some}
use Rattle.step_spec.specs.Pieces.{SOH}
use Rattle.step_spec.specs.Fields.{judge_of}

-- `8=FIXT.1.1` SOH, `9=`, `35=`
abbrev pub begin : List ℕ
begin = 56 ∷ 61 ∷ 70 ∷ 73 ∷ 88 ∷ 84 ∷ 46 ∷ 49 ∷ 46 ∷ 49 ∷ 1 ∷ []

abbrev pub length_tag : List ℕ
length_tag = 57 ∷ 61 ∷ []

abbrev pub type_tag : List ℕ
type_tag = 51 ∷ 53 ∷ 61 ∷ []

-- `10=`, three digits, SOH
unfoldable pub trailer_of : ℕ → List ℕ
trailer_of v = 49 ∷ 48 ∷ 61 ∷ (decimal_of 3 v ++ (SOH ∷ []))

-- s begins with the bytes ls: 0; it ends before that is decided: 1; a byte differs: why
unfoldable pub front : ℕ → List ℕ → List ℕ → ℕ
front why [] s = 0
front why (l ∷ ls) [] = 1
front why (l ∷ ls) (x ∷ xs) = pick (eqb x l) (front why ls xs) why

-- how many digits stand in front
unfoldable pub digit_run : List ℕ → ℕ
digit_run [] = 0
digit_run (x ∷ xs) = pick (is_digit x) (suc (digit_run xs)) 0

-- THE LENGTH FIELD: behind `9=` one to nine digits with no needless zero, then SOH; so ten
-- bytes decide it

abbrev pub window : List ℕ → List ℕ
window s = take 10 (drop 13 s)

unfoldable pub length_check : List ℕ → ℕ
length_check w =
    pick (leb (digit_run w) 9 && plain (digit_run w) (get_or w 0 0))
    (pick (ltb (digit_run w) (length w)) (pick (eqb (get_or w (digit_run w) 0) SOH && some (decimal_at 0 (digit_run w) w).values) 0 24) 1)
    24

-- where the body starts, how long it is, where it ends, how long the frame is
unfoldable pub body_start : List ℕ → ℕ
body_start s = 14 + digit_run (window s)

unfoldable pub body_length : List ℕ → ℕ
body_length s = get_or (decimal_at 0 (digit_run (window s)) (window s)).values 0 0

abbrev pub body_end : List ℕ → ℕ
body_end s = body_start s + body_length s

abbrev pub frame_length : List ℕ → ℕ
frame_length s = body_end s + 7

unfoldable pub long_check : List ℕ → ℕ
long_check s = pick (leb (frame_length s) 8192) 0 3

-- THE TYPE: `35=`, one of the seven, SOH; a body below five bytes has no room for it

unfoldable pub kind_check : List ℕ → ℕ
kind_check [] = 1
kind_check (x ∷ xs) = pick (among x types) (front 25 (SOH ∷ []) xs) 25

unfoldable pub type_check : List ℕ → ℕ
type_check s = pick (leb 5 (body_length s)) (or_else (front 25 type_tag (drop (body_start s) s)) (kind_check (drop (body_start s + 3) s))) 25

abbrev pub kind : List ℕ → ℕ
kind s = get_or s (body_start s + 3) 0

unfoldable pub head_of : List ℕ → ℕ
head_of s = or_else (front 23 begin s) (or_else (front 24 length_tag (drop 11 s)) (or_else (length_check (window s)) (or_else (long_check s) (type_check s))))

-- THE SUM: the body's last byte is SOH, and behind it stands the trailer with the sum of all
-- bytes before it

unfoldable pub sum_check : ℕ → List ℕ → ℕ
sum_check e s = pick (leb e (length s)) (pick (eqb (get_or s (e - 1) 0) SOH) (front 5 (trailer_of (sum8 (take e s))) (drop e s)) 5) 1

-- the fields behind the type
abbrev pub fields : List ℕ → List ℕ
fields s = take (body_length s - 5) (drop (body_start s + 5) s)

-- THE WHOLE

unfoldable pub verdict_of : List ℕ → ℕ
verdict_of s = or_else (head_of s) (or_else (sum_check (body_end s) s) (judge_of (kind s) (fields s)))

-- type, place and length of the fields, length of the frame
abbrev pub accepted : List ℕ → Paper
accepted s = answer 0 (kind s ∷ (body_start s + 5) ∷ (body_length s - 5) ∷ frame_length s ∷ [])

unfoldable pub step_read_of : List ℕ → Paper
step_read_of s = pick (eqb (verdict_of s) 0) (accepted s) (refusal (verdict_of s))
