-- Samples for the tables of wrong answers: files and values that are made up.
use Rattle.std.specs.Prelude.{ℕ, ◌+◌, List, [], ◌∷◌, ◌++◌}

-- `HEADER|BTH1.00 |          |`, five bytes of the count, `|        |SSEIN
-- |20260102-09:30:00.000|0|3       ` and a newline
abbrev pub head_front : List ℕ
head_front = 72 ∷ 69 ∷ 65 ∷ 68 ∷ 69 ∷ 82 ∷ 124 ∷ 66 ∷ 84 ∷ 72 ∷ 49 ∷ 46 ∷ 48 ∷ 48 ∷ 32 ∷ 124 ∷ 32 ∷ 32 ∷ 32 ∷ 32 ∷ 32 ∷ 32 ∷ 32 ∷ 32 ∷ 32 ∷ 32 ∷ 124 ∷ []

abbrev pub head_back : List ℕ
head_back = 124 ∷ 32 ∷ 32 ∷ 32 ∷ 32 ∷ 32 ∷ 32 ∷ 32 ∷ 32 ∷ 124 ∷ 83 ∷ 83 ∷ 69 ∷ 73 ∷ 78 ∷ 32 ∷ 124 ∷ 50 ∷ 48 ∷ 50 ∷ 54 ∷ 48 ∷ 49 ∷ 48 ∷ 50 ∷ 45 ∷ 48 ∷ 57 ∷ 58 ∷ 51 ∷ 48 ∷ 58 ∷ 48 ∷ 48 ∷ 46 ∷ 48 ∷ 48 ∷ 48 ∷ 124 ∷ 48 ∷ 124 ∷ 51 ∷ 32 ∷ 32 ∷ 32 ∷ 32 ∷ 32 ∷ 32 ∷ 32 ∷ 10 ∷ []

abbrev pub head_line : ℕ → List ℕ
head_line digit = head_front ++ (32 ∷ 32 ∷ 32 ∷ 32 ∷ digit ∷ head_back)

-- `MD405|00001|`, a name that holds a bar and a newline, `|SAMPLE         |`, three prices, `|N|
-- 100|09:30:00.000` and a newline
abbrev pub line_front : List ℕ
line_front = 77 ∷ 68 ∷ 52 ∷ 48 ∷ 53 ∷ 124 ∷ 48 ∷ 48 ∷ 48 ∷ 48 ∷ 49 ∷ 124 ∷ []

abbrev pub odd_name : List ℕ
odd_name = 124 ∷ 10 ∷ 65 ∷ 0 ∷ 65 ∷ 0 ∷ 65 ∷ 0 ∷ 65 ∷ 0 ∷ 65 ∷ 0 ∷ 65 ∷ 0 ∷ 65 ∷ 0 ∷ 65 ∷ 0 ∷ 65 ∷ 0 ∷ 65 ∷ 0 ∷ 65 ∷ 0 ∷ 65 ∷ 0 ∷ 65 ∷ 0 ∷ 65 ∷ 0 ∷ 65 ∷ 0 ∷ []

abbrev pub line_middle : List ℕ
line_middle = 124 ∷ 83 ∷ 65 ∷ 77 ∷ 80 ∷ 76 ∷ 69 ∷ 32 ∷ 32 ∷ 32 ∷ 32 ∷ 32 ∷ 32 ∷ 32 ∷ 32 ∷ 32 ∷ 124 ∷ []

abbrev pub price : List ℕ
price = 32 ∷ 32 ∷ 32 ∷ 32 ∷ 32 ∷ 49 ∷ 50 ∷ 46 ∷ 51 ∷ 52 ∷ 53 ∷ []  -- 12.345

abbrev pub below : List ℕ
below = 32 ∷ 32 ∷ 32 ∷ 32 ∷ 32 ∷ 45 ∷ 48 ∷ 46 ∷ 53 ∷ 48 ∷ 48 ∷ []  -- -0.500

abbrev pub round : List ℕ
round = 32 ∷ 32 ∷ 32 ∷ 32 ∷ 32 ∷ 49 ∷ 51 ∷ 46 ∷ 48 ∷ 48 ∷ 48 ∷ []  -- 13.000

abbrev pub line_back : List ℕ
line_back = 124 ∷ 78 ∷ 124 ∷ 32 ∷ 32 ∷ 32 ∷ 32 ∷ 32 ∷ 32 ∷ 32 ∷ 32 ∷ 32 ∷ 49 ∷ 48 ∷ 48 ∷ 124 ∷ 48 ∷ 57 ∷ 58 ∷ 51 ∷ 48 ∷ 58 ∷ 48 ∷ 48 ∷ 46 ∷ 48 ∷ 48 ∷ 48 ∷ 10 ∷ []

abbrev pub line_with : List ℕ → List ℕ → List ℕ → List ℕ → List ℕ
line_with name a b c = line_front ++ (name ++ (line_middle ++ (a ++ (124 ∷ (b ++ (124 ∷ (c ++ line_back)))))))

abbrev pub line : List ℕ
line = line_with odd_name price below round

-- `TRAILER|`, three digits and a newline
abbrev pub trailer_line : ℕ → ℕ → ℕ → List ℕ
trailer_line a b c = 84 ∷ 82 ∷ 65 ∷ 73 ∷ 76 ∷ 69 ∷ 82 ∷ 124 ∷ (48 + a) ∷ (48 + b) ∷ (48 + c) ∷ 10 ∷ []

abbrev pub sample : List ℕ
sample = head_line 49 ++ (line ++ trailer_line 0 4 9)

-- the values of the sample: of its header, then of its line
abbrev pub head_values_bytes : List ℕ
head_values_bytes = 50 ∷ 48 ∷ 50 ∷ 54 ∷ 48 ∷ 49 ∷ 48 ∷ 50 ∷ 45 ∷ 48 ∷ 57 ∷ 58 ∷ 51 ∷ 48 ∷ 58 ∷ 48 ∷ 48 ∷ 46 ∷ 48 ∷ 48 ∷ 48 ∷ 0 ∷ 0 ∷ 0 ∷ 0 ∷ 0 ∷ 0 ∷ 0 ∷ 0 ∷ 0 ∷ 51 ∷ 32 ∷ 32 ∷ 32 ∷ 32 ∷ 32 ∷ 32 ∷ 32 ∷ []

abbrev pub number : ℕ → ℕ → ℕ → List ℕ
number sign high low = sign ∷ 0 ∷ 0 ∷ 0 ∷ 0 ∷ 0 ∷ 0 ∷ high ∷ low ∷ []

-- 405, the code, a name, `SAMPLE         `, 12.345, a price, 13.000, `N`, 100, `09:30:00.000`
abbrev pub line_values_with : List ℕ → List ℕ → List ℕ
line_values_with name second =
    1 ∷ 149 ∷ 48 ∷ 48 ∷ 48 ∷ 48 ∷ 49 ∷ (name ++ ((83 ∷ 65 ∷ 77 ∷ 80 ∷ 76 ∷ 69 ∷ 32 ∷ 32 ∷ 32 ∷ 32 ∷ 32 ∷ 32 ∷ 32 ∷ 32 ∷ 32 ∷ []) ++ (number 0 48 57 ++ (second ++ (number 0 50 200 ++ (78 ∷ (number 0 0 100 ++ (48 ∷ 57 ∷ 58 ∷ 51 ∷ 48 ∷ 58 ∷ 48 ∷ 48 ∷ 46 ∷ 48 ∷ 48 ∷ 48 ∷ []))))))))

abbrev pub sample_values : List ℕ
sample_values = head_values_bytes ++ line_values_with odd_name (number 1 1 244)
