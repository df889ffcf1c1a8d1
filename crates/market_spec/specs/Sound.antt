-- CR 10: "A sound file can be written again from its values with the same bytes." A file is sound
-- exactly if it is made of values that fit,
-- and those are the values that are read from it.
use Rattle.std.specs.Prelude.{ℕ, ◌+◌, ◌≤◌, ◌≡◌, refl, Bool, true, ◌&&◌, List, [], ◌∷◌, ◌++◌, leb, length, get_or}
use Rattle.std.proofs.Common.{sym, ap, ◌∙◌, append_assoc, arith, lit≤, length-append}
use Rattle.octets.specs.Octets.{sum8}
use Rattle.digits.specs.Laws.{both}
use Rattle.market_columns.specs.Columns.{header}
use Rattle.market_spec.specs.File.{fine, line_fault, lines_fault, layout_of, trailer, fault_of}
use Rattle.market_spec.specs.Files.{layout_some}
use Rattle.market_columns.specs.Values.{Value, Fixed, Number, Text}
use Rattle.market_spec.specs.LineValues.{line_values, line_text, line_fits, line_text_long}
use Rattle.market_spec.specs.LinesValues.{Line, is_line, text_of_line, lines_text, lines_fit, lines_values}
use Rattle.market_spec.specs.TrailerText.{sum_text, trailer_text}

-- what a file says: of the header MDTime, MDUpdateType (sign and units) and MktStatus, then the
-- lines. Count and sum follow from these
pub record Values : Type 0 where
  pub time : List ℕ
  pub sign : ℕ
  pub update : ℕ
  pub status : List ℕ
  pub lines : List Line

-- WRITING

-- the header's nine columns
abbrev pub head_values : Values → List Value
head_values v = Fixed ∷ Fixed ∷ Fixed ∷ Number 0 (length v.lines) ∷ Fixed ∷ Fixed ∷ Text v.time ∷ Number v.sign v.update ∷ Text v.status ∷ []

abbrev pub head_text : Values → List ℕ
head_text v = line_text header (head_values v)

-- all that the sum is made of, then the sum
unfoldable pub body_of : Values → List ℕ
body_of v = head_text v ++ (lines_text v.lines ++ (trailer ++ (124 ∷ [])))

unfoldable pub file_of : Values → List ℕ
file_of v = body_of v ++ sum_text (sum8 (body_of v))

-- values that fit: each its column, and all of them a file of at most 65,536 bytes
unfoldable pub values_fit : Values → Bool
values_fit v = leb (length (file_of v)) 65536 && (line_fits header (head_values v) && lines_fit v.lines)

-- READING

abbrev pub text_in : Value → List ℕ
text_in Fixed = []
text_in (Number m v) = []
text_in (Text x) = x

abbrev pub sign_in : Value → ℕ
sign_in Fixed = 0
sign_in (Number m v) = m
sign_in (Text x) = 0

abbrev pub units_in : Value → ℕ
units_in Fixed = 0
units_in (Number m v) = v
units_in (Text x) = 0

abbrev pub head_of : List Value → List Line → Values
head_of hs ls = record { time = text_in (get_or hs 6 Fixed); sign = sign_in (get_or hs 7 Fixed); update = units_in (get_or hs 7 Fixed); status = text_in (get_or hs 8 Fixed); lines = ls }

unfoldable pub values_of : List ℕ → Values
values_of s = head_of (line_values header s) (lines_values (length s + 1) 82 s)

-- A SOUND FILE IS MADE OF ITS VALUES

pub record SoundIs (s : List ℕ) (n : ℕ) : Type 0 where
  pub same_bytes : s ≡ file_of (values_of s)
  pub fitting : values_fit (values_of s) ≡ true
  pub counted : length (values_of s).lines ≡ n

pub record Parts (s : List ℕ) (n : ℕ) : Type 0 where
  pub few : length s ≤ 65536
  pub whole : 82 ≤ length s
  pub first : line_fault 41 header 0 s ≡ fine 82
  pub onward : lines_fault (length s + 1) 0 82 s ≡ fine n

-- header, lines and a trailer that says x are a body and the sum's text
joined : (a b : List ℕ) (x : ℕ) → a ++ (b ++ trailer_text x) ≡ (a ++ (b ++ (trailer ++ (124 ∷ [])))) ++ sum_text x
joined a b x = sym (append_assoc a (b ++ (trailer ++ (124 ∷ []))) (sum_text x) ∙ ap (λ (y : List ℕ). a ++ y) (append_assoc b (trailer ++ (124 ∷ [])) (sum_text x)))

pub body_long : (v : Values) → length (body_of v) ≡ length (head_text v) + length (lines_text v.lines) + 8
unfolding body_of
body_long v = rw (length-append (head_text v) (lines_text v.lines ++ (trailer ++ (124 ∷ []))), length-append (lines_text v.lines) (trailer ++ (124 ∷ []))) (omega arith)

pub body_is : (v : Values) (x : ℕ) → head_text v ++ (lines_text v.lines ++ trailer_text x) ≡ body_of v ++ sum_text x
unfolding body_of
body_is v x = joined (head_text v) (lines_text v.lines) x

pub file_is : (v : Values) (x : ℕ) → x ≡ sum8 (body_of v) → body_of v ++ sum_text x ≡ file_of v
unfolding file_of
file_is v x q = ap (λ (y : ℕ). body_of v ++ sum_text y) q

-- a file's three parts
pub file_parts : (v : Values) → file_of v ≡ head_text v ++ (lines_text v.lines ++ trailer_text (sum8 (body_of v)))
file_parts v = sym (file_is v (sum8 (body_of v)) refl) ∙ sym (body_is v (sum8 (body_of v)))

-- FITTING VALUES MAKE A SOUND FILE, WHICH SAYS THEM

-- every line has bytes
pub lines_few : (ls : List Line) → lines_fit ls ≡ true → length ls ≤ length (lines_text ls)
unfolding lines_text lines_fit
lines_few [] f = lit≤ tt
lines_few (l ∷ ls) f =
    let p = both (is_line l.kind && line_fits (layout_of l.kind) l.values) (lines_fit ls) f in
    let q = both (is_line l.kind) (line_fits (layout_of l.kind) l.values) p.0 in
    rw (length-append (text_of_line l) (lines_text ls)) (omega (arith, line_text_long (layout_of l.kind) l.values q.1, layout_some l.kind, lines_few ls p.1))

pub record SoundMade (v : Values) : Type 0 where
  pub answered : fault_of (file_of v) ≡ fine (length v.lines)
  pub same_values : values_of (file_of v) ≡ v

-- THE THEOREMS, OUTRIGHT

-- a file is sound: `check` answers 0, with some number of lines
abbrev pub Sound : List ℕ → Type 0
Sound s = (n : ℕ) × (fault_of s ≡ fine n)

-- a file is made of values that fit
abbrev pub MadeOf : List ℕ → Values → Type 0
MadeOf s v = (values_fit v ≡ true) × (s ≡ file_of v)
