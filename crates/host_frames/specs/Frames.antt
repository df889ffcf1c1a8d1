-- What the host is told of frames, each from the definitions of the crates below.
use Rattle.std.specs.Prelude.{ℕ, ◌≡◌, List, [], ◌∷◌, ◌++◌, eqb, length, Result, Ok, Err, Option, Some, None}
use Rattle.terms.specs.Paper.{Paper, answer, pick}
use Rattle.rules.specs.Table.{kind_of, measure_of}
use Rattle.rules.specs.declared.Kind.TheVariants.{M201}
use Rattle.rules.specs.Fields.{named_in, tail_ok}
use Rattle.terms.specs.declared.Refusal.{Refusal}
use Rattle.terms.specs.Refusals.{number_of}
use Rattle.tails.specs.declared.Content.{Content}
use Rattle.tails.specs.declared.Content.TheVariants.{Letters, Number}
use Rattle.tails.specs.declared.TailField.{TailField}
use Rattle.tails.specs.Fields.{tail_fields, field_at}
use Rattle.broken.specs.declared.Broken.{Broken}
use Rattle.broken.specs.Broken.{broken_of}
use Rattle.frame_spec.specs.Frame.{msg_type, read_of, body_read}
use Rattle.frame_spec.specs.Search.{search_of}
use Rattle.frame_view.specs.declared.View.{View}
use Rattle.frame_view.specs.View.{view_of}
use Rattle.entries.specs.declared.Entry.{Entry}
use Rattle.entries.specs.declared.Entry.TheVariants.{Short, Long}
use Rattle.entries.specs.Papers.{entry_paper}
use Rattle.entries.specs.Reader.{open_of, step_of, place_after}
use Rattle.host_words.specs.Told.{perhaps, retold, Tells, tells_done, tells_why}

-- a row, or why there is none, as a paper: its number, and beside 0 its values
abbrev pub RowOf : Paper → Result (List ℕ) Refusal → Type 0
RowOf p (Ok row) = answer 0 row ≡ p
RowOf p (Err w) = number_of w ≡ p.number

-- such an answer told: the row is written beside 0 alone
abbrev pub AnsweredBy : Result (List ℕ) Refusal → List ℕ → ℕ → List ℕ → Type 0
AnsweredBy (Ok row) was number now = (number ≡ 0) × (now ≡ row)
AnsweredBy (Err w) was number now = (number ≡ number_of w) × (now ≡ was)

-- channel, tick number, first and last resend number, resend status
abbrev pub view_numbers : View → List ℕ
view_numbers v = v.channel.0 ∷ v.tick.0 ∷ v.first.0 ∷ v.last.0 ∷ v.status ∷ []

-- reading's four numbers, then those of the view
unfoldable pub read_told : List ℕ → Paper
read_told s = retold (λ (vs : List ℕ). vs ++ view_numbers (view_of (kind_of (msg_type s)) (body_read s))) (read_of s)

unfoldable pub search_told : List ℕ → ℕ → Paper
search_told s from = retold perhaps (search_of s from)

-- 1 for letters, 0 for a number
abbrev pub letters : Content → ℕ
letters Letters = 1
letters Number = 0

-- a field of an M201's extension; 6 where the body's length does not suit the layout that it names
abbrev pub field_numbers : TailField → List ℕ
field_numbers f = f.place ∷ f.len ∷ letters f.content ∷ pick f.is_private 1 0 ∷ []

unfoldable pub tail_number : List ℕ → ℕ
tail_number body = pick (eqb (measure_of M201 (length body)) 0) (pick (tail_ok body) 0 6) (measure_of M201 (length body))

unfoldable pub tail_told : List ℕ → ℕ → Paper
tail_told body i = answer (tail_number body) (field_numbers (field_at i (tail_fields (named_in body) (length body))))

-- the lowest field that breaks a rule: 1, place, length, number, entry; or zeros
abbrev pub broken_numbers : Option Broken → List ℕ
broken_numbers (Some f) = 1 ∷ f.place ∷ f.len ∷ f.index ∷ f.entry ∷ []
broken_numbers None = 0 ∷ 0 ∷ 0 ∷ 0 ∷ 0 ∷ []

unfoldable pub broken_told : ℕ → List ℕ → Paper
broken_told type body = answer (measure_of (kind_of type) (length body)) (broken_numbers (broken_of (kind_of type) body))

-- the first entry stands at 73
unfoldable pub entries_told : List ℕ → Paper
entries_told body = answer (open_of body) (73 ∷ [])

-- an entry of MD001 has type and price alone: 1 before them, 0 for size and position; any other has
-- all four, and 0 before them
unfoldable pub entry_numbers : List ℕ → List ℕ
entry_numbers vs = pick (eqb (length vs) 2) (1 ∷ (vs ++ (0 ∷ 0 ∷ []))) (0 ∷ vs)

-- then the place behind it
unfoldable pub entry_told : List ℕ → ℕ → Paper
entry_told body place = retold (λ (vs : List ℕ). entry_numbers vs ++ (place_after body place ∷ [])) (step_of body place)

-- PROOFS

pub row_tells : (p : Paper) (r : Result (List ℕ) Refusal) (was now : List ℕ) (number : ℕ) → RowOf p r → AnsweredBy r was number now → Tells p was number now
row_tells p (Ok row) was now number e a = rw (a.0, a.1) (tells_done p was row e)
row_tells p (Err w) was now number e a = rw a.1 (tells_why p was w number a.0 e)

pub read_told_lem : (s : List ℕ) (type time seq len : ℕ) (v : View) → answer 0 (type ∷ time ∷ seq ∷ len ∷ []) ≡ read_of s → v ≡ view_of (kind_of (msg_type s)) (body_read s)
    → answer 0 (type ∷ time ∷ seq ∷ len ∷ view_numbers v) ≡ read_told s
unfolding read_told
read_told_lem s type time seq len v e f = rw (← e, f)

pub entry_told_lem : (body : List ℕ) (place : ℕ) (e : Entry) (behind : ℕ) (row : List ℕ) → entry_paper e ≡ step_of body place → behind ≡ place_after body place
    → row ≡ entry_numbers (entry_paper e).values ++ (behind ∷ []) → answer 0 row ≡ entry_told body place
unfolding entry_told
entry_told_lem body place (Short kind price) behind row e f g = rw (← e, ← f, g)
entry_told_lem body place (Long kind price size position) behind row e f g = rw (← e, ← f, g)
