-- CR 10: "A sound file can be written again from its values with the same bytes." A file is sound
-- exactly if it is made of values that fit,
-- and those are the values that are read from it.
use Rattle.std.specs.Prelude.{ℕ, zero, suc, ◌+◌, ◌<◌, ◌≤◌, ◌≡◌, refl, true, ◌&&◌, List, [], ◌∷◌, ◌++◌, leb, length, get_or, take, drop}
use Rattle.std.proofs.Common.{sym, ap, ◌∙◌, inl, inr, ⊎_elim, zero-add, not-suc-le-zero, le_of_suc-le-suc, arith, lit≤, length-append, length-drop, drop-drop, take_at, le-leb, leb-true}
use Rattle.terms.specs.Paper.{Paper}
use Rattle.terms.specs.Cases.{less, clash}
use Rattle.octets.specs.Octets.{sum8}
use Rattle.digits.specs.Laws.{both}
use Rattle.market_columns.specs.Numbers.{number_in, number_at}
use Rattle.market_columns.specs.NumberLaws.{SaysOrNot}
use Rattle.market_columns.proofs.NumberLaws.{number_either}
use Rattle.market_columns.specs.NumberSteps.{at_there}
use Rattle.market_columns.specs.Columns.{Column, K, N, header, alike}
use Rattle.market_columns.specs.ColumnLaws.{alike_is, alike_self}
use Rattle.market_spec.specs.File.{fine, line_fault, type_at, begins_at, count_ok, fault_of}
use Rattle.market_spec.specs.Types.{file_large, file_header, file_lines}
use Rattle.market_columns.specs.Values.{Value, Fixed, Number, Text, number_of, value_in, fits}
use Rattle.market_spec.specs.LineValues.{line_values, line_text, line_fits, line_fits_both, line_values_lem, line_text_long}
use Rattle.market_spec.specs.Told.{Told, at_place, refused, not_fine}
use Rattle.market_spec.specs.LinesValues.{Line, lines_text, lines_fit, lines_values}
use Rattle.market_spec.specs.TrailerText.{sum_text, trailer_text}
use Rattle.market_spec.proofs.Files.{line_long}
use Rattle.market_spec.proofs.LineValues.{line_reads, line_writes}
use Rattle.market_spec.proofs.LinesValues.{lines_back, lines_made}
use Rattle.market_spec.proofs.Told.{line_told}
use Rattle.market_spec.proofs.TrailerText.{trailer_is, trailer_bytes, trailer_made}
use Rattle.market_spec.specs.Sound.{sign_in, units_in, head_of, head_values, Values, Parts, body_long, file_of, body_is, values_fit, head_text, body_of, values_of, SoundIs, file_is, SoundMade, lines_few, Sound, MadeOf}

-- THE HEADER'S SHAPE

fit_at : (cs : List Column) (vs : List Value) (i : ℕ) → line_fits cs vs ≡ true → i < length cs → fits (get_or cs i (K [])) (get_or vs i Fixed) ≡ true
unfolding line_fits
fit_at [] vs i f h = absurd (not-suc-le-zero h)
fit_at (c ∷ cs) [] i f h = absurd (clash f refl)
fit_at (c ∷ cs) (v ∷ vs) zero f h = (line_fits_both c cs v vs f).0
fit_at (c ∷ cs) (v ∷ vs) (suc i) f h = fit_at cs vs i (line_fits_both c cs v vs f).1 (le_of_suc-le-suc h)

number_shape : (n d : ℕ) (w : Value) → fits (N n d) w ≡ true → w ≡ Number (sign_in w) (units_in w)
unfolding fits
number_shape n d Fixed f = absurd (clash f refl)
number_shape n d (Number m v) f = refl
number_shape n d (Text x) f = absurd (clash f refl)

-- the count's bytes
count_place : (s : List ℕ) → drop 11 (drop 9 (drop 7 s)) ≡ drop 27 s
count_place s = rw (drop-drop 9 7 s, drop-drop 11 16 s)

-- the column that counts is right exactly if it says the count
count_at : (s : List ℕ) → 82 ≤ length s → number_at 27 5 0 s ≡ number_in 0 (take 5 (drop 11 (drop 9 (drop 7 s))))
count_at s h = rw (count_place s) (at_there 27 5 0 s (le-leb (27 + 5) (length s) (omega arith)))

count_value : (k : ℕ) (s : List ℕ) → 82 ≤ length s → count_ok k s ≡ true → number_of (number_in 0 (take 5 (drop 11 (drop 9 (drop 7 s))))).values ≡ Number 0 k
count_value k s h c = ap number_of (ap (λ (p : Paper). p.values) (sym (count_at s h)) ∙ alike_is (number_at 27 5 0 s).values (0 ∷ k ∷ []) c)

value_count : (k : ℕ) (s : List ℕ) → 82 ≤ length s → number_of (number_in 0 (take 5 (drop 11 (drop 9 (drop 7 s))))).values ≡ Number 0 k → count_ok k s ≡ true
value_count k s h e = rw (count_at s h) (told (number_either 0 (take 5 (drop 11 (drop 9 (drop 7 s))))))
  where
    told : SaysOrNot (number_in 0 (take 5 (drop 11 (drop 9 (drop 7 s))))) → alike (number_in 0 (take 5 (drop 11 (drop 9 (drop 7 s))))).values (0 ∷ k ∷ []) ≡ true
    told (inl q) = let z : Fixed ≡ Number 0 k = rw q at e in let y : ◌≡◌ {A = ℕ} 0 1 = cc in absurd (omega arith)
    told (inr (m, (v, q))) =
        let z : Number m v ≡ Number 0 k = rw q at e in
        let a : m ≡ 0 = ap sign_in z in
        let b : v ≡ k = ap units_in z in
        rw (q, a, b) (alike_self (0 ∷ k ∷ []))

head_shape : (s : List ℕ) (ls : List Line) → 82 ≤ length s → line_fits header (line_values header s) ≡ true → count_ok (length ls) s ≡ true → line_values header s ≡ head_values (head_of (line_values header s) ls)
unfolding line_values value_in
head_shape s ls h f c =
    let n = number_shape 1 0 (get_or (line_values header s) 7 Fixed) (fit_at header (line_values header s) 7 f (lit≤ tt)) in
    let q = count_value (length ls) s h c in
    cc (n, q)

head_count : (s : List ℕ) (v : Values) → line_values header s ≡ head_values v → number_of (number_in 0 (take 5 (drop 11 (drop 9 (drop 7 s))))).values ≡ Number 0 (length v.lines)
unfolding line_values value_in
head_count s v g = ap (λ (vs : List Value). get_or vs 3 Fixed) g

pub parts : (s : List ℕ) (n : ℕ) → fault_of s ≡ fine n → Parts s n
parts s n p =
    ⊎_elim (λ (l : 65536 < length s). absurd (not_fine 47 0 n (λ q. omega arith) (sym (file_large s l) ∙ p)))
    (λ (l : length s ≤ 65536). told l (line_told 41 header 0 s (λ q. omega arith)))
    (less 65536 (length s))
  where
    told : length s ≤ 65536 → Told (line_fault 41 header 0 s) → Parts s n
    told l (refused m q z e) = absurd (not_fine m q n z (sym (file_header s m q l z e) ∙ p))
    told l (at_place q e) =
        let g = line_long 41 header 0 q s (λ z. omega arith) (omega arith) e in
        let j : q ≡ 82 = sym g.0 in
        record { few = l; whole = rw j at g.1; first = rw j at e; onward = rw j at (sym (file_lines s q l e) ∙ p) }

pub sound_back : (s : List ℕ) (n : ℕ) → fault_of s ≡ fine n → SoundIs s n
unfolding values_of values_fit
sound_back s n p =
    let a = parts s n p in
    let ls = lines_values (length s + 1) 82 s in
    let h = line_reads 41 header 0 82 s (λ z. omega arith) a.first in
    let l = lines_back (length s + 1) 0 82 n s a.whole a.onward in
    let t = trailer_is (0 + length ls) l.place n s l.closes in
    let k : 0 + length ls ≡ length ls = zero-add (length ls) in
    let c : count_ok (length ls) s ≡ true = rw k at t.count in
    let g : line_values header s ≡ head_values (values_of s) = head_shape s ls a.whole h.fitting c in
    let f : line_fits header (head_values (values_of s)) ≡ true = ap (line_fits header) (sym g) ∙ h.fitting in
    let x = sum8 (take (l.place + 8) s) in
    let e : s ≡ head_text (values_of s) ++ (lines_text ls ++ trailer_text x)
    = sym h.same_bytes ∙ ap (λ (hs : List Value). line_text header hs ++ drop 82 s) g ∙ ap (λ (y : List ℕ). head_text (values_of s) ++ y) (sym l.same_bytes ∙ ap (λ (y : List ℕ). lines_text ls ++ y) (trailer_bytes (0 + length ls) l.place n s l.ends t)) in
    let b : s ≡ body_of (values_of s) ++ sum_text x = e ∙ body_is (values_of s) x in
    let m : length (body_of (values_of s)) ≡ l.place + 8
    = omega (arith, body_long (values_of s), line_text_long header (head_values (values_of s)) f, ap length l.same_bytes, length-append (lines_text ls) (drop l.place s), length-drop l.place s, length-drop 82 s, l.inside, a.whole) in
    let y : take (l.place + 8) s ≡ body_of (values_of s) = ap (take (l.place + 8)) b ∙ take_at (body_of (values_of s)) (sum_text x) (l.place + 8) m in
    let w : s ≡ file_of (values_of s) = b ∙ file_is (values_of s) x (ap sum8 y) in
    record { same_bytes = w; fitting = rw (f, l.fitting, ← w, le-leb (length s) 65536 a.few); counted = sym k ∙ t.lines }

trailer_type : (x : ℕ) → type_at 0 (trailer_text x) ≡ 5
unfolding type_at begins_at alike
trailer_type x = refl

pub sound_made : (v : Values) → values_fit v ≡ true → SoundMade v
unfolding values_of values_fit
sound_made v fit =
    let p = both (leb (length (file_of v)) 65536) (line_fits header (head_values v) && lines_fit v.lines) fit in
    let q = both (line_fits header (head_values v)) (lines_fit v.lines) p.1 in
    let s = file_of v in
    let x = sum8 (body_of v) in
    let few : length s ≤ 65536 = leb-true (length s) 65536 p.0 in
    let b : s ≡ body_of v ++ sum_text x = sym (file_is v x refl) in
    let e : s ≡ head_text v ++ (lines_text v.lines ++ trailer_text x) = b ∙ sym (body_is v x) in
    let h = line_writes 41 header (head_values v) 0 s (lines_text v.lines ++ trailer_text x) q.0 (omega arith) e in
    let long : length (head_text v) ≡ 82 = line_text_long header (head_values v) q.0 in
    let size : length s ≡ length (body_of v) + length (sum_text x) = ap length b ∙ length-append (body_of v) (sum_text x) in
    let whole : 82 ≤ length s = omega (arith, body_long v) in
    let most : length v.lines < length s + 1 = omega (arith, lines_few v.lines q.1, body_long v) in
    let l = lines_made (length s + 1) 0 82 s v.lines (trailer_text x) q.1 whole h.1 (trailer_type x) most in
    let at = 82 + length (lines_text v.lines) in
    let m : length (body_of v) ≡ at + 8 = omega (arith, body_long v) in
    let y : take (at + 8) s ≡ body_of v = ap (take (at + 8)) b ∙ take_at (body_of v) (sum_text x) (at + 8) m in
    let d : drop at s ≡ trailer_text (sum8 (take (at + 8) s)) = l.onward ∙ ap (λ (z : List ℕ). trailer_text (sum8 z)) (sym y) in
    let g : line_values header s ≡ head_values v = ap (line_values header) e ∙ line_values_lem header (head_values v) (lines_text v.lines ++ trailer_text x) q.0 in
    let c : count_ok (length v.lines) s ≡ true = value_count (length v.lines) s whole (head_count s v g) in
    let z : 0 + length v.lines ≡ length v.lines = zero-add (length v.lines) in
    record {
      answered = file_lines s 82 few h.0 ∙ l.answered ∙ rw z (trailer_made (length v.lines) at s (omega (arith, m)) d c);
      same_values = rw (g, l.same_values);
    }

-- a file is sound exactly if it is made of values that fit, and those are the ones that are read
-- from it
pub sound_exactly : (s : List ℕ) → Sound s → MadeOf s (values_of s)
sound_exactly s (n, p) = let b = sound_back s n p in (b.fitting, b.same_bytes)

pub exactly_sound : (s : List ℕ) (v : Values) → MadeOf s v → Sound s
exactly_sound s v (f, e) = (length v.lines, ap fault_of e ∙ (sound_made v f).answered)

pub exactly_values : (s : List ℕ) (v : Values) → MadeOf s v → v ≡ values_of s
exactly_values s v (f, e) = sym (ap values_of e ∙ (sound_made v f).same_values)

-- "A sound file can be written again from its values with the same bytes"
pub written_of_values : (s : List ℕ) → Sound s → file_of (values_of s) ≡ s
written_of_values s g = sym (sound_exactly s g).1

pub values_of_written : (v : Values) → values_fit v ≡ true → values_of (file_of v) ≡ v
values_of_written v f = (sound_made v f).same_values
