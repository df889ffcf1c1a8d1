-- How a file is written from values, a turn of each loop at a time: judged first, then laid.
use Rattle.std.specs.Prelude.{Result, Ok, Err, ℕ, suc, ◌+◌, ◌-◌, ◌*◌, ◌≤◌, ◌<◌, ◌≡◌, refl, true, List, [], ◌∷◌, ◌++◌, get_or, take, drop, set, replicate}
use Rattle.std.proofs.Math.Path.{sym}
use Rattle.std.proofs.Common.{ap, ◌∙◌, append_assoc, append-nil, arith, add-zero, zero-add, add_assoc, lit≤, length-append, drop_of_length-le, drop-drop, drop_at, take-take, get_or-take, length-take-le, le-leb, le-ltb, ne_eqb}
use Rattle.std.proofs.Math.ListN.{length}
use Rattle.std.proofs.lemmas.List.{length-replicate}
use Rattle.terms.specs.Paper.{Paper, answer}
use Rattle.octets.specs.Octets.{be, bytes_of, laid, sum8}
use Rattle.octets.specs.Numerals.{length_digits, numeral_take}
use Rattle.octets.specs.Overlays.{laid_append, length_laid, laid_one, laid_nil, laid_front, laid_next, take_front}
use Rattle.octets.specs.Papers.{laid_if_room, laid_there}
use Rattle.digits.specs.Digits.{decimal_of}
use Rattle.digits.specs.Laws.{both, length_decimal}
use Rattle.market_columns.specs.Pieces.{take_drop}
use Rattle.market_columns.specs.Columns.{Column, K, S, N, C, U, header, columns}
use Rattle.market_columns.specs.Tables.{length_of}
use Rattle.market_columns.specs.Values.{Fixed, Number, Text, fits}
use Rattle.market_spec.specs.File.{fault, fine, and_then, layout_of, trailer}
use Rattle.market_spec.specs.Files.{each_layout, then_fine, then_fault}
use Rattle.market_spec.specs.Told.{not_fine, Told, at_place, refused}
use Rattle.market_columns.specs.Numbers.{number_fits}
use Rattle.market_spec.specs.LineValues.{line_text, line_fits, line_fits_both, line_text_long}
use Rattle.market_spec.specs.LinesValues.{Line, lines_text}
use Rattle.market_spec.specs.TrailerText.{trailer_text}
use Rattle.market_spec.specs.Sound.{Values, head_values, head_text, body_of, file_of, file_parts}
use Rattle.market_spec.specs.ValueBytes.{size_of, taken_of, taken_line, taken_fault, AllFit}
use Rattle.market_spec.specs.TakenBack.{sizes_of, row_fits_lem, RowFits, value_back}
use Rattle.market_spec.specs.FileBytes.{own, own_values, type_of, lines_taken, values_taken, lines_given, values_given}
use Rattle.market_spec.specs.BytesBack.{LineGiven, line_given, taken_end, taken_short, taken_type, taken_line_lem, given_end, given_on}
use Rattle.market_spec.specs.WrittenAgain.{given, sized, values_told, taken_fine}
use Rattle.market_values.specs.declared.Good.{Good}
use Rattle.market.specs.declared.Wrong.{Wrong}
use Rattle.market.specs.Papers.{fault_number}

-- what judging finds: the length of the file and its lines, or a fault
abbrev pub judged_paper : Result Good Wrong → Paper
judged_paper (Ok g) = answer 0 (g.size ∷ g.lines ∷ [])
judged_paper (Err w) = answer (fault_number w.fault) (w.place ∷ [])

abbrev pub good_of : List Line → Paper
good_of ls = answer 0 ((94 + length (lines_text ls)) ∷ length ls ∷ [])

unfoldable pub lines_judged : List ℕ → Paper
lines_judged s = and_then (lines_taken (length s + 1) 38 s) (λ (e : ℕ). good_of (lines_given (length s + 1) 38 s))

unfoldable pub judged_of : List ℕ → Paper
judged_of s = and_then (values_taken s) (λ (e : ℕ). good_of (values_given s).lines)

-- THE LOOP THAT JUDGES: k lines of n bytes in all are passed, header and trailer among the bytes,
-- and what is left gives the same answer

pub record JudgeLeft (s : List ℕ) (p k n : ℕ) : Type 0 where
  pub inside : p ≤ length s
  pub fuel : ℕ
  pub enough : length s < fuel + p
  pub same_answer : lines_taken fuel p s ≡ lines_taken (length s + 1) 38 s
  pub lines : k + length (lines_given fuel p s) ≡ length (lines_given (length s + 1) 38 s)
  pub long : n + length (lines_text (lines_given fuel p s)) ≡ 94 + length (lines_text (lines_given (length s + 1) 38 s))
  pub few : k ≤ p
  pub bound : 2 * n ≤ 3 * p + 74

pub judge_first : (s : List ℕ) → 38 ≤ length s → JudgeLeft s 38 0 94
judge_first s h = record { inside = h; fuel = length s + 1; enough = omega arith; same_answer = refl; lines = zero-add (length (lines_given (length s + 1) 38 s)); long = refl; few = lit≤ tt; bound = lit≤ tt }

pub layout_bound : (t : ℕ) → 2 * length_of (layout_of t) ≤ 3 * (2 + sizes_of (layout_of t))
layout_bound = each_layout (λ cs. 2 * length_of cs ≤ 3 * (2 + sizes_of cs)) (lit≤ tt) (lit≤ tt) (lit≤ tt) (lit≤ tt)

module _ (s : List ℕ) (p k n : ℕ) (z : JudgeLeft s p k n) where
  some : 1 ≤ z.fuel
  some = omega (arith, z.inside, z.enough)

  wrong : (m q : ℕ) → (m ≡ 0 → ⊥) → lines_taken z.fuel p s ≡ fault m q → fault m q ≡ lines_judged s
  unfolding lines_judged
  wrong m q x e = sym (then_fault (lines_taken (length s + 1) 38 s) (λ (i : ℕ). good_of (lines_given (length s + 1) 38 s)) m q (sym z.same_answer ∙ e) x)

  pub judge_end : length s ≤ p → answer 0 (n ∷ k ∷ []) ≡ lines_judged s
  unfolding lines_judged lines_text
  judge_end h =
      let e = given_end z.fuel p s some h in
      let a : length (lines_given z.fuel p s) ≡ 0 = rw e in
      let b : length (lines_text (lines_given z.fuel p s)) ≡ 0 = rw e in
      let u : n ≡ 94 + length (lines_text (lines_given (length s + 1) 38 s)) = omega (arith, z.long) in
      let v : k ≡ length (lines_given (length s + 1) 38 s) = omega (arith, z.lines) in
      sym (then_fine (lines_taken (length s + 1) 38 s) (λ (i : ℕ). good_of (lines_given (length s + 1) 38 s)) 0 (sym z.same_answer ∙ taken_end z.fuel p s some h) ∙ rw (u, v))

  module _ (h : p < length s) where
    pub judge_short : length s < p + 2 → fault 40 (length s) ≡ lines_judged s
    judge_short r = wrong 40 (length s) (λ q. omega arith) (taken_short z.fuel p s some h r)

    module _ (r : p + 2 ≤ length s) where
      pub judge_type : type_of (be 2 p s) ≡ 0 → fault 42 p ≡ lines_judged s
      judge_type e = wrong 42 p (λ q. omega arith) (taken_type z.fuel p s some h r e)

      module _ (t : type_of (be 2 p s) ≡ 0 → ⊥) where
        pub judge_wrong : (m q : ℕ) → (m ≡ 0 → ⊥) → taken_fault (layout_of (type_of (be 2 p s))) (p + 2) s ≡ fault m q → fault m q ≡ lines_judged s
        judge_wrong m q x e =
            wrong m q x (taken_line_lem z.fuel p s some h r t ∙ then_fault (taken_fault (layout_of (type_of (be 2 p s))) (p + 2) s) (λ (i : ℕ). lines_taken (z.fuel - 1) i s) m q e x)

        module _ (q : ℕ) (e : taken_fault (layout_of (type_of (be 2 p s))) (p + 2) s ≡ fine q) where
          row : RowFits (layout_of (type_of (be 2 p s))) (p + 2) q s
          row = row_fits_lem (layout_of (type_of (be 2 p s))) (p + 2) q s r e

          pub judge_farther : (p < q) × (q ≤ length s)
          judge_farther = (omega (arith, row.ends), row.inside)

          pub judge_next : JudgeLeft s q (k + 1) (n + length_of (layout_of (type_of (be 2 p s))))
          unfolding lines_text
          judge_next =
              let g : lines_given z.fuel p s ≡ record { kind = type_of (be 2 p s); values = taken_line (layout_of (type_of (be 2 p s))) (drop (p + 2) s) } ∷ lines_given (z.fuel - 1) q s
              = rw row.ends at (given_on z.fuel p s some h) in
              let a : length (lines_given z.fuel p s) ≡ 1 + length (lines_given (z.fuel - 1) q s) = rw g (omega arith) in
              let x = line_text (layout_of (type_of (be 2 p s))) (taken_line (layout_of (type_of (be 2 p s))) (drop (p + 2) s)) in
              let l : length x ≡ length_of (layout_of (type_of (be 2 p s))) = line_text_long (layout_of (type_of (be 2 p s))) (taken_line (layout_of (type_of (be 2 p s))) (drop (p + 2) s)) row.fitting in
              let b : length (lines_text (lines_given z.fuel p s)) ≡ length_of (layout_of (type_of (be 2 p s))) + length (lines_text (lines_given (z.fuel - 1) q s))
              = rw g (length-append x (lines_text (lines_given (z.fuel - 1) q s)) ∙ rw l) in
              record {
                inside = row.inside;
                fuel = z.fuel - 1;
                enough = omega (arith, z.enough, some, row.ends);
                same_answer = sym (taken_line_lem z.fuel p s some h r t ∙ then_fine (taken_fault (layout_of (type_of (be 2 p s))) (p + 2) s) (λ (i : ℕ). lines_taken (z.fuel - 1) i s) q e) ∙ z.same_answer;
                lines = omega (arith, z.lines, a);
                long = omega (arith, z.long, b);
                few = omega (arith, z.few, row.ends);
                bound = omega (arith, z.bound, layout_bound (type_of (be 2 p s)), row.ends);
              }

-- all values: the header's own, then the lines'
pub judged_wrong : (s : List ℕ) (m q : ℕ) → (m ≡ 0 → ⊥) → taken_fault own 0 s ≡ fault m q → fault m q ≡ judged_of s
unfolding judged_of values_taken
judged_wrong s m q z e = sym (rw (e, ne_eqb m 0 z, ne_eqb m 0 z))

pub judged_lines : (s : List ℕ) (q : ℕ) → taken_fault own 0 s ≡ fine q → (38 ≤ length s) × (lines_judged s ≡ judged_of s)
unfolding judged_of lines_judged values_taken values_given
judged_lines s q e =
    let r = row_fits_lem own 0 q s (omega arith) e in
    let x : q ≡ 38 = sym r.ends in
    let y : and_then (taken_fault own 0 s) (λ (i : ℕ). lines_taken (length s + 1) i s) ≡ lines_taken (length s + 1) 38 s = then_fine (taken_fault own 0 s) (λ (i : ℕ). lines_taken (length s + 1) i s) q e ∙ ap (λ (i : ℕ). lines_taken (length s + 1) i s) x in
    (rw x at r.inside, ap (λ (p : Paper). and_then p (λ (i : ℕ). good_of (lines_given (length s + 1) 38 s))) (sym y))

-- WHAT JUDGING FOUND

pub judged_bad : (s : List ℕ) (m q : ℕ) → (m ≡ 0 → ⊥) → fault m q ≡ judged_of s → values_taken s ≡ fault m q
unfolding judged_of
judged_bad s m q z e = by (values_told s)
  where
    by : Told (values_taken s) → values_taken s ≡ fault m q
    by (at_place i x) = let g : fault m q ≡ good_of (values_given s).lines = e ∙ rw x in absurd (z (ap (λ (p : Paper). p.number) g))
    by (refused n i y x) = x ∙ sym (e ∙ rw (x, ne_eqb n 0 y))

pub record GoodIs (s : List ℕ) (n k : ℕ) : Type 0 where
  pub taken : values_taken s ≡ fine 0
  pub size : n ≡ 94 + length (lines_text (values_given s).lines)
  pub count : k ≡ length (values_given s).lines

pub judged_good : (s : List ℕ) (n k : ℕ) → answer 0 (n ∷ k ∷ []) ≡ judged_of s → GoodIs s n k
unfolding judged_of
judged_good s n k e = by (values_told s)
  where
    by : Told (values_taken s) → GoodIs s n k
    by (at_place i x) =
        let g : answer 0 (n ∷ k ∷ []) ≡ good_of (values_given s).lines = e ∙ rw x in
        record { taken = taken_fine s i x; size = ap (λ (p : Paper). get_or p.values 0 0) g; count = ap (λ (p : Paper). get_or p.values 1 0) g }
    by (refused m i y x) = let g : answer 0 (n ∷ k ∷ []) ≡ fault m i = e ∙ rw (x, ne_eqb m 0 y) in absurd (y (sym (ap (λ (p : Paper). p.number) g)))

-- THE HEADER

-- values that fit pass
pub row_passes : (cs : List Column) (p : ℕ) (s : List ℕ) → line_fits cs (taken_line cs (drop p s)) ≡ true → p + sizes_of cs ≤ length s → taken_fault cs p s ≡ fine (p + sizes_of cs)
unfolding taken_fault taken_line
row_passes [] p s f h = rw (add-zero p)
row_passes (c ∷ cs) p s f h =
    let g = line_fits_both c cs (taken_of c (drop p s)) (taken_line cs (drop (size_of c) (drop p s))) f in
    let a : p + size_of c + sizes_of cs ≡ p + (size_of c + sizes_of cs) = add_assoc p (size_of c) (sizes_of cs) in
    rw (le-ltb (length s) (p + size_of c) (omega arith), g.0, ← a) (row_passes cs (p + size_of c) s (rw (drop-drop (size_of c) p s) at g.1) (omega arith))

-- values depend on their own bytes alone
taken_front : (c : Column) (n : ℕ) (x : List ℕ) → size_of c ≤ n → taken_of c (take n x) ≡ taken_of c x
unfolding taken_of
taken_front (K t) n x h = refl
taken_front (S w) n x h = refl
taken_front (N w d) n x h = rw (get_or-take n x 0 0 (omega arith), numeral_take 256 8 1 n x (omega arith))
taken_front (C w) n x h = ap Text (take-take w n x h)
taken_front (U w) n x h = ap Text (take-take w n x h)

row_front : (cs : List Column) (n : ℕ) (x : List ℕ) → sizes_of cs ≤ n → taken_line cs (take n x) ≡ taken_line cs x
unfolding taken_line
row_front [] n x h = refl
row_front (c ∷ cs) n x h =
    rw (taken_front c n x (omega arith), ← take_drop (size_of c) n x (omega arith), row_front cs (n - size_of c) (drop (size_of c) x) (omega arith))

pub record HeadGood (s : List ℕ) (k : ℕ) : Type 0 where
  pub whole : 38 ≤ length s
  pub count : k ≡ length (values_given s).lines
  pub fitting : line_fits header (head_values (values_given s)) ≡ true

-- the header's values as bytes: the count, then its own
abbrev pub head_bytes : ℕ → List ℕ → List ℕ
head_bytes k s = (0 ∷ bytes_of 8 k) ++ take 38 s

head_line : (h : List ℕ) → taken_line header h ≡ Fixed ∷ Fixed ∷ Fixed ∷ taken_of (N 5 0) h ∷ Fixed ∷ Fixed ∷ taken_line own (drop 9 h)
unfolding taken_line taken_of
head_line h = refl

count_fit : (v : Values) → line_fits header (head_values v) ≡ true → fits (N 5 0) (Number 0 (length v.lines)) ≡ true
unfolding line_fits fits
count_fit v f = (both (number_fits 5 0 0 (length v.lines)) (line_fits own (own_values v)) f).0

own_given : (s : List ℕ) → taken_line own s ≡ own_values (values_given s)
unfolding taken_line taken_of values_given
own_given s = refl

module _ (s : List ℕ) (k : ℕ) (g : HeadGood s k) where
  nine : length (0 ∷ bytes_of 8 k) ≡ 9
  nine = ap suc (length_digits 256 8 k)

  pub head_taken : taken_line header (head_bytes k s) ≡ head_values (values_given s)
  head_taken =
      let v = values_given s in
      let a : taken_of (N 5 0) (head_bytes k s) ≡ Number 0 k = value_back (N 5 0) (Number 0 k) (take 38 s) (rw g.count (count_fit v g.fitting)) in
      let b : drop 9 (head_bytes k s) ≡ take 38 s = drop_at (0 ∷ bytes_of 8 k) (take 38 s) 9 nine in
      head_line (head_bytes k s) ∙ rw (a, b, row_front own 38 s (lit≤ tt), own_given s, g.count)

  pub head_long : length (head_bytes k s) ≡ 47
  head_long = length-append (0 ∷ bytes_of 8 k) (take 38 s) ∙ rw (nine, length-take-le 38 s g.whole)

  pub head_all_fit : AllFit (columns 0 9) 0 (head_bytes k s)
  head_all_fit = ap (λ (p : Paper). p.number) (row_passes header 0 (head_bytes k s) (rw head_taken g.fitting) (rw head_long (lit≤ tt)))

  -- and they are what was laid over 47 zeros
  pub head_laid : (d1 d2 : List ℕ) → d1 ≡ laid_if_room 1 (bytes_of 8 k) (replicate 47 0) → d2 ≡ laid_if_room 9 (take 38 s) d1 → d2 ≡ head_bytes k s
  head_laid d1 d2 p q =
      let z : length (replicate {A = ℕ} 47 0) ≡ 47 = length-replicate {A = ℕ} 47 0 in
      let a : d1 ≡ laid 1 (bytes_of 8 k) (replicate 47 0) = p ∙ laid_there 1 8 (bytes_of 8 k) (replicate 47 0) (length_digits 256 8 k) refl in
      let b : replicate 47 0 ≡ laid 0 (0 ∷ []) (replicate 47 0) = sym (laid_front (0 ∷ []) (replicate 47 0)) in
      let c : d1 ≡ laid 0 (0 ∷ bytes_of 8 k) (replicate 47 0) = laid_next 1 (0 ∷ []) (bytes_of 8 k) (replicate 47 0) (replicate 47 0) d1 a b refl (lit≤ tt) in
      let m : length d1 ≡ 47 = ap length c ∙ length_laid 0 (0 ∷ bytes_of 8 k) (replicate 47 0) (rw nine (lit≤ tt)) in
      let l : length (take 38 s) ≡ 38 = length-take-le 38 s g.whole in
      let e : d2 ≡ laid 9 (take 38 s) d1 = q ∙ laid_there 9 38 (take 38 s) d1 l (rw m) in
      laid_next 9 (0 ∷ bytes_of 8 k) (take 38 s) (replicate 47 0) d1 d2 e c nine (lit≤ tt)
      ∙ laid_front (head_bytes k s) (replicate 47 0) ∙ rw (head_long, drop_of_length-le (replicate {A = ℕ} 47 0) {i = 47} (rw z (lit≤ tt))) (append-nil (head_bytes k s))

-- THE LINES

pub record PutLeft (s : List ℕ) (p a : ℕ) (out goal : List ℕ) : Type 0 where
  pub inside : p ≤ length s
  pub fuel : ℕ
  pub enough : length s < fuel + p
  pub good : lines_taken fuel p s ≡ fine 0
  pub room : a + length (lines_text (lines_given fuel p s)) ≤ length out
  pub same_bytes : laid a (lines_text (lines_given fuel p s)) out ≡ goal

pub put_first : (s out : List ℕ) → values_taken s ≡ fine 0 → 82 + length (lines_text (values_given s).lines) ≤ length out → PutLeft s 38 82 out (laid 82 (lines_text (values_given s).lines) out)
unfolding values_given
put_first s out e h = let g = given s e in record { inside = g.whole; fuel = length s + 1; enough = omega arith; good = g.lines_answer; room = h; same_bytes = refl }

module _ (s : List ℕ) (p a : ℕ) (out goal : List ℕ) (z : PutLeft s p a out goal) where
  pub put_end : length s ≤ p → out ≡ goal
  unfolding lines_text
  put_end h = let e = given_end z.fuel p s (omega (arith, z.inside, z.enough)) h in sym (rw e (laid_nil a out)) ∙ z.same_bytes

  module _ (h : p < length s) where
    abbrev t : ℕ
    t = type_of (be 2 p s)

    x : LineGiven z.fuel p s
    x = line_given z.fuel p s (omega (arith, z.inside, z.enough)) h z.good

    abbrev line : List ℕ
    line = line_text (layout_of t) (taken_line (layout_of t) (drop (p + 2) s))

    abbrev rest : List ℕ
    rest = lines_text (lines_given (z.fuel - 1) (p + 2 + sizes_of (layout_of t)) s)

    long : length line ≡ length_of (layout_of t)
    long = line_text_long (layout_of t) (taken_line (layout_of t) (drop (p + 2) s)) x.row.fitting

    split : lines_text (lines_given z.fuel p s) ≡ line ++ rest
    unfolding lines_text
    split = rw x.lines

    pub put_two : p + 2 ≤ length s
    put_two = x.room

    -- a line's type stands there
    pub put_some : type_of (be 2 p s) ≡ 0 → ⊥
    put_some e = not_fine 42 p 0 (λ q. omega arith) (sym (taken_type z.fuel p s (omega (arith, z.inside, z.enough)) h x.room e) ∙ z.good)

    pub put_room : a + length_of (layout_of t) ≤ length out
    put_room = omega (arith, z.room, ap length split ∙ length-append line rest, long)

    pub put_fits : AllFit (layout_of t) (p + 2) s
    put_fits = ap (λ (q : Paper). q.number) x.answered

    module _ (o : List ℕ) (q : o ≡ laid a line out) where
      pub put_kept : length o ≡ length out
      put_kept = ap length q ∙ length_laid a line out (rw long put_room)

      pub put_next : PutLeft s (p + (2 + sizes_of (layout_of t))) (a + length_of (layout_of t)) o goal
      put_next =
          let w : p + 2 + sizes_of (layout_of t) ≡ p + (2 + sizes_of (layout_of t)) = add_assoc p 2 (sizes_of (layout_of t)) in
          let e : laid a (line ++ rest) out ≡ laid (a + length_of (layout_of t)) rest (laid a line out) = rw long at (laid_append a line rest out (rw long put_room)) in
          rw (← w)
          (record {
            inside = x.row.inside;
            fuel = z.fuel - 1;
            enough = omega (arith, z.enough, z.inside);
            good = x.onward;
            room = omega (arith, z.room, ap length split ∙ length-append line rest, long, put_kept);
            same_bytes = rw q (sym e ∙ ap (λ (y : List ℕ). laid a y out) (sym split) ∙ z.same_bytes);
          })

-- THE TRAILER

abbrev pub trailer_front : List ℕ
trailer_front = trailer ++ (124 ∷ [])

module _ (at v : ℕ) (o o1 o2 : List ℕ) (r : at + 12 ≤ length o) (p : o1 ≡ laid_if_room at trailer_front o) (s : v ≡ sum8 (take (at + 8) (drop 0 o1))) (q : o2 ≡ laid_if_room (at + 8) (decimal_of 3 v) o1) where
  first : o1 ≡ laid at trailer_front o
  first = p ∙ laid_there at 8 trailer_front o refl (le-leb (at + 8) (length o) (omega arith))

  long_1 : length o1 ≡ length o
  long_1 = ap length first ∙ length_laid at trailer_front o (omega arith)

  second : o2 ≡ laid (at + 8) (decimal_of 3 v) o1
  second = q ∙ laid_there (at + 8) 3 (decimal_of 3 v) o1 (length_decimal 3 v) (le-leb (at + 8 + 3) (length o1) (omega (arith, long_1)))

  pub trailer_long : length o2 ≡ length o
  trailer_long = ap length second ∙ length_laid (at + 8) (decimal_of 3 v) o1 (rw length_decimal (omega (arith, long_1))) ∙ long_1

  pub trailer_laid : set o2 (at + 11) 10 ≡ laid at (trailer_text (sum8 (take (at + 8) (laid at trailer_front o)))) o
  trailer_laid =
      let w : sum8 (take (at + 8) (laid at trailer_front o)) ≡ v = sym (s ∙ ap (λ (x : List ℕ). sum8 (take (at + 8) x)) first) in
      let n : length (decimal_of 3 v) ≡ 3 = length_decimal 3 v in
      let i : at + 8 + 3 ≡ at + 11 = omega arith in
      let a : laid at (trailer_front ++ (decimal_of 3 v ++ (10 ∷ []))) o ≡ laid (at + 8) (decimal_of 3 v ++ (10 ∷ [])) o1 = laid_append at trailer_front (decimal_of 3 v ++ (10 ∷ [])) o (omega arith) ∙ ap (laid (at + 8) (decimal_of 3 v ++ (10 ∷ []))) (sym first) in
      let b : laid (at + 8) (decimal_of 3 v ++ (10 ∷ [])) o1 ≡ laid (at + 11) (10 ∷ []) o2 = rw (n, i, ← second) at (laid_append (at + 8) (decimal_of 3 v) (10 ∷ []) o1 (rw n (omega (arith, long_1)))) in
      rw w (sym (a ∙ b ∙ laid_one (at + 11) 10 o2 (omega (arith, trailer_long))))

-- THE FILE

body_front : (v : Values) → (head_text v ++ lines_text v.lines) ++ trailer_front ≡ body_of v
unfolding body_of
body_front v = append_assoc (head_text v) (lines_text v.lines) trailer_front

pub record FileGood (s : List ℕ) (n k : ℕ) : Type 0 where
  pub taken : values_taken s ≡ fine 0
  pub head : HeadGood s k
  pub size : n ≡ 94 + length (lines_text (values_given s).lines)

module _ (s : List ℕ) (n k : ℕ) (g : FileGood s n k) (o o1 o2 o3 : List ℕ) (r : n ≤ length o) where
  abbrev v : Values
  v = values_given s

  abbrev both_text : List ℕ
  both_text = head_text v ++ lines_text v.lines

  head_82 : length (head_text v) ≡ 82
  head_82 = line_text_long header (head_values v) g.head.fitting

  module _ (p : o1 ≡ laid 0 (head_text v) o) where
    pub file_kept_1 : length o1 ≡ length o
    file_kept_1 = ap length p ∙ length_laid 0 (head_text v) o (rw head_82 (omega (arith, g.size)))

    module _ (q : o2 ≡ laid 82 (lines_text v.lines) o1) where
      pub file_kept_2 : length o2 ≡ length o
      file_kept_2 = ap length q ∙ length_laid 82 (lines_text v.lines) o1 (omega (arith, g.size, file_kept_1)) ∙ file_kept_1

      two_laid : o2 ≡ laid 0 both_text o
      two_laid = laid_next 82 (head_text v) (lines_text v.lines) o o1 o2 q p head_82 (omega (arith, g.size))

      place : length both_text ≡ n - 12
      place = length-append (head_text v) (lines_text v.lines) ∙ rw head_82 (omega (arith, g.size))

      pub file_laid : o3 ≡ laid (n - 12) (trailer_text (sum8 (take (n - 12 + 8) (laid (n - 12) trailer_front o2)))) o2 → o3 ≡ laid 0 (file_of v) o
      file_laid e =
          let w : length (both_text ++ trailer_front) ≡ n - 12 + 8 = length-append both_text trailer_front ∙ rw place in
          let a : laid (n - 12) trailer_front o2 ≡ laid 0 (both_text ++ trailer_front) o = laid_next (n - 12) both_text trailer_front o o2 (laid (n - 12) trailer_front o2) refl two_laid place (omega arith) in
          let b : take (n - 12 + 8) (laid (n - 12) trailer_front o2) ≡ body_of v = ap (take (n - 12 + 8)) a ∙ take_front (n - 12 + 8) (both_text ++ trailer_front) o w ∙ body_front v in
          let c : o3 ≡ laid (n - 12) (trailer_text (sum8 (body_of v))) o2 = e ∙ ap (λ (x : List ℕ). laid (n - 12) (trailer_text (sum8 x)) o2) b in
          laid_next (n - 12) both_text (trailer_text (sum8 (body_of v))) o o2 o3 c two_laid place (omega arith)
          ∙ ap (λ (x : List ℕ). laid 0 x o) (append_assoc (head_text v) (lines_text v.lines) (trailer_text (sum8 (body_of v))) ∙ sym (file_parts v))

-- what was judged good, and has at most 65,536 bytes, is a good file of its length
pub good_file : (s : List ℕ) (n k : ℕ) → GoodIs s n k → n ≤ 65536 → FileGood s n k × (length (file_of (values_given s)) ≡ n)
good_file s n k j h =
    let g = given s j.taken in
    let z = (sized (values_given s) g.own_fitting g.lines_fitting).few (omega (arith, j.size)) in
    (record { taken = j.taken; head = record { whole = g.whole; count = j.count; fitting = z.1 }; size = j.size }, z.0 ∙ sym j.size)

pub good_large : (s : List ℕ) (n k : ℕ) → GoodIs s n k → 65536 < n → 65536 < length (file_of (values_given s))
good_large s n k j h = let g = given s j.taken in (sized (values_given s) g.own_fitting g.lines_fitting).many (omega (arith, j.size))
