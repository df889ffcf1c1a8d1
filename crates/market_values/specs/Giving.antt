-- How values are taken out of a line and of a file, a turn of each loop at a time.
use Rattle.std.specs.Prelude.{ℕ, zero, suc, ◌+◌, ◌-◌, ◌≤◌, ◌<◌, ◌≡◌, true, false, ◌&&◌, leb, take, drop, set}
use Rattle.std.proofs.Math.Path.{refl, sym, ap}
use Rattle.std.proofs.Common.{◌∙◌, ⊎_elim, arith, add_assoc, lit≤, length-set, drop-drop, le-leb, ne_eqb}
use mathlib.Core.List.{List, [], ◌∷◌, ◌++◌}
use Rattle.std.proofs.Math.ListN.{length, length-append}
use Rattle.std.proofs.lemmas.Bool.{lt-leb}
use Rattle.terms.specs.Paper.{Paper}
use Rattle.terms.specs.Cases.{same, clash}
use Rattle.digits.specs.Digits.{nothing}
use Rattle.octets.specs.Octets.{bytes_of, laid, sum8}
use Rattle.octets.specs.Numerals.{length_digits}
use Rattle.octets.specs.Overlays.{laid_append, length_laid, laid_one, laid_nil, laid_next}
use Rattle.octets.specs.Papers.{laid_if_room, laid_there}
use Rattle.market_columns.specs.Numbers.{amount, number_in}
use Rattle.market_columns.specs.Pieces.{column_length}
use Rattle.market_columns.specs.Columns.{Column, K, S, N, C, U, header, row_of, columns, wide, kind_of, decimals_of, FormIs, column_ok}
use Rattle.market_columns.proofs.ColumnLaws.{ok_number}
use Rattle.market_columns.specs.Values.{Value, value_in}
use Rattle.market_columns.proofs.Values.{column_reads}
use Rattle.market_columns.specs.Tables.{length_of}
use Rattle.market.specs.Starts.{start_number}
use Rattle.market.specs.declared.LineType.{LineType}
use Rattle.market.specs.declared.Start.{Start}
use Rattle.market.specs.declared.Start.TheVariants.{Line as AtLine, Trailer, Cut, Other}
use Rattle.market_spec.specs.File.{fault, fine, and_then, line_fault, lines_fault, type_at, layout_of}
use Rattle.market_spec.specs.Files.{each_layout, lines_type, lines_line}
use Rattle.market_spec.proofs.Files.{line_long}
use Rattle.market_spec.specs.Told.{not_fine, then_both}
use Rattle.market_spec.proofs.Told.{line_told}
use Rattle.market_spec.specs.Types.{type_most}
use Rattle.market_spec.specs.LinesValues.{Line, lines_fit, lines_text, lines_values, is_line_holds}
use Rattle.market_spec.specs.Sound.{Sound, head_values, body_of, file_of, values_of, values_fit, file_parts}
use Rattle.market_spec.proofs.Sound.{parts, sound_exactly}
use Rattle.market_spec.specs.TrailerText.{trailer_text}
use Rattle.market_spec.specs.WrittenAgain.{own_fits}
use Rattle.digits.specs.Laws.{both}
use Rattle.market_spec.specs.FileBytes.{own, own_values, type_number, line_bytes, lines_bytes, values_bytes, laid_if0}
use Rattle.market_spec.specs.Lines.{columns_next, columns_none}
use Rattle.market_spec.specs.LineValues.{line_values, line_fits, line_values_lem}
use Rattle.market_spec.proofs.LineValues.{line_passed, line_reads}
use Rattle.market_spec.specs.ValueBytes.{value_bytes, row_bytes, size_of}
use Rattle.market_spec.specs.TakenBack.{sizes_of, value_long, row_long}

-- A COLUMN'S VALUE, BY ITS KIND

module _ (x : List ℕ) where
  give_fixed : (c : Column) → kind_of c ≤ 1 → value_bytes (value_in c x) ≡ []
  unfolding value_in
  give_fixed (K t) e = refl
  give_fixed (S n) e = refl
  give_fixed (N n d) e = absurd (omega arith)
  give_fixed (C n) e = absurd (omega arith)
  give_fixed (U n) e = absurd (omega arith)

  give_amount : (c : Column) (m v : ℕ) → kind_of c ≡ 2 → number_in (decimals_of c) x ≡ amount m v → value_bytes (value_in c x) ≡ m ∷ bytes_of 8 v
  unfolding value_in
  give_amount (K t) m v e q = absurd (omega arith)
  give_amount (S n) m v e q = absurd (omega arith)
  give_amount (N n d) m v e q = rw q
  give_amount (C n) m v e q = absurd (omega arith)
  give_amount (U n) m v e q = absurd (omega arith)

  give_own : (c : Column) → 2 < kind_of c → value_bytes (value_in c x) ≡ x
  unfolding value_in
  give_own (K t) e = absurd (omega arith)
  give_own (S n) e = absurd (omega arith)
  give_own (N n d) e = absurd (omega arith)
  give_own (C n) e = refl
  give_own (U n) e = refl

-- a number's nine bytes: the sign stored, the units laid behind it
module _ (at m v : ℕ) (o y : List ℕ) (r : at + 9 ≤ length o) (e : y ≡ laid_if_room (at + 1) (bytes_of 8 v) (set o at m)) where
  pub nine_laid : y ≡ laid at (m ∷ bytes_of 8 v) o
  nine_laid =
      e ∙ laid_there (at + 1) 8 (bytes_of 8 v) (set o at m) (length_digits 256 8 v) (le-leb (at + 1 + 8) (length (set o at m)) (rw length-set (omega arith)))
      ∙ rw (← laid_one at m o (omega arith)) (sym (laid_append at (m ∷ []) (bytes_of 8 v) o (omega arith)))

  pub nine_kept : length y ≡ length o
  nine_kept = ap length nine_laid ∙ length_laid at (m ∷ bytes_of 8 v) o (rw (length_digits 256 8 v) r)

module _ (i p : ℕ) (s : List ℕ) (k w d start : ℕ) (f : FormIs (row_of i) k w d start) (at : ℕ) (o : List ℕ) where
  abbrev bytes : List ℕ
  bytes = value_bytes (value_in (row_of i) (take (wide (row_of i)) (drop p s)))

  pub step_none : k ≤ 1 → o ≡ laid at bytes o
  step_none h = sym (rw (give_fixed (take (wide (row_of i)) (drop p s)) (row_of i) (rw f.kind_is at h)) (laid_nil at o))

  pub step_amount : k ≡ 2 → (m v : ℕ) → number_in d (take w (drop p s)) ≡ amount m v → (y : List ℕ) → y ≡ laid at (m ∷ bytes_of 8 v) o → y ≡ laid at bytes o
  step_amount h m v q y e = e ∙ ap (λ (t : List ℕ). laid at t o) (sym (give_amount (take (wide (row_of i)) (drop p s)) (row_of i) m v (rw f.kind_is at h) (rw (f.decimals_is, f.width_is) at q)))

  pub step_clash : k ≡ 2 → number_in d (take w (drop p s)) ≡ nothing → column_ok (row_of i) (take (wide (row_of i)) (drop p s)) ≡ true → ⊥
  step_clash h q g =
      let e : number_in (decimals_of (row_of i)) (take (wide (row_of i)) (drop p s)) ≡ nothing = rw (f.decimals_is, f.width_is) at q in
      let z : column_ok (row_of i) (take (wide (row_of i)) (drop p s)) ≡ false = ok_number (take (wide (row_of i)) (drop p s)) (row_of i) (rw f.kind_is at h) ∙ rw e in
      clash g z

  pub step_own : 2 < k → p + w ≤ length s → at + w ≤ length o → (t y : List ℕ) → t ≡ take w (drop p s) → y ≡ laid_if_room at t o → y ≡ laid at bytes o
  step_own h r room t y q e =
      let l : length t ≡ w = ap length q ∙ column_length s p w r in
      e ∙ laid_there at w t o l (le-leb (at + w) (length o) room)
      ∙ ap (λ (z : List ℕ). laid at z o) (q ∙ ap (λ (n : ℕ). take n (drop p s)) f.width_is ∙ sym (give_own (take (wide (row_of i)) (drop p s)) (row_of i) (rw f.kind_is at h)))

-- A LINE WITH NOTHING WRONG, whatever number a fault would have

pub record Right (cs : List Column) (p : ℕ) (s : List ℕ) : Type 0 where
  pub wrong : ℕ
  pub some : wrong ≡ 0 → ⊥
  pub ends : ℕ
  pub good : line_fault wrong cs p s ≡ fine ends

pub record RightNext (i e p : ℕ) (s : List ℕ) : Type 0 where
  pub room : p + wide (row_of i) < length s
  pub right : column_ok (row_of i) (take (wide (row_of i)) (drop p s)) ≡ true
  pub onward : Right (columns (i + 1) e) (p + wide (row_of i) + 1) s

pub right_next : (i e p : ℕ) (s : List ℕ) → i < e → e ≤ 58 → Right (columns i e) p s → RightNext i e p s
right_next i e p s h k r =
    let q = line_passed r.wrong (row_of i) (columns (i + 1) e) p r.ends s r.some (ap (λ (cs : List Column). line_fault r.wrong cs p s) (sym (columns_next i e h k)) ∙ r.good) in
    record { room = q.room; right = q.right; onward = record { wrong = r.wrong; some = r.some; ends = r.ends; good = q.onward } }

-- its value has its column's size
pub given_long : (i e p : ℕ) (s : List ℕ) → RightNext i e p s → length (value_bytes (value_in (row_of i) (take (wide (row_of i)) (drop p s)))) ≡ size_of (row_of i)
given_long i e p s n =
    value_long (row_of i) (value_in (row_of i) (take (wide (row_of i)) (drop p s))) (column_reads (row_of i) (take (wide (row_of i)) (drop p s)) (column_length s p (wide (row_of i)) (omega (arith, n.room))) n.right).fitting

pub sizes_next : (i e : ℕ) → i < e → e ≤ 58 → sizes_of (columns i e) ≡ size_of (row_of i) + sizes_of (columns (i + 1) e)
sizes_next i e h k = ap sizes_of (columns_next i e h k)

bytes_next : (i e p : ℕ) (s : List ℕ) → i < e → e ≤ 58 → row_bytes (line_values (columns i e) (drop p s)) ≡ value_bytes (value_in (row_of i) (take (wide (row_of i)) (drop p s))) ++ row_bytes (line_values (columns (i + 1) e) (drop (p + wide (row_of i) + 1) s))
unfolding line_values row_bytes
bytes_next i e p s h k =
    let z : p + (wide (row_of i) + 1) ≡ p + wide (row_of i) + 1 = sym (add_assoc p (wide (row_of i)) 1) in
    rw (columns_next i e h k, drop-drop (wide (row_of i) + 1) p s, z)

pub bytes_none : (i e p : ℕ) (s : List ℕ) → e ≤ i → row_bytes (line_values (columns i e) (drop p s)) ≡ []
unfolding line_values row_bytes
bytes_none i e p s h = rw (columns_none i e h)

-- one value laid: what is left, laid over that, gives the same
pub given_laid : (i e p at : ℕ) (s d d1 g : List ℕ) → i < e → e ≤ 58 → RightNext i e p s → at + size_of (row_of i) ≤ length d → d1 ≡ laid at (value_bytes (value_in (row_of i) (take (wide (row_of i)) (drop p s)))) d
    → laid at (row_bytes (line_values (columns i e) (drop p s))) d ≡ g
    → laid (at + size_of (row_of i)) (row_bytes (line_values (columns (i + 1) e) (drop (p + wide (row_of i) + 1) s))) d1 ≡ g
given_laid i e p at s d d1 g h k n r q z =
    let b = value_bytes (value_in (row_of i) (take (wide (row_of i)) (drop p s))) in
    let l = given_long i e p s n in
    let t = row_bytes (line_values (columns (i + 1) e) (drop (p + wide (row_of i) + 1) s)) in
    rw (← l) (ap (laid (at + length b) t) q ∙ sym (laid_append at b t d (rw l r))) ∙ ap (λ (x : List ℕ). laid at x d) (sym (bytes_next i e p s h k)) ∙ z

-- THE LINES OF A SOUND FILE FROM A PLACE ON

pub record Lines (s : List ℕ) (p : ℕ) (ls : List Line) : Type 0 where
  pub inside : p ≤ length s
  pub fuel : ℕ
  pub count : ℕ
  pub total : ℕ
  pub good : lines_fault fuel count p s ≡ fine total
  pub are : lines_values fuel p s ≡ ls

abbrev pub line_of : ℕ → List ℕ → Line
line_of p s = record { kind = type_at p s; values = line_values (layout_of (type_at p s)) (drop p s) }

pub record LinesNext (s : List ℕ) (p : ℕ) (ls : List Line) : Type 0 where
  pub rest : List Line
  pub split : ls ≡ line_of p s ∷ rest
  pub right : Right (layout_of (type_at p s)) p s
  pub fitting : line_fits (layout_of (type_at p s)) (line_values (layout_of (type_at p s)) (drop p s)) ≡ true
  pub onward : Lines s (p + length_of (layout_of (type_at p s))) rest

next_fuel : (s : List ℕ) (p f k n : ℕ) (ls : List Line) → p ≤ length s → lines_fault f k p s ≡ fine n → lines_values f p s ≡ ls → type_at p s ≤ 4 → LinesNext s p ls
unfolding lines_fault lines_values
next_fuel s p zero k n ls i g a h = absurd (not_fine 40 (length s) n (λ q. omega arith) g)
next_fuel s p (suc f) k n ls i g a h =
    ⊎_elim (λ (z : type_at p s ≡ 0). absurd (not_fine 42 p n (λ q. omega arith) (sym (lines_type (suc f) k p s (omega arith) z) ∙ g)))
    (λ (z : type_at p s ≡ 0 → ⊥).
    let y : suc f - 1 ≡ f = omega arith in
    let not5 : type_at p s ≡ 5 → ⊥ = λ e. omega arith in
    let not6 : type_at p s ≡ 6 → ⊥ = λ e. omega arith in
    let u : and_then (line_fault 43 (layout_of (type_at p s)) p s) (λ (e : ℕ). lines_fault f (k + 1) e s) ≡ fine n = rw y at (sym (lines_line (suc f) k p s (omega arith) not5 not6 z) ∙ g) in
    let t = then_both (line_fault 43 (layout_of (type_at p s)) p s) (λ (e : ℕ). lines_fault f (k + 1) e s) n (line_told 43 (layout_of (type_at p s)) p s (λ q. omega arith)) u in
    let l = line_long 43 (layout_of (type_at p s)) p t.place s (λ q. omega arith) i t.first in
    let r = line_reads 43 (layout_of (type_at p s)) p t.place s (λ q. omega arith) t.first in
    record {
      rest = lines_values f (p + length_of (layout_of (type_at p s))) s;
      split = sym a ∙ rw (is_line_holds (type_at p s) (type_most p s) not5 not6 z);
      right = record { wrong = 43; some = λ q. omega arith; ends = t.place; good = t.first };
      fitting = r.fitting;
      onward = record { inside = rw l.0 l.1; fuel = f; count = k + 1; total = n; good = rw (← l.0) at t.second; are = refl };
    })
    (same (type_at p s) 0)

pub lines_next : (s : List ℕ) (p : ℕ) (ls : List Line) → Lines s p ls → type_at p s ≤ 4 → LinesNext s p ls
lines_next s p ls l h = next_fuel s p l.fuel l.count l.total ls l.inside l.good l.are h

end_fuel : (s : List ℕ) (p f : ℕ) → 4 < type_at p s → lines_values f p s ≡ []
unfolding lines_values
end_fuel s p zero h = refl
end_fuel s p (suc f) h = rw (lt-leb (type_at p s) 4 h, le-leb 1 (type_at p s) (omega arith))

pub lines_end : (s : List ℕ) (p : ℕ) (ls : List Line) → Lines s p ls → 4 < type_at p s → ls ≡ []
lines_end s p ls l h = sym l.are ∙ end_fuel s p l.fuel h

no_other : (s : List ℕ) (p f k n : ℕ) → lines_fault f k p s ≡ fine n → type_at p s ≡ 0 → ⊥
unfolding lines_fault
no_other s p zero k n g z = not_fine 40 (length s) n (λ q. omega arith) g
no_other s p (suc f) k n g z = not_fine 42 p n (λ q. omega arith) (sym (lines_type (suc f) k p s (omega arith) z) ∙ g)

-- the code stops where no line stands
pub lines_stop : (s : List ℕ) (p : ℕ) (ls : List Line) → Lines s p ls → (x : Start) → start_number x ≡ type_at p s → ((t : LineType) → x ≡ AtLine t → ⊥) → 4 < type_at p s
lines_stop s p ls l (AtLine t) e n = absurd (n t refl)
lines_stop s p ls l Trailer e n = omega (arith, e)
lines_stop s p ls l Cut e n = omega (arith, e)
lines_stop s p ls l Other e n = absurd (no_other s p l.fuel l.count l.total l.good (sym e))

-- the header's own columns, and the lines behind it
pub own_right : (s : List ℕ) → Sound s → Right own 49 s
own_right s (n, g) =
    let a = parts s n g in
    let z : ◌≡◌ {A = ℕ} 41 0 → ⊥ = λ q. omega arith in
    let b = line_passed 41 _ _ 0 82 s z a.first in
    let c = line_passed 41 _ _ 7 82 s z b.onward in
    let d = line_passed 41 _ _ 16 82 s z c.onward in
    let e = line_passed 41 _ _ 27 82 s z d.onward in
    let f = line_passed 41 _ _ 33 82 s z e.onward in
    let h = line_passed 41 _ _ 42 82 s z f.onward in
    record { wrong = 41; some = z; ends = 82; good = h.onward }

pub lines_first : (s : List ℕ) → Sound s → Lines s 82 (values_of s).lines
unfolding values_of
lines_first s (n, g) = let a = parts s n g in record { inside = a.whole; fuel = length s + 1; count = 0; total = n; good = a.onward; are = refl }

-- SIZES

pub layout_less : (t : ℕ) → 2 + sizes_of (layout_of t) ≤ length_of (layout_of t)
layout_less = each_layout (λ cs. 2 + sizes_of cs ≤ length_of cs) (lit≤ tt) (lit≤ tt) (lit≤ tt) (lit≤ tt)

pub line_bytes_long : (t : ℕ) (l : Line) → line_fits (layout_of t) l.values ≡ true → length (line_bytes l) ≡ 2 + sizes_of (layout_of t)
line_bytes_long t l f = rw (length-append (bytes_of 2 (type_number l.kind)) (row_bytes l.values), length_digits 256 2 (type_number l.kind), row_long (layout_of t) l.values f)

-- the header's own values
pub own_long : (s : List ℕ) → Sound s → length (row_bytes (own_values (values_of s))) ≡ 38
unfolding values_fit
own_long s g =
    let m = sound_exactly s g in
    let v = values_of s in
    let p = both (leb (length (file_of v)) 65536) (line_fits header (head_values v) && lines_fit v.lines) m.0 in
    let q = both (line_fits header (head_values v)) (lines_fit v.lines) p.1 in
    row_long own (own_values v) (own_fits v q.0)

-- what is left of the sizes
pub record SizeLeft (s : List ℕ) (p n : ℕ) : Type 0 where
  pub lines : List Line
  pub stand : Lines s p lines
  pub less : n ≤ p
  pub whole : n + length (lines_bytes lines) ≡ length (values_bytes (values_of s))

pub size_first : (s : List ℕ) → Sound s → SizeLeft s 82 38
unfolding values_bytes
size_first s g =
    record {
      lines = (values_of s).lines;
      stand = lines_first s g;
      less = lit≤ tt;
      whole = sym (length-append (row_bytes (own_values (values_of s))) (lines_bytes (values_of s).lines) ∙ rw (own_long s g));
    }

pub size_next : (s : List ℕ) (p n : ℕ) → SizeLeft s p n → type_at p s ≤ 4 → SizeLeft s (p + length_of (layout_of (type_at p s))) (n + (2 + sizes_of (layout_of (type_at p s))))
unfolding lines_bytes
size_next s p n z h =
    let x = lines_next s p z.lines z.stand h in
    let e : length (lines_bytes z.lines) ≡ 2 + sizes_of (layout_of (type_at p s)) + length (lines_bytes x.rest)
    = ap (λ (ls : List Line). length (lines_bytes ls)) x.split ∙ length-append (line_bytes (line_of p s)) (lines_bytes x.rest) ∙ rw (line_bytes_long (type_at p s) (line_of p s) x.fitting) in
    record { lines = x.rest; stand = x.onward; less = omega (arith, z.less, layout_less (type_at p s)); whole = omega (arith, z.whole, e) }

pub size_end : (s : List ℕ) (p n : ℕ) → SizeLeft s p n → 4 < type_at p s → n ≡ length (values_bytes (values_of s))
unfolding lines_bytes
size_end s p n z h = let e = lines_end s p z.lines z.stand h in let w : length (lines_bytes z.lines) ≡ 0 = rw e in omega (arith, z.whole, w)

-- THE LOOP THAT LAYS THE VALUES OF ALL LINES: what is left, laid over what stands there, gives what
-- is to be

pub record GiveLeft (s : List ℕ) (p a : ℕ) (out goal : List ℕ) : Type 0 where
  pub lines : List Line
  pub stand : Lines s p lines
  pub room : a + length (lines_bytes lines) ≤ length out
  pub same_bytes : laid a (lines_bytes lines) out ≡ goal

-- a line's bytes are laid at once, or the type first and then the values
pub line_given_laid : (a n : ℕ) (l : Line) (out o1 o2 : List ℕ) → length (row_bytes l.values) ≡ n → a + (2 + n) ≤ length out
    → o1 ≡ laid_if_room a (bytes_of 2 (type_number l.kind)) out → o2 ≡ laid (a + 2) (row_bytes l.values) o1 → (o2 ≡ laid a (line_bytes l) out) × (length o1 ≡ length out)
line_given_laid a n l out o1 o2 e r p q =
    let w : length (bytes_of 2 (type_number l.kind)) ≡ 2 = length_digits 256 2 (type_number l.kind) in
    let x : o1 ≡ laid a (bytes_of 2 (type_number l.kind)) out = p ∙ laid_there a 2 (bytes_of 2 (type_number l.kind)) out w (le-leb (a + 2) (length out) (omega arith)) in
    let y : laid a (line_bytes l) out ≡ laid (a + 2) (row_bytes l.values) (laid a (bytes_of 2 (type_number l.kind)) out)
    = rw w at (laid_append a (bytes_of 2 (type_number l.kind)) (row_bytes l.values) out (rw w (omega arith))) in
    (q ∙ ap (laid (a + 2) (row_bytes l.values)) x ∙ sym y, ap length x ∙ length_laid a (bytes_of 2 (type_number l.kind)) out (rw w (omega arith)))

module _ (s : List ℕ) (p a : ℕ) (out goal : List ℕ) (z : GiveLeft s p a out goal) where
  pub give_end : 4 < type_at p s → out ≡ goal
  unfolding lines_bytes
  give_end h = let e = lines_end s p z.lines z.stand h in sym (rw e (laid_nil a out)) ∙ z.same_bytes

  module _ (h : type_at p s ≤ 4) where
    x : LinesNext s p z.lines
    x = lines_next s p z.lines z.stand h

    abbrev l : Line
    l = line_of p s

    long : length (row_bytes l.values) ≡ sizes_of (layout_of (type_at p s))
    long = row_long (layout_of (type_at p s)) l.values x.fitting

    all : length (lines_bytes z.lines) ≡ 2 + sizes_of (layout_of (type_at p s)) + length (lines_bytes x.rest)
    unfolding lines_bytes
    all = ap (λ (ls : List Line). length (lines_bytes ls)) x.split ∙ length-append (line_bytes l) (lines_bytes x.rest) ∙ rw (line_bytes_long (type_at p s) l x.fitting)

    pub give_room : a + (2 + sizes_of (layout_of (type_at p s))) ≤ length out
    give_room = omega (arith, z.room, all)

    pub give_right : Right (layout_of (type_at p s)) p s
    give_right = x.right

    module _ (o1 o2 : List ℕ) (q1 : o1 ≡ laid_if_room a (bytes_of 2 (type_number (type_at p s))) out) (q2 : o2 ≡ laid (a + 2) (row_bytes (line_values (layout_of (type_at p s)) (drop p s))) o1) where
      pub give_kept_1 : length o1 ≡ length out
      give_kept_1 = (line_given_laid a (sizes_of (layout_of (type_at p s))) l out o1 o2 long give_room q1 q2).1

      one : o2 ≡ laid a (line_bytes l) out
      one = (line_given_laid a (sizes_of (layout_of (type_at p s))) l out o1 o2 long give_room q1 q2).0

      pub give_kept : length o2 ≡ length out
      give_kept = ap length one ∙ length_laid a (line_bytes l) out (rw (line_bytes_long (type_at p s) l x.fitting) give_room)

      pub give_next : GiveLeft s (p + length_of (layout_of (type_at p s))) (a + (2 + sizes_of (layout_of (type_at p s)))) o2 goal
      unfolding lines_bytes
      give_next =
          let e = line_bytes_long (type_at p s) l x.fitting in
          let f : laid a (lines_bytes z.lines) out ≡ laid (a + (2 + sizes_of (layout_of (type_at p s)))) (lines_bytes x.rest) (laid a (line_bytes l) out)
          = ap (λ (ls : List Line). laid a (lines_bytes ls) out) x.split ∙ (rw e at (laid_append a (line_bytes l) (lines_bytes x.rest) out (rw e give_room))) in
          record { lines = x.rest; stand = x.onward; room = omega (arith, z.room, all, give_kept); same_bytes = rw one (sym f ∙ z.same_bytes) }

pub give_first : (s out : List ℕ) → Sound s → length (values_bytes (values_of s)) ≤ length out → GiveLeft s 82 38 out (laid 38 (lines_bytes (values_of s).lines) out)
unfolding values_bytes
give_first s out g h =
    record {
      lines = (values_of s).lines;
      stand = lines_first s g;
      room = rw (length-append (row_bytes (own_values (values_of s))) (lines_bytes (values_of s).lines), own_long s g) at h;
      same_bytes = refl;
    }

-- THE WHOLE OF IT

own_place : (s : List ℕ) → drop 7 (drop 9 (drop 6 (drop 11 (drop 9 (drop 7 s))))) ≡ drop 49 s
own_place s = rw (drop-drop 9 7 s, drop-drop 11 16 s, drop-drop 6 27 s, drop-drop 9 33 s, drop-drop 7 42 s)

-- the header's own values, as they are read
pub own_values_lem : (s : List ℕ) → Sound s → line_values own (drop 49 s) ≡ own_values (values_of s)
unfolding line_values values_fit
own_values_lem s g =
    let m = sound_exactly s g in
    let v = values_of s in
    let p = both (leb (length (file_of v)) 65536) (line_fits header (head_values v) && lines_fit v.lines) m.0 in
    let q = both (line_fits header (head_values v)) (lines_fit v.lines) p.1 in
    let h : line_values header s ≡ head_values v = ap (line_values header) (m.1 ∙ file_parts v) ∙ line_values_lem header (head_values v) (lines_text v.lines ++ trailer_text (sum8 (body_of v))) q.0 in
    ap (line_values own) (sym (own_place s)) ∙ ap (drop 6) h

pub all_given : (s o o1 o2 : List ℕ) → Sound s → length (values_bytes (values_of s)) ≤ length o → o1 ≡ laid 0 (row_bytes (line_values own (drop 49 s))) o → o2 ≡ laid 38 (lines_bytes (values_of s).lines) o1 → o2 ≡ laid 0 (values_bytes (values_of s)) o
unfolding values_bytes
all_given s o o1 o2 g h p q =
    let l : 38 ≤ length o = omega (arith, length-append (row_bytes (own_values (values_of s))) (lines_bytes (values_of s).lines), own_long s g) in
    laid_next 38 (row_bytes (own_values (values_of s))) (lines_bytes (values_of s).lines) o o1 o2 q (p ∙ ap (λ (vs : List Value). laid 0 (row_bytes vs) o) (own_values_lem s g)) (own_long s g) l

pub own_kept : (s o o1 : List ℕ) → Sound s → length (values_bytes (values_of s)) ≤ length o → o1 ≡ laid 0 (row_bytes (line_values own (drop 49 s))) o → length o1 ≡ length o
unfolding values_bytes
own_kept s o o1 g h p =
    let e : length (row_bytes (line_values own (drop 49 s))) ≡ 38 = ap (λ (vs : List Value). length (row_bytes vs)) (own_values_lem s g) ∙ own_long s g in
    ap length p ∙ length_laid 0 (row_bytes (line_values own (drop 49 s))) o (rw e (omega (arith, length-append (row_bytes (own_values (values_of s))) (lines_bytes (values_of s).lines), own_long s g)))

pub own_room : (s o : List ℕ) → Sound s → length (values_bytes (values_of s)) ≤ length o → 0 + sizes_of own ≤ length o
unfolding values_bytes
own_room s o g h = omega (arith, length-append (row_bytes (own_values (values_of s))) (lines_bytes (values_of s).lines), own_long s g)

-- AN ANSWER AND A BUFFER: a refusal leaves it, 0 lays

pub not_laid : (p : Paper) (n q : ℕ) (x d : List ℕ) → (n ≡ 0 → ⊥) → p ≡ fault n q → (fault n q ≡ p) × (d ≡ laid_if0 p x d)
not_laid p n q x d z e = (sym e, rw (e, ne_eqb n 0 z))

pub is_laid : (p : Paper) (n : ℕ) (x y d : List ℕ) → p ≡ fine n → y ≡ laid 0 x d → (fine n ≡ p) × (y ≡ laid_if0 p x d)
is_laid p n x y d e q = (sym e, rw e q)

-- and what was lent to be read is bytes
pub with_bytes : {A B C : Type 0} → C → A × B → A × (B × C)
with_bytes c (a, b) = (a, (b, c))
