-- What the readings of a walk are, all together: their places rise, no frame is lost, and
-- they are few.
use Prim.Native.Nat.{ℕ, zero, suc, ◌+◌, ◌-◌, ◌*◌, ◌/◌, ◌≤◌, ◌<◌}
use Rattle.std.specs.Prelude.{◌≡◌, ◌⊎◌, length, drop}
use Rattle.std.proofs.Math.Path.{refl}
use Rattle.std.proofs.Common.{ap}
use Rattle.std.proofs.Math.Logic.{inl, inr, ⊎_elim}
use mathlib.Core.List.{List, [], ◌∷◌, ◌++◌}
use native.Mathlib.Omega.{arith}
use Rattle.walk_laws.specs.Walk.{Says, frame, more, bad, Sight, Mode, within, seeking, after, next, found, noted, sights_of}

-- PLACES RISE

-- each place is at least p, and above the one before it
pub data Rising {R : Type 0} : ℕ → List (Sight R) → Type 0 where
  r_nil : {p : ℕ} → Rising p []
  r_cons : {p : ℕ} {x : Sight R} {xs : List (Sight R)} → p ≤ x.place → Rising (x.place + 1) xs → Rising p (x ∷ xs)

later : {R : Type 0} (p q : ℕ) (xs : List (Sight R)) → p ≤ q → Rising q xs → Rising p xs
later p q xs h r_nil = r_nil
later p q xs h (r_cons {x = x} a r) = r_cons {p = p} {x = x} (omega arith) r

module _ {R : Type 0} (read_of : List ℕ → R) (says_of : R → Says) where
  rise_found : (w : Says) (p : ℕ) (r : R) (xs : List (Sight R)) → Rising (p + 1) xs → Rising p (found w p r ++ xs)
  unfolding found
  rise_found (frame n) p r xs h = r_cons {p = p} {x = record { place = p; read = r }} (omega arith) h
  rise_found more p r xs h = later p (p + 1) xs (omega arith) h
  rise_found bad p r xs h = later p (p + 1) xs (omega arith) h

  rise_noted : (m : Mode) (w : Says) (p : ℕ) (r : R) (xs : List (Sight R)) → Rising (p + 1) xs → Rising p (noted m w p r ++ xs)
  unfolding noted
  rise_noted (within zero) w p r xs h = r_cons {p = p} {x = record { place = p; read = r }} (omega arith) h
  rise_noted (within (suc k)) w p r xs h = later p (p + 1) xs (omega arith) h
  rise_noted seeking w p r xs h = rise_found w p r xs h

  pub places_rise : (m : Mode) (p : ℕ) (s : List ℕ) → Rising p (sights_of read_of says_of m p s)
  unfolding sights_of
  places_rise m p [] = r_nil
  places_rise m p (b ∷ s) = rise_noted m _ p _ _ (places_rise (next m (says_of (read_of (b ∷ s)))) (p + 1) s)

-- NO FRAME IS LOST

-- the place q lies inside a recorded frame, and is not its first
pub data Inside {R : Type 0} (says_of : R → Says) (q : ℕ) : List (Sight R) → Type 0 where
  i_in : {x : Sight R} {xs : List (Sight R)} (n : ℕ) → says_of x.read ≡ frame n → x.place < q → q < x.place + n → Inside says_of q (x ∷ xs)
  i_later : {x : Sight R} {xs : List (Sight R)} → Inside says_of q xs → Inside says_of q (x ∷ xs)

-- it is recorded, or lies inside a recorded frame
pub data Has {R : Type 0} (says_of : R → Says) (q : ℕ) : List (Sight R) → Type 0 where
  h_at : {x : Sight R} {xs : List (Sight R)} → x.place ≡ q → Has says_of q (x ∷ xs)
  h_in : {xs : List (Sight R)} → Inside says_of q xs → Has says_of q xs
  h_later : {x : Sight R} {xs : List (Sight R)} → Has says_of q xs → Has says_of q (x ∷ xs)

module _ {R : Type 0} (read_of : List ℕ → R) (says_of : R → Says) where
  has_behind : (q : ℕ) (a xs : List (Sight R)) → Has says_of q xs → Has says_of q (a ++ xs)
  has_behind q [] xs h = h
  has_behind q (x ∷ a) xs h = h_later (has_behind q a xs h)

  pub inside_behind : (q : ℕ) (a xs : List (Sight R)) → Inside says_of q xs → Inside says_of q (a ++ xs)
  inside_behind q [] xs h = h
  inside_behind q (x ∷ a) xs h = i_later (inside_behind q a xs h)

  -- byte i from here on belongs to the frame that the walk stands in
  abbrev pub Within : Mode → ℕ → Type 0
  Within (within k) i = i < k
  Within seeking i = ⊥

  abbrev Reads : List ℕ → Type 0
  Reads s = (n : ℕ) × (says_of (read_of s) ≡ frame n)

  first : (m : Mode) (p b : ℕ) (s : List ℕ) (xs : List (Sight R)) → Reads (b ∷ s) → Within m 0 ⊎ Has says_of p (noted m (says_of (read_of (b ∷ s))) p (read_of (b ∷ s)) ++ xs)
  unfolding noted found
  first (within zero) p b s xs r = inr (h_at refl)
  first (within (suc k)) p b s xs r = inl (omega arith)
  first seeking p b s xs r = inr (rw r.1 (h_at refl))

  -- what the next byte's mode covers, this byte's mode covers, or the reading noted here does
  pub carry : (m : Mode) (p b i : ℕ) (s : List ℕ) (xs : List (Sight R)) (w : Says) → says_of (read_of (b ∷ s)) ≡ w → Within (next m w) i → Within m (suc i) ⊎ Inside says_of (p + suc i) (noted m w p (read_of (b ∷ s)) ++ xs)
  unfolding next after noted found
  carry (within zero) p b i s xs (frame n) e h = inr (i_in {x = record { place = p; read = read_of (b ∷ s) }} n e (omega arith) (omega arith))
  carry (within zero) p b i s xs more e h = absurd h
  carry (within zero) p b i s xs bad e h = absurd h
  carry (within (suc k)) p b i s xs w e h = inl (omega arith)
  carry seeking p b i s xs (frame n) e h = inr (i_in {x = record { place = p; read = read_of (b ∷ s) }} n e (omega arith) (omega arith))
  carry seeking p b i s xs more e h = absurd h
  carry seeking p b i s xs bad e h = absurd h

  kept_at : (m : Mode) (p i : ℕ) (s : List ℕ) → i < length s → Reads (drop i s) → Within m i ⊎ Has says_of (p + i) (sights_of read_of says_of m p s)
  unfolding sights_of
  kept_at m p i [] h r = absurd (omega arith)
  kept_at m p zero (b ∷ s) h r =
      let e : p + 0 ≡ p = omega arith in
      rw e (first m p b s _ r)
  kept_at m p (suc i) (b ∷ s) h r =
      let e : p + 1 + i ≡ p + suc i = omega arith in
      ⊎_elim (λ (x : Within (next m (says_of (read_of (b ∷ s)))) i). ⊎_elim (λ y. inl y) (λ y. inr (h_in y)) (carry m p b i s _ _ refl x))
      (λ x. inr (has_behind (p + suc i) (noted m (says_of (read_of (b ∷ s))) p (read_of (b ∷ s))) _ (rw e at x)))
      (kept_at (next m (says_of (read_of (b ∷ s)))) (p + 1) i s (omega arith) r)

  -- a place that reads and lies inside no recorded frame is itself recorded
  pub none_lost : (s : List ℕ) (i : ℕ) → i < length s → Reads (drop i s) → Has says_of i (sights_of read_of says_of (within zero) 0 s)
  none_lost s i h r =
      let e : 0 + i ≡ i = omega arith in
      ⊎_elim (λ (x : i < 0). absurd (omega arith)) (λ x. rw e at x) (kept_at (within zero) 0 i s h r)

-- FEW READINGS

-- 1 for a frame, 0 for any other reading; and the other way round
abbrev one : Says → ℕ
one (frame n) = 1
one more = 0
one bad = 0

abbrev other : Says → ℕ
other (frame n) = 0
other more = 1
other bad = 1

-- how many readings were frames, and how many were not
unfoldable frames_of : {R : Type 0} → (R → Says) → List (Sight R) → ℕ
frames_of says_of [] = 0
frames_of says_of (x ∷ xs) = one (says_of x.read) + frames_of says_of xs

unfoldable refused_of : {R : Type 0} → (R → Says) → List (Sight R) → ℕ
refused_of says_of [] = 0
refused_of says_of (x ∷ xs) = other (says_of x.read) + refused_of says_of xs

not_both : (w : Says) → other w ≡ 1 → one w ≡ 0
not_both (frame n) o = absurd (omega arith)
not_both more o = refl
not_both bad o = refl

frames_cons : {R : Type 0} (says_of : R → Says) (x : Sight R) (xs : List (Sight R)) (w : Says) → says_of x.read ≡ w → frames_of says_of (x ∷ xs) ≡ one w + frames_of says_of xs
unfolding frames_of
frames_cons says_of x xs w e = ap (λ (v : Says). one v + frames_of says_of xs) e

refused_cons : {R : Type 0} (says_of : R → Says) (x : Sight R) (xs : List (Sight R)) (w : Says) → says_of x.read ≡ w → refused_of says_of (x ∷ xs) ≡ other w + refused_of says_of xs
unfolding refused_of
refused_cons says_of x xs w e = ap (λ (v : Says). other v + refused_of says_of xs) e

all_of : {R : Type 0} (says_of : R → Says) (xs : List (Sight R)) → length xs ≡ frames_of says_of xs + refused_of says_of xs
unfolding frames_of refused_of
all_of says_of [] = refl
all_of says_of (x ∷ xs) = either (says_of x.read) (all_of says_of xs)
  where
    either : (w : Says) → length xs ≡ frames_of says_of xs + refused_of says_of xs → suc (length xs) ≡ one w + frames_of says_of xs + (other w + refused_of says_of xs)
    either (frame n) e = omega arith
    either more e = omega arith
    either bad e = omega arith

-- the bytes that the frame stood in still wants, and the refusals that may come before
-- the next frame
abbrev pub wants : Mode → ℕ
wants (within k) = k
wants seeking = 0

abbrev spare : Mode → ℕ
spare (within k) = 1
spare seeking = 0

spare_few : (m : Mode) → spare m ≤ 1
spare_few (within k) = omega arith
spare_few seeking = omega arith

module _ {R : Type 0} (read_of : List ℕ → R) (says_of : R → Says)
    (long : (s : List ℕ) (n : ℕ) → says_of (read_of s) ≡ frame n → 28 ≤ n)
    (there : (s : List ℕ) (n : ℕ) → says_of (read_of s) ≡ frame n → n ≤ length s) where
  -- frames have 28 bytes or more, a refusal takes one; behind a refusal comes a frame or nothing
  record Few (m : Mode) (s : List ℕ) (xs : List (Sight R)) : Type 0 where
    bytes : 28 * frames_of says_of xs + refused_of says_of xs + wants m ≤ length s
    turns : refused_of says_of xs ≤ frames_of says_of xs + spare m

  a_frame : (p b : ℕ) (s : List ℕ) (xs : List (Sight R)) (n : ℕ) → says_of (read_of (b ∷ s)) ≡ frame n → Few (within (n - 1)) s xs → Few (within zero) (b ∷ s) (record { place = p; read = read_of (b ∷ s) } ∷ xs)
  a_frame p b s xs n e f =
      let x : Sight R = record { place = p; read = read_of (b ∷ s) } in
      let c = frames_cons says_of x xs (frame n) e in
      let d = refused_cons says_of x xs (frame n) e in
      record { bytes = omega (arith, f.bytes, c, d, long (b ∷ s) n e); turns = omega (arith, f.turns, c, d) }

  a_refusal : (p b : ℕ) (s : List ℕ) (xs : List (Sight R)) (w : Says) → says_of (read_of (b ∷ s)) ≡ w → other w ≡ 1 → Few seeking s xs → Few (within zero) (b ∷ s) (record { place = p; read = read_of (b ∷ s) } ∷ xs)
  a_refusal p b s xs w e o f =
      let x : Sight R = record { place = p; read = read_of (b ∷ s) } in
      let c = frames_cons says_of x xs w e in
      let d = refused_cons says_of x xs w e in
      let z : one w ≡ 0 = not_both w o in
      record { bytes = omega (arith, f.bytes, c, d); turns = omega (arith, f.turns, c, d) }

  few_step : (m : Mode) (p b : ℕ) (s : List ℕ) (xs : List (Sight R)) (w : Says) → says_of (read_of (b ∷ s)) ≡ w → Few (next m w) s xs → Few m (b ∷ s) (noted m w p (read_of (b ∷ s)) ++ xs)
  unfolding next after noted found
  few_step (within zero) p b s xs (frame n) e f = a_frame p b s xs n e f
  few_step (within zero) p b s xs more e f = a_refusal p b s xs more e refl f
  few_step (within zero) p b s xs bad e f = a_refusal p b s xs bad e refl f
  few_step (within (suc k)) p b s xs w e f = record { bytes = omega (arith, f.bytes); turns = f.turns }
  few_step seeking p b s xs (frame n) e f =
      let g = a_frame p b s xs n e f in
      record { bytes = g.bytes; turns = omega (arith, f.turns, frames_cons says_of (record { place = p; read = read_of (b ∷ s) }) xs (frame n) e, refused_cons says_of (record { place = p; read = read_of (b ∷ s) }) xs (frame n) e) }
  few_step seeking p b s xs more e f = record { bytes = omega (arith, f.bytes); turns = f.turns }
  few_step seeking p b s xs bad e f = record { bytes = omega (arith, f.bytes); turns = f.turns }

  wants_next : (m : Mode) (b : ℕ) (s : List ℕ) (w : Says) → says_of (read_of (b ∷ s)) ≡ w → wants m ≤ length (b ∷ s) → wants (next m w) ≤ length s
  unfolding next after
  wants_next (within zero) b s (frame n) e h = omega (arith, there (b ∷ s) n e)
  wants_next (within zero) b s more e h = omega arith
  wants_next (within zero) b s bad e h = omega arith
  wants_next (within (suc k)) b s w e h = omega arith
  wants_next seeking b s (frame n) e h = omega (arith, there (b ∷ s) n e)
  wants_next seeking b s more e h = omega arith
  wants_next seeking b s bad e h = omega arith

  few : (m : Mode) (p : ℕ) (s : List ℕ) → wants m ≤ length s → Few m s (sights_of read_of says_of m p s)
  unfolding sights_of frames_of refused_of
  few m p [] h = record { bytes = omega arith; turns = omega arith }
  few m p (b ∷ s) h =
      let w = says_of (read_of (b ∷ s)) in
      few_step m p b s _ w refl (few (next m w) (p + 1) s (wants_next m b s w refl h))

  -- n bytes make at most 2 (n / 29) + 2 readings, whether the first is read or searched from
  pub readings_few : (m : Mode) (p : ℕ) (s : List ℕ) → wants m ≤ length s → length (sights_of read_of says_of m p s) ≤ 2 * (length s / 29) + 2
  readings_few m p s h =
      let f = few m p s h in
      omega (arith, f.bytes, f.turns, spare_few m, all_of says_of (sights_of read_of says_of m p s))
