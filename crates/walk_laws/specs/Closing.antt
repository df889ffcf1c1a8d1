-- At the closing call no place waits: missing bytes never come. And what a walk that waits has read
-- so far, in the closed walk's words.
use Prim.Native.Nat.{ℕ, zero, suc, ◌+◌, ◌-◌, ◌≤◌, ◌<◌}
use Rattle.std.specs.Prelude.{◌≡◌, Bool, ◌⊎◌, ltb, length, drop}
use Rattle.std.proofs.Math.Path.{refl}
use Rattle.std.proofs.Common.{sym, ◌∙◌, lt-ltb, le-ltb}
use Rattle.std.proofs.Math.Bool.{true, false}
use Rattle.std.proofs.Math.Logic.{inl, inr, ⊎_elim}
use mathlib.Core.List.{List, [], ◌∷◌, ◌++◌, append_assoc}
use native.Mathlib.Omega.{arith}
use Rattle.terms.specs.Paper.{pick}
use Rattle.walk_laws.specs.Walk.{Says, frame, more, bad, Sight, Mode, within, seeking, after, next, found, noted, sights_of}
use Rattle.walk_laws.specs.Waits.{waits, Got, behind, ran_of, ran_wait, ran_step, sights_step}
use Rattle.walk_laws.specs.Kept.{waits_more}
use Rattle.walk_laws.specs.Seen.{Rising, r_nil, r_cons, places_rise, Inside, inside_behind, Within, carry}

-- THE CLOSING CALL

-- with nothing to come, bytes that are missing make no frame
abbrev pub final : Says → Says
final (frame n) = frame n
final more = bad
final bad = bad

not_more : (w : Says) → w ≡ more → w ≡ bad → ⊥
not_more w e f = let z : ◌≡◌ {A = ℕ} 0 1 = cc in omega arith

frame_bad : (w : Says) (n : ℕ) → w ≡ frame n → w ≡ bad → ⊥
frame_bad w n e f = let z : ◌≡◌ {A = ℕ} 0 1 = cc in omega arith

frame_more : (w : Says) (n : ℕ) → w ≡ frame n → w ≡ more → ⊥
frame_more w n e f = let z : ◌≡◌ {A = ℕ} 0 1 = cc in omega arith

pub final_not_more : (w : Says) → final w ≡ more → ⊥
final_not_more (frame n) e = frame_more (frame n) n refl e
final_not_more more e = not_more bad e refl
final_not_more bad e = not_more bad e refl

pub final_frame : (w : Says) (n : ℕ) → final w ≡ frame n → w ≡ frame n
final_frame (frame k) n e = e
final_frame more n e = absurd (frame_bad (frame n) n refl (sym e))
final_frame bad n e = e

final_waits : (m : Mode) (w : Says) → waits m (final w) ≡ false
unfolding waits
final_waits (within zero) (frame n) = refl
final_waits (within zero) more = refl
final_waits (within zero) bad = refl
final_waits (within (suc k)) w = refl
final_waits seeking (frame n) = refl
final_waits seeking more = refl
final_waits seeking bad = refl

final_noted : {R : Type 0} (m : Mode) (w : Says) (p : ℕ) (r : R) → noted m (final w) p r ≡ noted m w p r
unfolding noted found
final_noted (within zero) w p r = refl
final_noted (within (suc k)) w p r = refl
final_noted seeking (frame n) p r = refl
final_noted seeking more p r = refl
final_noted seeking bad p r = refl

final_goes : (w : Says) → after (final w) ≡ after w
unfolding after
final_goes (frame n) = refl
final_goes more = refl
final_goes bad = refl

final_next : (m : Mode) (w : Says) → next m (final w) ≡ next m w
unfolding next
final_next (within zero) w = final_goes w
final_next (within (suc k)) w = refl
final_next seeking w = final_goes w

module _ {R : Type 0} (read_of : List ℕ → R) (says_of : R → Says) where
  -- a run in which no place waits
  abbrev pub final_of : Mode → ℕ → List ℕ → Got R
  final_of m p s = ran_of read_of (λ r. final (says_of r)) m p s

  -- it is the closed walk, and leaves nothing
  pub final_seen : (m : Mode) (p : ℕ) (s : List ℕ) → (final_of m p s).seen ≡ sights_of read_of says_of m p s
  unfolding ran_of sights_of
  final_seen m p [] = refl
  final_seen m p (b ∷ s) =
      let w = says_of (read_of (b ∷ s)) in
      rw (final_waits m w, final_noted m w p (read_of (b ∷ s)), final_next m w, final_seen (next m w) (p + 1) s)

  pub final_kept : (m : Mode) (p : ℕ) (s : List ℕ) → (final_of m p s).kept ≡ []
  unfolding ran_of
  final_kept m p [] = refl
  final_kept m p (b ∷ s) =
      let w = says_of (read_of (b ∷ s)) in
      rw (final_waits m w, final_kept (next m (final w)) (p + 1) s)

  after_by : (m : Mode) (p b : ℕ) (s : List ℕ)
      → ((n : Mode) → final_of n (p + 1) s ≡ behind (ran_of read_of says_of n (p + 1) s).seen (final_of (ran_of read_of says_of n (p + 1) s).mode (ran_of read_of says_of n (p + 1) s).place (ran_of read_of says_of n (p + 1) s).kept))
      → (t : Bool) → waits m (says_of (read_of (b ∷ s))) ≡ t
      → final_of m p (b ∷ s) ≡ behind (ran_of read_of says_of m p (b ∷ s)).seen (final_of (ran_of read_of says_of m p (b ∷ s)).mode (ran_of read_of says_of m p (b ∷ s)).place (ran_of read_of says_of m p (b ∷ s)).kept)
  after_by m p b s ih true e = rw (ran_wait read_of says_of m p b s e)
  after_by m p b s ih false e =
      let w = says_of (read_of (b ∷ s)) in
      ran_step read_of (λ r. final (says_of r)) m p b s (final_waits m w)
      ∙ rw (final_noted m w p (read_of (b ∷ s)), final_next m w, ih (next m w), ran_step read_of says_of m p b s e) (simp append_assoc)

  -- closing behind a walk that waits is closing the whole
  pub final_after : (m : Mode) (p : ℕ) (s : List ℕ)
      → final_of m p s ≡ behind (ran_of read_of says_of m p s).seen (final_of (ran_of read_of says_of m p s).mode (ran_of read_of says_of m p s).place (ran_of read_of says_of m p s).kept)
  unfolding ran_of
  final_after m p [] = refl
  final_after m p (b ∷ s) = after_by m p b s (λ n. final_after n (p + 1) s) (waits m (says_of (read_of (b ∷ s)))) refl

-- WHAT WAS READ SO FAR

-- the readings in their order, as far as their places are below w
unfoldable pub below : {R : Type 0} → ℕ → List (Sight R) → List (Sight R)
below w [] = []
below w (x ∷ xs) = pick (ltb x.place w) (x ∷ below w xs) []

-- none where all places are w or above
below_none : {R : Type 0} (w : ℕ) (xs : List (Sight R)) → Rising w xs → below w xs ≡ []
unfolding below
below_none w xs r_nil = refl
below_none w xs (r_cons {x = x} l r) = rw (le-ltb x.place w l)

below_noted : {R : Type 0} (w : ℕ) (m : Mode) (v : Says) (p : ℕ) (r : R) (xs : List (Sight R)) → p < w → below w (noted m v p r ++ xs) ≡ noted m v p r ++ below w xs
unfolding below noted found
below_noted w (within zero) v p r xs h = rw (lt-ltb p w h)
below_noted w (within (suc k)) v p r xs h = refl
below_noted w seeking (frame n) p r xs h = rw (lt-ltb p w h)
below_noted w seeking more p r xs h = refl
below_noted w seeking bad p r xs h = refl

module _ {R : Type 0} (read_of : List ℕ → R) (says_of : R → Says) where
  -- the first place, read or tried by the search, that waits; the end where none does
  unfoldable pub wait_of : Mode → ℕ → List ℕ → ℕ
  wait_of m p [] = p
  wait_of m p (b ∷ s) = pick (waits m (says_of (read_of (b ∷ s)))) p (wait_of (next m (says_of (read_of (b ∷ s)))) (p + 1) s)

  wait_far : (m : Mode) (p : ℕ) (s : List ℕ) → p ≤ wait_of m p s
  unfolding wait_of
  wait_far m p [] = omega arith
  wait_far m p (b ∷ s) = by (waits m (says_of (read_of (b ∷ s)))) (wait_far (next m (says_of (read_of (b ∷ s)))) (p + 1) s)
    where
      by : (t : Bool) → p + 1 ≤ wait_of (next m (says_of (read_of (b ∷ s)))) (p + 1) s → p ≤ pick t p (wait_of (next m (says_of (read_of (b ∷ s)))) (p + 1) s)
      by true h = omega arith
      by false h = omega arith

  there_by : (m : Mode) (p b : ℕ) (s : List ℕ)
      → ((n : Mode) → wait_of n (p + 1) s < p + 1 + length s → says_of (read_of (drop (wait_of n (p + 1) s - (p + 1)) s)) ≡ more)
      → (t : Bool) → waits m (says_of (read_of (b ∷ s))) ≡ t → pick t p (wait_of (next m (says_of (read_of (b ∷ s)))) (p + 1) s) < p + length (b ∷ s)
      → says_of (read_of (drop (pick t p (wait_of (next m (says_of (read_of (b ∷ s)))) (p + 1) s) - p) (b ∷ s))) ≡ more
  there_by m p b s ih true e h = let z : p - p ≡ 0 = omega arith in rw z (waits_more m _ e)
  there_by m p b s ih false e h =
      let n = next m (says_of (read_of (b ∷ s))) in
      let z : wait_of n (p + 1) s - p ≡ suc (wait_of n (p + 1) s - (p + 1)) = omega (arith, wait_far n (p + 1) s) in
      rw z (ih n (omega arith))

  -- unless it is the end, bytes are missing there
  pub wait_there : (m : Mode) (p : ℕ) (s : List ℕ) → wait_of m p s < p + length s → says_of (read_of (drop (wait_of m p s - p) s)) ≡ more
  unfolding wait_of
  wait_there m p [] h = absurd (omega arith)
  wait_there m p (b ∷ s) h = there_by m p b s (λ n l. wait_there n (p + 1) s l) (waits m (says_of (read_of (b ∷ s)))) refl h

  tried_here : (m : Mode) (p q : ℕ) (w : Says) → w ≡ more → p < pick (waits m w) p q → Within read_of says_of m 0
  unfolding waits
  tried_here (within zero) p q w e h = let z : waits (within zero) w ≡ true = rw e in absurd (omega (arith, rw z at h))
  tried_here (within (suc k)) p q w e h = omega arith
  tried_here seeking p q w e h = let z : waits seeking w ≡ true = rw e in absurd (omega (arith, rw z at h))

  tried_on : (t : Bool) (p i q : ℕ) → p + suc i < pick t p q → p + 1 + i < q
  tried_on true p i q h = absurd (omega arith)
  tried_on false p i q h = omega arith

  tried : (m : Mode) (p i : ℕ) (s : List ℕ) → p + i < wait_of m p s → says_of (read_of (drop i s)) ≡ more
      → Within read_of says_of m i ⊎ Inside says_of (p + i) (sights_of read_of says_of m p s)
  unfolding wait_of sights_of
  tried m p i [] l r = absurd (omega arith)
  tried m p zero (b ∷ s) l r = let z : p + 0 ≡ p = omega arith in inl (tried_here m p _ _ r (rw z at l))
  tried m p (suc i) (b ∷ s) l r =
      let w = says_of (read_of (b ∷ s)) in
      let e : p + 1 + i ≡ p + suc i = omega arith in
      ⊎_elim (λ (x : Within read_of says_of (next m w) i). carry read_of says_of m p b i s _ _ refl x)
      (λ x. inr (inside_behind read_of says_of (p + suc i) (noted m w p (read_of (b ∷ s))) _ (rw e at x)))
      (tried (next m w) (p + 1) i s (tried_on (waits m w) p i _ l) r)

  -- and it is the first such place: one before it where bytes are missing lies inside a
  -- recorded frame
  pub wait_first : (s : List ℕ) (i : ℕ) → i < wait_of (within zero) 0 s → says_of (read_of (drop i s)) ≡ more → Inside says_of i (sights_of read_of says_of (within zero) 0 s)
  wait_first s i l r =
      let e : 0 + i ≡ i = omega arith in
      ⊎_elim (λ (x : i < 0). absurd (omega arith)) (λ x. rw e at x) (tried (within zero) 0 i s (omega arith) r)

  module _ (m : Mode) (p b : ℕ) (s : List ℕ) where
    abbrev here : Says
    here = says_of (read_of (b ∷ s))

    far_by : (ran_of read_of says_of (next m here) (p + 1) s).seen ≡ below (wait_of (next m here) (p + 1) s) (sights_of read_of says_of (next m here) (p + 1) s)
        → (t : Bool) → waits m here ≡ t → (ran_of read_of says_of m p (b ∷ s)).seen ≡ below (pick t p (wait_of (next m here) (p + 1) s)) (sights_of read_of says_of m p (b ∷ s))
    far_by ih true e = rw (ran_wait read_of says_of m p b s e) (sym (below_none p _ (places_rise read_of says_of m p (b ∷ s))))
    far_by ih false e =
        let h : p < wait_of (next m here) (p + 1) s = omega (arith, wait_far (next m here) (p + 1) s) in
        rw (ran_step read_of says_of m p b s e, sights_step read_of says_of m p b s, ih, below_noted (wait_of (next m here) (p + 1) s) m here p (read_of (b ∷ s)) (sights_of read_of says_of (next m here) (p + 1) s) h)

  -- THE WALK THAT WAITS has read what the closed walk reads below the first place that waits
  pub ran_below : (m : Mode) (p : ℕ) (s : List ℕ) → (ran_of read_of says_of m p s).seen ≡ below (wait_of m p s) (sights_of read_of says_of m p s)
  unfolding wait_of ran_of sights_of below
  ran_below m p [] = refl
  ran_below m p (b ∷ s) = far_by m p b s (ran_below (next m (says_of (read_of (b ∷ s)))) (p + 1) s) (waits m (says_of (read_of (b ∷ s)))) refl

  place_by : (m : Mode) (p b : ℕ) (s : List ℕ) → ((n : Mode) → (ran_of read_of says_of n (p + 1) s).place ≡ wait_of n (p + 1) s)
      → (t : Bool) → waits m (says_of (read_of (b ∷ s))) ≡ t → (ran_of read_of says_of m p (b ∷ s)).place ≡ pick t p (wait_of (next m (says_of (read_of (b ∷ s)))) (p + 1) s)
  place_by m p b s ih true e = rw (ran_wait read_of says_of m p b s e)
  place_by m p b s ih false e = rw (ran_step read_of says_of m p b s e) (ih _)

  -- and it stands there
  pub ran_place : (m : Mode) (p : ℕ) (s : List ℕ) → (ran_of read_of says_of m p s).place ≡ wait_of m p s
  unfolding wait_of ran_of
  ran_place m p [] = refl
  ran_place m p (b ∷ s) = place_by m p b s (λ n. ran_place n (p + 1) s) (waits m (says_of (read_of (b ∷ s)))) refl

  kept_by_lem : (m : Mode) (p b : ℕ) (s : List ℕ) → ((n : Mode) → (ran_of read_of says_of n (p + 1) s).kept ≡ drop (wait_of n (p + 1) s - (p + 1)) s)
      → (t : Bool) → waits m (says_of (read_of (b ∷ s))) ≡ t → (ran_of read_of says_of m p (b ∷ s)).kept ≡ drop (pick t p (wait_of (next m (says_of (read_of (b ∷ s)))) (p + 1) s) - p) (b ∷ s)
  kept_by_lem m p b s ih true e = let z : p - p ≡ 0 = omega arith in rw (ran_wait read_of says_of m p b s e, z)
  kept_by_lem m p b s ih false e =
      let n = next m (says_of (read_of (b ∷ s))) in
      let z : wait_of n (p + 1) s - p ≡ suc (wait_of n (p + 1) s - (p + 1)) = omega (arith, wait_far n (p + 1) s) in
      rw (ran_step read_of says_of m p b s e, z) (ih n)

  -- with the bytes from there on
  pub ran_kept : (m : Mode) (p : ℕ) (s : List ℕ) → (ran_of read_of says_of m p s).kept ≡ drop (wait_of m p s - p) s
  unfolding wait_of ran_of
  ran_kept m p [] = let z : p - p ≡ 0 = omega arith in rw z
  ran_kept m p (b ∷ s) = kept_by_lem m p b s (λ n. ran_kept n (p + 1) s) (waits m (says_of (read_of (b ∷ s)))) refl
