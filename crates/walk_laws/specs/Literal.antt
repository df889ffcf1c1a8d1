-- The walk as document 01 tells it, and that it is the walk byte by byte.
use Prim.Native.Nat.{ℕ, zero, suc, ◌+◌, ◌-◌, ◌≤◌, ◌<◌}
use Rattle.std.specs.Prelude.{◌≡◌, Bool, true, false, leb, length, drop}
use Rattle.std.proofs.Math.Path.{refl, sym}
use Rattle.std.proofs.Common.{◌∙◌, add-one, le-leb, drop_of_length-le, drop-cons}
use Rattle.std.proofs.Math.Logic.{⊎_elim}
use mathlib.Core.List.{List, [], ◌∷◌}
use native.Mathlib.Omega.{arith}
use Rattle.std.proofs.Math.Nat.{add-zero}
use Rattle.std.proofs.lemmas.Bool.{lt-leb}
use Rattle.std.proofs.Math.Seq.{drop-drop}
use Rattle.walk_laws.specs.Walk.{Says, frame, more, bad, Sight, within, seeking, after, next, found, noted, sights_of}
use Rattle.terms.specs.Paper.{pick}
use Rattle.terms.specs.Cases.{two, less, clash}

pub data Onward : Type 0 where
  at : ℕ → Onward
  none : Onward

unfoldable pub is_frame : Says → Bool
is_frame (frame n) = true
is_frame more = false
is_frame bad = false

-- past the frame, else where the search says
unfoldable pub onward : Says → ℕ → Onward → Onward
onward (frame n) p o = at (p + n)
onward more p o = o
onward bad p o = o

-- from that place on, or not at all
abbrev pub go_on : {A : Type 0} → (ℕ → List A) → Onward → List A
go_on f (at q) = f q
go_on f none = []

after_bad : (w : Says) → is_frame w ≡ false → after w ≡ seeking
unfolding is_frame after
after_bad (frame n) e = absurd (clash refl e)
after_bad more e = refl
after_bad bad e = refl

found_bad : {R : Type 0} (w : Says) (p : ℕ) (r : R) → is_frame w ≡ false → found w p r ≡ []
unfolding is_frame found
found_bad (frame n) p r e = absurd (clash refl e)
found_bad more p r e = refl
found_bad bad p r e = refl

found_frame : {R : Type 0} (w : Says) (p : ℕ) (r : R) → is_frame w ≡ true → found w p r ≡ record { place = p; read = r } ∷ []
unfolding is_frame found
found_frame (frame n) p r e = refl
found_frame more p r e = absurd (clash refl (sym e))
found_frame bad p r e = absurd (clash refl (sym e))

module _ {R : Type 0} (read_of : List ℕ → R) (says_of : R → Says) where
  -- the lowest place from p on that reads, where s are the bytes from p on
  unfoldable pub first_of : ℕ → List ℕ → Onward
  first_of p [] = none
  first_of p (b ∷ s) = pick (is_frame (says_of (read_of (b ∷ s)))) (at p) (first_of (p + 1) s)

  -- the walk of the capture s from the place p on, in at most k readings
  unfoldable pub literal_of : ℕ → List ℕ → ℕ → List (Sight R)
  literal_of zero s p = []
  literal_of (suc k) s p =
      pick (leb (length s) p) []
      (record { place = p; read = read_of (drop p s) }
      ∷ go_on (λ q. literal_of k s q) (onward (says_of (read_of (drop p s))) p (first_of (p + 1) (drop (p + 1) s))))

  -- the walk byte by byte, at a place that it reads and at one that it searches from
  abbrev pub from_of : ℕ → List ℕ → List (Sight R)
  from_of p s = sights_of read_of says_of (within zero) p (drop p s)

  abbrev pub sought_of : ℕ → List ℕ → List (Sight R)
  sought_of p s = sights_of read_of says_of seeking p (drop p s)

  abbrev pub sight_at : ℕ → List ℕ → Sight R
  sight_at p s = record { place = p; read = read_of (drop p s) }

  pub sights_skip : (k p : ℕ) (s : List ℕ) → sights_of read_of says_of (within k) p s ≡ sights_of read_of says_of (within zero) (p + k) (drop k s)
  unfolding sights_of noted next
  sights_skip zero p s = simp add-zero
  sights_skip (suc k) p [] = refl
  sights_skip (suc k) p (b ∷ s) = let e : p + 1 + k ≡ p + suc k = omega arith in sights_skip k (p + 1) s ∙ rw e

  pub from_end : (p : ℕ) (s : List ℕ) → length s ≤ p → from_of p s ≡ []
  unfolding sights_of
  from_end p s h = rw (drop_of_length-le s h)

  pub sought_end : (p : ℕ) (s : List ℕ) → length s ≤ p → sought_of p s ≡ []
  unfolding sights_of
  sought_end p s h = rw (drop_of_length-le s h)

  -- behind a place that was read
  pub from_step : (p b : ℕ) (s : List ℕ) (w : Says) → says_of (read_of (b ∷ s)) ≡ w → sights_of read_of says_of (within zero) p (b ∷ s) ≡ record { place = p; read = read_of (b ∷ s) } ∷ sights_of read_of says_of (after w) (p + 1) s
  unfolding sights_of noted next
  from_step p b s w e = rw e

  hit_cons : (p b : ℕ) (s : List ℕ) → is_frame (says_of (read_of (b ∷ s))) ≡ true → sights_of read_of says_of seeking p (b ∷ s) ≡ sights_of read_of says_of (within zero) p (b ∷ s)
  unfolding sights_of noted next
  hit_cons p b s f = rw (found_frame _ p (read_of (b ∷ s)) f)

  miss_cons : (p b : ℕ) (s : List ℕ) → is_frame (says_of (read_of (b ∷ s))) ≡ false → sights_of read_of says_of seeking p (b ∷ s) ≡ sights_of read_of says_of seeking (p + 1) s
  unfolding sights_of noted next
  miss_cons p b s f = rw (found_bad _ p (read_of (b ∷ s)) f, after_bad _ f)

  first_hit_cons : (p b : ℕ) (s : List ℕ) → is_frame (says_of (read_of (b ∷ s))) ≡ true → first_of p (b ∷ s) ≡ at p
  unfolding first_of
  first_hit_cons p b s f = simp f

  first_miss_cons : (p b : ℕ) (s : List ℕ) → is_frame (says_of (read_of (b ∷ s))) ≡ false → first_of p (b ∷ s) ≡ first_of (p + 1) s
  unfolding first_of
  first_miss_cons p b s f = simp f

  module _ (p : ℕ) (s : List ℕ) (h : p < length s) where
    here : (w : Says) → says_of (read_of (drop p s)) ≡ w → from_of p s ≡ sight_at p s ∷ sights_of read_of says_of (after w) (p + 1) (drop (p + 1) s)
    here w e =
        let d = drop-cons s p 0 h in
        rw (d, from_step p _ (drop (suc p) s) w (rw d at e), add-one)

    pub from_frame : (n : ℕ) → 1 ≤ n → says_of (read_of (drop p s)) ≡ frame n → from_of p s ≡ sight_at p s ∷ from_of (p + n) s
    unfolding after
    from_frame n l e =
        let q : p + 1 + (n - 1) ≡ p + n = omega arith in
        here (frame n) e ∙ rw (sights_skip (n - 1) (p + 1) (drop (p + 1) s), drop-drop (n - 1) (p + 1) s, q)

    pub from_bad : is_frame (says_of (read_of (drop p s))) ≡ false → from_of p s ≡ sight_at p s ∷ sought_of (p + 1) s
    from_bad f = here _ refl ∙ rw (after_bad _ f)

    pub sought_hit : is_frame (says_of (read_of (drop p s))) ≡ true → sought_of p s ≡ from_of p s
    sought_hit f = let d = drop-cons s p 0 h in rw d (hit_cons p _ (drop (suc p) s) (rw d at f))

    pub sought_miss : is_frame (says_of (read_of (drop p s))) ≡ false → sought_of p s ≡ sought_of (p + 1) s
    sought_miss f = let d = drop-cons s p 0 h in rw d (miss_cons p _ (drop (suc p) s) (rw d at f) ∙ rw add-one)

    pub first_hit : is_frame (says_of (read_of (drop p s))) ≡ true → first_of p (drop p s) ≡ at p
    first_hit f = let d = drop-cons s p 0 h in rw d (first_hit_cons p _ (drop (suc p) s) (rw d at f))

    pub first_miss : is_frame (says_of (read_of (drop p s))) ≡ false → first_of p (drop p s) ≡ first_of (p + 1) (drop (p + 1) s)
    first_miss f = let d = drop-cons s p 0 h in rw d (first_miss_cons p _ (drop (suc p) s) (rw d at f) ∙ rw add-one)

  pub first_end : (p : ℕ) (s : List ℕ) → length s ≤ p → first_of p (drop p s) ≡ none
  unfolding first_of
  first_end p s h = rw (drop_of_length-le s h)

  -- a walk that goes on where the search says is the search byte by byte
  pub sought_first : (j p : ℕ) (s : List ℕ) (f : ℕ → List (Sight R)) → length s ≤ p + j → ((q : ℕ) → p ≤ q → f q ≡ from_of q s) → go_on f (first_of p (drop p s)) ≡ sought_of p s
  sought_first zero p s f l g = rw (first_end p s (omega arith), sought_end p s (omega arith))
  sought_first (suc j) p s f l g =
      ⊎_elim (λ h.
      ⊎_elim (λ t. rw (first_hit p s h t, sought_hit p s h t) (g p (omega arith)))
      (λ t. rw (first_miss p s h t, sought_miss p s h t) (sought_first j (p + 1) s f (omega arith) (λ q a. g q (omega arith))))
      (two (is_frame (says_of (read_of (drop p s))))))
      (λ h. rw (first_end p s h, sought_end p s h))
      (less p (length s))

  -- the search by its meaning: the lowest place that reads
  pub sought_lowest : (j p q : ℕ) (s : List ℕ) → q ≡ p + j → q < length s → is_frame (says_of (read_of (drop q s))) ≡ true → ((i : ℕ) → p ≤ i → i < q → is_frame (says_of (read_of (drop i s))) ≡ false) → sought_of p s ≡ from_of q s
  sought_lowest zero p q s e h t f = let z : q ≡ p = omega arith in rw z (sought_hit p s (omega arith) (rw z at t))
  sought_lowest (suc j) p q s e h t f = sought_miss p s (omega arith) (f p (omega arith) (omega arith)) ∙ sought_lowest j (p + 1) q s (omega arith) h t (λ i a b. f i (omega arith) b)

  pub sought_none : (j p : ℕ) (s : List ℕ) → length s ≤ p + j → ((i : ℕ) → p ≤ i → i < length s → is_frame (says_of (read_of (drop i s))) ≡ false) → sought_of p s ≡ []
  sought_none zero p s l f = sought_end p s (omega arith)
  sought_none (suc j) p s l f =
      ⊎_elim (λ h. sought_miss p s h (f p (omega arith) h) ∙ sought_none j (p + 1) s (omega arith) (λ i a b. f i (omega arith) b))
      (λ h. sought_end p s h)
      (less p (length s))

  module _ (fits : (s : List ℕ) (n : ℕ) → says_of (read_of s) ≡ frame n → 1 ≤ n) where
    turn : (k p : ℕ) (s : List ℕ) → p < length s → length s ≤ p + suc k → ((q : ℕ) → length s ≤ q + k → literal_of k s q ≡ from_of q s) → (w : Says) → says_of (read_of (drop p s)) ≡ w → sight_at p s ∷ go_on (λ q. literal_of k s q) (onward w p (first_of (p + 1) (drop (p + 1) s))) ≡ from_of p s
    unfolding onward is_frame
    turn k p s h l ih (frame n) e = rw (ih (p + n) (omega (arith, fits _ _ e))) (sym (from_frame p s h n (fits _ _ e) e))
    turn k p s h l ih more e = rw (sought_first (length s) (p + 1) s (λ q. literal_of k s q) (omega arith) (λ q a. ih q (omega arith))) (sym (from_bad p s h (rw e)))
    turn k p s h l ih bad e = rw (sought_first (length s) (p + 1) s (λ q. literal_of k s q) (omega arith) (λ q a. ih q (omega arith))) (sym (from_bad p s h (rw e)))

    literal_from : (k p : ℕ) (s : List ℕ) → length s ≤ p + k → literal_of k s p ≡ from_of p s
    unfolding literal_of
    literal_from zero p s l = sym (from_end p s (omega arith))
    literal_from (suc k) p s l =
        ⊎_elim (λ h. simp (lt-leb (length s) p h) (turn k p s h l (λ q a. literal_from k q s a) _ refl))
        (λ h. simp (le-leb (length s) p h, from_end p s h))
        (less p (length s))

    pub literal_is : (s : List ℕ) → literal_of (length s) s 0 ≡ sights_of read_of says_of (within zero) 0 s
    literal_is s = literal_from (length s) 0 s (omega arith)
