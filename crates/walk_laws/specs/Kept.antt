-- What a walk that waits keeps: nothing, or a place that waits; so at most 8,191 bytes. No byte is
-- lost, and each reading takes one.
use Rattle.std.specs.Prelude.{ℕ, zero, suc, ◌+◌, ◌-◌, ◌≤◌, ◌≡◌, Bool, true, false, ◌⊎◌}
use Rattle.std.proofs.Math.Path.{refl}
use Rattle.std.proofs.Common.{ap, inr, ⊎_elim, length-append}
use Rattle.std.proofs.Math.Logic.{inl}
use mathlib.Core.List.{List, [], ◌∷◌}
use native.Mathlib.Omega.{arith}
use Rattle.std.proofs.Math.ListN.{length}
use Rattle.terms.specs.Cases.{less, clash}
use Rattle.walk_laws.specs.Walk.{Says, frame, more, bad, Mode, within, seeking, after, next, found, noted, sights_of}
use Rattle.walk_laws.specs.Waits.{waits, Got, ran_of, ran_wait, ran_step, sights_step}

pub waits_more : (m : Mode) (w : Says) → waits m w ≡ true → w ≡ more
unfolding waits
waits_more (within zero) (frame n) e = absurd (clash e refl)
waits_more (within zero) more e = refl
waits_more (within zero) bad e = absurd (clash e refl)
waits_more (within (suc k)) w e = absurd (clash e refl)
waits_more seeking (frame n) e = absurd (clash e refl)
waits_more seeking more e = refl
waits_more seeking bad e = absurd (clash e refl)

-- a place is between frames: read, or tried by the search
pub data Between : Mode → Type 0 where
  b_reads : Between (within zero)
  b_seeks : Between seeking

waits_between : (m : Mode) (w : Says) → waits m w ≡ true → Between m
unfolding waits
waits_between (within zero) w e = b_reads
waits_between (within (suc k)) w e = absurd (clash e refl)
waits_between seeking w e = b_seeks

-- the frame that the walk stands in ends within n bytes
pub data Ends : ℕ → Mode → Type 0 where
  e_within : {n k : ℕ} → k ≤ n → Ends n (within k)
  e_seeking : {n : ℕ} → Ends n seeking

ends_none : (m : Mode) → Ends 0 m → Between m
ends_none (within zero) h = b_reads
ends_none (within (suc k)) (e_within h) = absurd (omega arith)
ends_none seeking h = b_seeks

module _ {R : Type 0} (read_of : List ℕ → R) (says_of : R → Says) where
  -- what is left, where the bytes end at the place `end`
  pub record Settled (end : ℕ) (g : Got R) : Type 0 where
    pub rests : (g.kept ≡ []) ⊎ (says_of (read_of g.kept) ≡ more)
    pub whole : g.place + length g.kept ≡ end

  settled_by : (m : Mode) (p b end : ℕ) (s : List ℕ) → p + length (b ∷ s) ≡ end → ((n : Mode) → Settled end (ran_of read_of says_of n (p + 1) s))
      → (w : Bool) → waits m (says_of (read_of (b ∷ s))) ≡ w → Settled end (ran_of read_of says_of m p (b ∷ s))
  settled_by m p b end s l ih true e = rw (ran_wait read_of says_of m p b s e) (record { rests = inr (waits_more m _ e); whole = l })
  settled_by m p b end s l ih false e = rw (ran_step read_of says_of m p b s e) (record { rests = (ih _).rests; whole = (ih _).whole })

  pub settled : (m : Mode) (p end : ℕ) (s : List ℕ) → p + length s ≡ end → Settled end (ran_of read_of says_of m p s)
  unfolding ran_of
  settled m p end [] l = record { rests = inl refl; whole = l }
  settled m p end (b ∷ s) l = settled_by m p b end s l (λ n. settled n (p + 1) end s (omega arith)) (waits m (says_of (read_of (b ∷ s)))) refl

  -- frame law 3: 8,192 bytes never wait
  pub few : ((s : List ℕ) → 8192 ≤ length s → says_of (read_of s) ≡ more → ⊥) → (s : List ℕ) → (s ≡ []) ⊎ (says_of (read_of s) ≡ more) → length s ≤ 8191
  few enough s (inl e) = omega (arith, ap length e)
  few enough s (inr e) = ⊎_elim (λ l. omega arith) (λ l. absurd (enough s l e)) (less (length s) 8192)

  -- frame law 2, the part that a frame's bytes are all there: then a walk that starts between
  -- frames stops between frames
  module _ (there : (s : List ℕ) (n : ℕ) → says_of (read_of s) ≡ frame n → n ≤ length s) where
    ends_after : (b : ℕ) (s : List ℕ) (w : Says) → says_of (read_of (b ∷ s)) ≡ w → Ends (length s) (after w)
    unfolding after
    ends_after b s (frame n) e = let h : n - 1 ≤ length s = omega (arith, there (b ∷ s) n e) in e_within h
    ends_after b s more e = e_seeking
    ends_after b s bad e = e_seeking

    ends_next : (m : Mode) (b : ℕ) (s : List ℕ) → Ends (length (b ∷ s)) m → Ends (length s) (next m (says_of (read_of (b ∷ s))))
    unfolding next
    ends_next (within zero) b s h = ends_after b s _ refl
    ends_next (within (suc k)) b s (e_within h) = let q : k ≤ length s = omega arith in e_within q
    ends_next seeking b s h = ends_after b s _ refl

    rested_by : (m : Mode) (p b : ℕ) (s : List ℕ) → Between (ran_of read_of says_of (next m (says_of (read_of (b ∷ s)))) (p + 1) s).mode
        → (w : Bool) → waits m (says_of (read_of (b ∷ s))) ≡ w → Between (ran_of read_of says_of m p (b ∷ s)).mode
    rested_by m p b s ih true e = rw (ran_wait read_of says_of m p b s e) (waits_between m _ e)
    rested_by m p b s ih false e = rw (ran_step read_of says_of m p b s e) ih

    pub rested : (m : Mode) (p : ℕ) (s : List ℕ) → Ends (length s) m → Between (ran_of read_of says_of m p s).mode
    unfolding ran_of
    rested m p [] h = ends_none m h
    rested m p (b ∷ s) h = rested_by m p b s (rested (next m (says_of (read_of (b ∷ s)))) (p + 1) s (ends_next m b s h)) (waits m (says_of (read_of (b ∷ s)))) refl

noted_few : {R : Type 0} (m : Mode) (w : Says) (p : ℕ) (r : R) → length (noted m w p r) ≤ 1
unfolding noted found
noted_few (within zero) w p r = omega arith
noted_few (within (suc k)) w p r = omega arith
noted_few seeking (frame n) p r = omega arith
noted_few seeking more p r = omega arith
noted_few seeking bad p r = omega arith

module _ {R : Type 0} (read_of : List ℕ → R) (says_of : R → Says) where
  seen_by : (m : Mode) (p b : ℕ) (s : List ℕ) → ((n : Mode) → length (ran_of read_of says_of n (p + 1) s).seen + length (ran_of read_of says_of n (p + 1) s).kept ≤ length s)
      → (w : Bool) → waits m (says_of (read_of (b ∷ s))) ≡ w → length (ran_of read_of says_of m p (b ∷ s)).seen + length (ran_of read_of says_of m p (b ∷ s)).kept ≤ length (b ∷ s)
  seen_by m p b s ih true e = rw (ran_wait read_of says_of m p b s e) (omega arith)
  seen_by m p b s ih false e =
      rw (ran_step read_of says_of m p b s e) (simp length-append (omega (arith, ih (next m (says_of (read_of (b ∷ s)))), noted_few m (says_of (read_of (b ∷ s))) p (read_of (b ∷ s)))))

  -- each reading takes a byte
  pub seen_few : (m : Mode) (p : ℕ) (s : List ℕ) → length (ran_of read_of says_of m p s).seen + length (ran_of read_of says_of m p s).kept ≤ length s
  unfolding ran_of
  seen_few m p [] = omega arith
  seen_few m p (b ∷ s) = seen_by m p b s (λ n. seen_few n (p + 1) s) (waits m (says_of (read_of (b ∷ s)))) refl

  short_by : (m : Mode) (p b : ℕ) (s : List ℕ) → ((n : Mode) → length (ran_of read_of says_of n (p + 1) s).seen ≤ length (sights_of read_of says_of n (p + 1) s))
      → (w : Bool) → waits m (says_of (read_of (b ∷ s))) ≡ w → length (ran_of read_of says_of m p (b ∷ s)).seen ≤ length (sights_of read_of says_of m p (b ∷ s))
  short_by m p b s ih true e = rw (ran_wait read_of says_of m p b s e) (omega arith)
  short_by m p b s ih false e = rw (ran_step read_of says_of m p b s e, sights_step read_of says_of m p b s) (simp length-append (omega (arith, ih (next m (says_of (read_of (b ∷ s)))))))

  -- a walk that may wait reads no more than the closed one
  pub seen_short : (m : Mode) (p : ℕ) (s : List ℕ) → length (ran_of read_of says_of m p s).seen ≤ length (sights_of read_of says_of m p s)
  unfolding ran_of
  seen_short m p [] = omega arith
  seen_short m p (b ∷ s) = short_by m p b s (λ n. seen_short n (p + 1) s) (waits m (says_of (read_of (b ∷ s)))) refl
