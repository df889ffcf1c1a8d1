-- Bytes that were walked to a place between two frames, and the bytes behind it: the accepted
-- frames of the whole are those of the two parts. So a capture that arrives may be cleaned piece by
-- piece. It rests on frame laws 1 and 2, not on what reading is.
use Prim.Native.Nat.{ℕ, zero, suc, ◌+◌, ◌-◌, ◌≤◌}
use Rattle.std.specs.Prelude.{◌≡◌, Bool, true, false, length, take, drop}
use Rattle.std.proofs.Math.Path.{refl}
use Rattle.std.proofs.Common.{sym, ap, ap₂, ◌∙◌, zero-add, take-append-drop, length-append}
use mathlib.Core.List.{List, [], ◌∷◌, ◌++◌, append_assoc}
use native.Mathlib.Omega.{arith}
use Rattle.std.proofs.lemmas.List.{take-append-le, drop-append-le}
use Rattle.terms.specs.Cases.{clash}
use Rattle.walk_laws.specs.Walk.{Says, frame, more, bad, Mode, within, seeking, after, next}
use Rattle.walk_laws.specs.Waits.{waits, Got, ran_of, ran_wait, ran_step, ran_append}
use Rattle.walk_laws.specs.Kept.{Between, b_reads, b_seeks, Ends, e_within, e_seeking, seen_few, settled, rested}
use Rattle.walk_laws.specs.Closing.{wait_of, ran_place, ran_kept}
use Rattle.walk_laws.specs.Frames.{front_of, taken_of, accepted_of}

module _ {R : Type 0} (read_of : List ℕ → R) (says_of : R → Says) where
  abbrev says : List ℕ → Says
  says s = says_of (read_of s)

  -- the walk comes from the mode m to the end of s, where t follows, without waiting, and stands
  -- between two frames there
  pub data Passes : Mode → List ℕ → List ℕ → Type 0 where
    p_end : {m : Mode} {t : List ℕ} → Between m → Passes m [] t
    p_on : {m : Mode} {b : ℕ} {s t : List ℕ} → waits m (says (b ∷ (s ++ t))) ≡ false → Passes (next m (says (b ∷ (s ++ t)))) s t → Passes m (b ∷ s) t

  on : (m : Mode) (b : ℕ) (s t : List ℕ) → waits m (says (b ∷ (s ++ t))) ≡ false → Passes (next m (says (b ∷ (s ++ t)))) s t → Passes m (b ∷ s) t
  on m b s t h p = p_on h p

  -- whether the walk reads or searches makes no difference to what it accepts
  same_taken : (w : Says) (s : List ℕ) → taken_of seeking w s ≡ taken_of (within zero) w s
  unfolding taken_of
  same_taken w s = refl

  same_next : (w : Says) → next seeking w ≡ next (within zero) w
  unfolding next
  same_next w = refl

  pub either_mode : (m : Mode) (s : List ℕ) → Between m → accepted_of read_of says_of m s ≡ accepted_of read_of says_of (within zero) s
  unfolding accepted_of
  either_mode m s b_reads = refl
  either_mode m [] b_seeks = refl
  either_mode m (b ∷ s) b_seeks = rw (same_taken (says (b ∷ s)) (b ∷ s), same_next (says (b ∷ s)))

  -- a frame that the walk stands in ends within s
  within_long : (k : ℕ) (s t : List ℕ) → Passes (within k) s t → k ≤ length s
  unfolding next
  within_long zero s t h = omega arith
  within_long (suc k) _ t (p_end h) = elim h [ ]
  within_long (suc k) s t (p_on {s = s'} e h) = let q = within_long k s' t h in omega arith

  module _ (kept : (s t : List ℕ) → (says_of (read_of s) ≡ more → ⊥) → read_of (s ++ t) ≡ read_of s) (own : (s : List ℕ) (n : ℕ) → says_of (read_of s) ≡ frame n → read_of (take n s) ≡ read_of s) where
    not_both : (w : Says) (n : ℕ) → w ≡ frame n → w ≡ more → ⊥
    not_both w n e f = let z : ◌≡◌ {A = ℕ} 0 1 = cc in omega arith

    not_bad : (w : Says) (n : ℕ) → w ≡ frame n → w ≡ bad → ⊥
    not_bad w n e f = let z : ◌≡◌ {A = ℕ} 0 1 = cc in omega arith

    -- a frame that lies in s is read there without what follows
    alone : (s t : List ℕ) (n : ℕ) → says (s ++ t) ≡ frame n → n ≤ length s → read_of s ≡ read_of (s ++ t)
    alone s t n e h =
        let f : read_of (take n s) ≡ read_of (s ++ t) = ap read_of (sym (take-append-le n s t h)) ∙ own (s ++ t) n e in
        let g : read_of (take n s ++ drop n s) ≡ read_of (take n s) = kept (take n s) (drop n s) (not_both _ n (ap says_of f ∙ e)) in
        ap read_of (sym (take-append-drop n s)) ∙ g ∙ f

    -- one that is refused with what follows is no frame without it
    refused : (s t : List ℕ) → says (s ++ t) ≡ bad → (n : ℕ) → says s ≡ frame n → ⊥
    refused s t e n f = not_bad _ n (ap says_of (kept s t (not_both _ n f)) ∙ f) e

    none_taken : (m : Mode) (w : Says) (s : List ℕ) → Between m → ((n : ℕ) → w ≡ frame n → ⊥) → (taken_of m w s ≡ []) × (next m w ≡ seeking)
    unfolding taken_of front_of next after
    none_taken m (frame n) s b h = absurd (h n refl)
    none_taken m more s b_reads h = (refl, refl)
    none_taken m more s b_seeks h = (refl, refl)
    none_taken m bad s b_reads h = (refl, refl)
    none_taken m bad s b_seeks h = (refl, refl)

    frame_taken : (m : Mode) (n : ℕ) (s : List ℕ) → Between m → (taken_of m (frame n) s ≡ take n s ∷ []) × (next m (frame n) ≡ within (n - 1))
    unfolding taken_of front_of next after
    frame_taken m n s b_reads = (refl, refl)
    frame_taken m n s b_seeks = (refl, refl)

    waits_at : (m : Mode) → Between m → waits m more ≡ true
    unfolding waits
    waits_at m b_reads = refl
    waits_at m b_seeks = refl

    -- the first byte is taken alike, with what follows and without
    abbrev Step : Mode → ℕ → List ℕ → List ℕ → Type 0
    Step m b s t = (taken_of m (says (b ∷ (s ++ t))) (b ∷ (s ++ t)) ≡ taken_of m (says (b ∷ s)) (b ∷ s)) × (next m (says (b ∷ (s ++ t))) ≡ next m (says (b ∷ s)))

    step_by : (m : Mode) (b : ℕ) (s t : List ℕ) → Between m → (w : Says) → says (b ∷ (s ++ t)) ≡ w → waits m w ≡ false → Passes (next m w) s t → Step m b s t
    step_by m b s t z (frame n) e h p =
        let l : n - 1 ≤ length s = within_long (n - 1) s t (rw (frame_taken m n (b ∷ s) z).1 at p) in
        let r : read_of (b ∷ s) ≡ read_of (b ∷ (s ++ t)) = alone (b ∷ s) t n e (omega arith) in
        let q : says (b ∷ s) ≡ frame n = ap says_of r ∙ e in
        let c : take n (b ∷ (s ++ t)) ≡ take n (b ∷ s) = take-append-le n (b ∷ s) t (omega arith) in
        rw (e, q, (frame_taken m n (b ∷ (s ++ t)) z).0, (frame_taken m n (b ∷ s) z).0, c) (refl, refl)
    step_by m b s t z more e h p = absurd (clash (waits_at m z) h)
    step_by m b s t z bad e h p =
        let x = none_taken m (says (b ∷ (s ++ t))) (b ∷ (s ++ t)) z (λ n f. not_bad _ n f e) in
        let y = none_taken m (says (b ∷ s)) (b ∷ s) z (refused (b ∷ s) t e) in
        (x.0 ∙ sym y.0, x.1 ∙ sym y.1)

    step : (m : Mode) (b : ℕ) (s t : List ℕ) → waits m (says (b ∷ (s ++ t))) ≡ false → Passes (next m (says (b ∷ (s ++ t)))) s t → Step m b s t
    unfolding taken_of next
    step (within zero) b s t h p = step_by (within zero) b s t b_reads _ refl h p
    step (within (suc k)) b s t h p = (refl, refl)
    step seeking b s t h p = step_by seeking b s t b_seeks _ refl h p

    -- THE ACCEPTED FRAMES OF BOTH PARTS
    pub accepted_append : (m : Mode) (s t : List ℕ) → Passes m s t → accepted_of read_of says_of m (s ++ t) ≡ accepted_of read_of says_of m s ++ accepted_of read_of says_of (within zero) t
    unfolding accepted_of
    accepted_append m [] t (p_end z) = either_mode m t z
    accepted_append m (b ∷ s) t (p_on h p) =
        let q = step m b s t h p in
        let i = accepted_append (next m (says (b ∷ (s ++ t)))) s t p in
        rw (i, q.0, q.1) (sym (append_assoc (taken_of m (says (b ∷ s)) (b ∷ s)) (accepted_of read_of says_of (next m (says (b ∷ s))) s) (accepted_of read_of says_of (within zero) t)))

    -- more bytes behind change nothing of it
    more_step : (m : Mode) (b : ℕ) (s t u : List ℕ) → Between m → waits m (says (b ∷ (s ++ t))) ≡ false → says (b ∷ (s ++ (t ++ u))) ≡ says (b ∷ (s ++ t))
    more_step m b s t u z h =
        let k = kept (b ∷ (s ++ t)) u (λ (e : says (b ∷ (s ++ t)) ≡ more). clash (waits_at m z) (sym (ap (waits m) e) ∙ h)) in
        ap (λ (l : List ℕ). says (b ∷ l)) (sym (append_assoc s t u)) ∙ ap says_of k

    pub passes_more : (m : Mode) (s t u : List ℕ) → Passes m s t → Passes m s (t ++ u)
    unfolding waits next
    passes_more m [] t u (p_end z) = p_end z
    passes_more (within zero) (b ∷ s) t u (p_on h p) =
        let e = more_step (within zero) b s t u b_reads h in
        on (within zero) b s (t ++ u) (ap (waits (within zero)) e ∙ h) (rw e (passes_more _ s t u p))
    passes_more (within (suc k)) (b ∷ s) t u (p_on h p) = p_on refl (passes_more (within k) s t u p)
    passes_more seeking (b ∷ s) t u (p_on h p) =
        let e = more_step seeking b s t u b_seeks h in
        on seeking b s (t ++ u) (ap (waits seeking) e ∙ h) (rw e (passes_more _ s t u p))

    -- WHAT A RUN PASSES: the bytes before those that it waits with
    abbrev pub passed : Mode → ℕ → List ℕ → List ℕ
    passed m p w = take (length w - length (ran_of read_of says_of m p w).kept) w

    module _ (there : (s : List ℕ) (n : ℕ) → says_of (read_of s) ≡ frame n → n ≤ length s) where
      record Parts (m : Mode) (p : ℕ) (w : List ℕ) : Type 0 where
        whole : passed m p w ++ (ran_of read_of says_of m p w).kept ≡ w
        goes : Passes m (passed m p w) (ran_of read_of says_of m p w).kept

      parts_by : (m : Mode) (p b : ℕ) (s : List ℕ) → ((n : Mode) → Between (ran_of read_of says_of n (p + 1) s).mode → Parts n (p + 1) s) → Between (ran_of read_of says_of m p (b ∷ s)).mode
          → (w : Bool) → waits m (says (b ∷ s)) ≡ w → Parts m p (b ∷ s)
      parts_by m p b s ih h true e =
          let k = ran_wait read_of says_of m p b s e in
          let z : length (b ∷ s) - length (b ∷ s) ≡ 0 = omega arith in
          record { whole = rw (k, z); goes = rw (k, z) (p_end (rw k at h)) }
      parts_by m p b s ih h false e =
          let k = ran_step read_of says_of m p b s e in
          let g = ran_of read_of says_of (next m (says (b ∷ s))) (p + 1) s in
          let q = ih (next m (says (b ∷ s))) (rw k at h) in
          let z : length (b ∷ s) - length g.kept ≡ suc (length s - length g.kept) = omega (arith, seen_few read_of says_of (next m (says (b ∷ s))) (p + 1) s) in
          record {
            whole = rw (k, z) (ap (λ (l : List ℕ). b ∷ l) q.whole);
            goes = rw (k, z) (on m b (take (length s - length g.kept) s) g.kept (rw q.whole e) (rw q.whole q.goes));
          }

      parts : (m : Mode) (p : ℕ) (w : List ℕ) → Between (ran_of read_of says_of m p w).mode → Parts m p w
      unfolding ran_of
      parts m p [] h = record { whole = refl; goes = p_end h }
      parts m p (b ∷ s) h = parts_by m p b s (λ n i. parts n (p + 1) s i) h (waits m (says (b ∷ s))) refl

      between_ends : (m : Mode) (w : List ℕ) → Between m → Ends (length w) m
      between_ends m w b_reads = let h : 0 ≤ length w = omega arith in e_within h
      between_ends m w b_seeks = e_seeking

      -- the frames of what a run passed, and those of the bytes that wait with whatever follows
      run_accepts : (m : Mode) (p : ℕ) (w u : List ℕ) → Between m
          → accepted_of read_of says_of (within zero) (w ++ u) ≡ accepted_of read_of says_of (within zero) (passed m p w) ++ accepted_of read_of says_of (within zero) ((ran_of read_of says_of m p w).kept ++ u)
      run_accepts m p w u z =
          let q = parts m p w (rested read_of says_of there m p w (between_ends m w z)) in
          let k = (ran_of read_of says_of m p w).kept in
          let e : w ++ u ≡ passed m p w ++ (k ++ u) = ap (λ (l : List ℕ). l ++ u) (sym q.whole) ∙ append_assoc (passed m p w) k u in
          sym (either_mode m (w ++ u) z)
          ∙ ap (accepted_of read_of says_of m) e
          ∙ accepted_append m (passed m p w) (k ++ u) (passes_more m (passed m p w) k u q.goes)
          ∙ ap (λ (l : List (List ℕ)). l ++ accepted_of read_of says_of (within zero) (k ++ u)) (either_mode m (passed m p w) z)

      -- ONE CUT MORE: the place of s where the walk waits
      abbrev at : List ℕ → ℕ
      at s = wait_of read_of says_of (within zero) 0 s

      at_inside : (s : List ℕ) → at s ≤ length s
      at_inside s = omega (arith, (settled read_of says_of (within zero) 0 (length s) s (zero-add (length s))).whole, ran_place read_of says_of (within zero) 0 s)

      kept_at : (s : List ℕ) → (ran_of read_of says_of (within zero) 0 s).kept ≡ drop (at s) s
      kept_at s = let z : at s - 0 ≡ at s = omega arith in ran_kept read_of says_of (within zero) 0 s ∙ ap (λ (n : ℕ). drop n s) z

      -- behind the place where bytes s wait stand the frames between that place and the one where s
      -- and c wait, and then those behind it
      pub piece_accepts : (s c u : List ℕ) → accepted_of read_of says_of (within zero) (drop (at s) ((s ++ c) ++ u))
          ≡ accepted_of read_of says_of (within zero) (take (at (s ++ c) - at s) (drop (at s) (s ++ c))) ++ accepted_of read_of says_of (within zero) (drop (at (s ++ c)) ((s ++ c) ++ u))
      piece_accepts s c u =
          let g = ran_of read_of says_of (within zero) 0 s in
          let w = g.kept ++ c in
          let h = ran_of read_of says_of g.mode g.place w in
          let gp : g.place ≡ at s = ran_place read_of says_of (within zero) 0 s in
          let gk : g.kept ≡ drop (at s) s = kept_at s in
          let r = ran_append read_of says_of kept (within zero) 0 s c in
          let hp : h.place ≡ at (s ++ c) = ap (λ (x : Got R). x.place) (sym r) ∙ ran_place read_of says_of (within zero) 0 (s ++ c) in
          let hk : h.kept ≡ drop (at (s ++ c)) (s ++ c) = ap (λ (x : Got R). x.kept) (sym r) ∙ kept_at (s ++ c) in
          let we : w ≡ drop (at s) (s ++ c) = ap (λ (l : List ℕ). l ++ c) gk ∙ sym (drop-append-le (at s) s c (at_inside s)) in
          let long = (settled read_of says_of g.mode g.place (g.place + length w) w refl).whole in
          let d : length w - length h.kept ≡ at (s ++ c) - at s = omega (arith, long, gp, hp) in
          let far : at s ≤ length (s ++ c) = omega (arith, at_inside s, length-append s c) in
          let z = rested read_of says_of there (within zero) 0 s (between_ends (within zero) s b_reads) in
          ap (accepted_of read_of says_of (within zero)) (drop-append-le (at s) (s ++ c) u far ∙ ap (λ (l : List ℕ). l ++ u) (sym we))
          ∙ run_accepts g.mode g.place w u z
          ∙ ap₂ (λ (a b : List (List ℕ)). a ++ b) (ap (accepted_of read_of says_of (within zero)) (ap₂ take d we))
          (ap (accepted_of read_of says_of (within zero)) (ap (λ (l : List ℕ). l ++ u) hk ∙ sym (drop-append-le (at (s ++ c)) (s ++ c) u (at_inside (s ++ c)))))
