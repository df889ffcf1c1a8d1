-- Captures made of frames end to end (CR 13), and the accepted frames of any capture (CR 11).
use Rattle.std.specs.Prelude.{ℕ, zero, suc, ◌+◌, ◌-◌, ◌*◌, ◌≤◌, ◌≡◌, take}
use Rattle.std.proofs.Math.Path.{refl, sym, ap}
use Rattle.std.proofs.Common.{◌∙◌, mul-zero, length-take-le}
use mathlib.Core.List.{List, [], ◌∷◌, ◌++◌, append_assoc, append-nil}
use native.Mathlib.Omega.{arith}
use Rattle.std.proofs.Math.Nat.{mul-suc}
use Rattle.std.proofs.Math.ListN.{length, length-append}
use Rattle.std.proofs.Math.Seq.{drop_at}
use Rattle.walk_laws.specs.Walk.{Says, frame, more, bad, Sight, Mode, within, seeking, after, next, found, noted, sights_of}
use Rattle.walk_laws.specs.Literal.{sights_skip, from_step}

-- captures, or frames, one behind the other
unfoldable pub joined : List (List ℕ) → List ℕ
joined [] = []
joined (c ∷ cs) = c ++ joined cs

module _ {R : Type 0} (read_of : List ℕ → R) (says_of : R → Says) where
  -- each of these is one frame and nothing else
  pub data Frames : List (List ℕ) → Type 0 where
    f_nil : Frames []
    f_cons : {f : List ℕ} {fs : List (List ℕ)} → says_of (read_of f) ≡ frame (length f) → Frames fs → Frames (f ∷ fs)

  -- frames of two captures that read alike, one by one
  pub data ReadAlike : List (List ℕ) → List (List ℕ) → Type 0 where
    a_nil : ReadAlike [] []
    a_cons : {f g : List ℕ} {fs gs : List (List ℕ)} → read_of f ≡ read_of g → ReadAlike fs gs → ReadAlike (f ∷ fs) (g ∷ gs)

  -- one reading for each frame
  unfoldable pub tagged_of : ℕ → List (List ℕ) → List (Sight R)
  tagged_of p [] = []
  tagged_of p (f ∷ fs) = record { place = p; read = read_of f } ∷ tagged_of (p + length f) fs

  module _ (kept : (s t : List ℕ) → (says_of (read_of s) ≡ more → ⊥) → read_of (s ++ t) ≡ read_of s) (fits : (s : List ℕ) (n : ℕ) → says_of (read_of s) ≡ frame n → 1 ≤ n) where
    frame_more : (w : Says) (n : ℕ) → w ≡ frame n → w ≡ more → ⊥
    frame_more w n e f = let z : ◌≡◌ {A = ℕ} 0 1 = cc in omega arith

    one_frame : (p : ℕ) (f t : List ℕ) → says_of (read_of f) ≡ frame (length f) → sights_of read_of says_of (within zero) p (f ++ t) ≡ record { place = p; read = read_of f } ∷ sights_of read_of says_of (within zero) (p + length f) t
    unfolding after
    one_frame p [] t e = absurd (omega (arith, fits [] _ e))
    one_frame p (b ∷ f) t e =
        let k = kept (b ∷ f) t (frame_more _ _ e) in
        let n : length (b ∷ f) - 1 ≡ length f = omega arith in
        let q : p + 1 + length f ≡ p + length (b ∷ f) = omega arith in
        from_step read_of says_of p b (f ++ t) (frame (length (b ∷ f))) (ap says_of k ∙ e)
        ∙ rw (k, n, sights_skip read_of says_of (length f) (p + 1) (f ++ t), drop_at f t (length f) refl, q)

    pub frames_sights : (p : ℕ) (fs : List (List ℕ)) → Frames fs → sights_of read_of says_of (within zero) p (joined fs) ≡ tagged_of p fs
    unfolding joined tagged_of sights_of
    frames_sights p fs f_nil = refl
    frames_sights p fs (f_cons {f = f} {fs = t} e r) = one_frame p f (joined t) e ∙ rw (frames_sights (p + length f) t r)

    same_length : (f g : List ℕ) → says_of (read_of f) ≡ frame (length f) → says_of (read_of g) ≡ frame (length g) → read_of f ≡ read_of g → length f ≡ length g
    same_length f g a b e = let q : frame (length f) ≡ frame (length g) = sym a ∙ ap says_of e ∙ b in cc

    tagged_alike : (p : ℕ) (fs gs : List (List ℕ)) → Frames fs → Frames gs → ReadAlike fs gs → tagged_of p fs ≡ tagged_of p gs
    unfolding tagged_of
    tagged_alike p fs gs f_nil f_nil a_nil = refl
    tagged_alike p fs gs (f_cons {f = f} {fs = fs'} a r) (f_cons {f = g} {fs = gs'} b s) (a_cons e t) =
        rw (e, same_length f g a b e, tagged_alike (p + length g) fs' gs' r s t)
    tagged_alike p _ _ f_nil (f_cons {f = g} {fs = gs'} b s) e = elim e [ ]
    tagged_alike p _ _ (f_cons {f = f} {fs = fs'} a r) f_nil e = elim e [ ]

    -- CR 13: what is made of the readings is equal
    pub alike : (fs gs : List (List ℕ)) → Frames fs → Frames gs → ReadAlike fs gs → sights_of read_of says_of (within zero) 0 (joined fs) ≡ sights_of read_of says_of (within zero) 0 (joined gs)
    alike fs gs a b e = frames_sights 0 fs a ∙ tagged_alike 0 fs gs a b e ∙ sym (frames_sights 0 gs b)

-- the reading of a sight that is a frame
unfoldable pub frames_in : {R : Type 0} → Says → R → List R
frames_in (frame n) r = r ∷ []
frames_in more r = []
frames_in bad r = []

-- the bytes of the frame that begins here, if the walk takes one
unfoldable pub front_of : Says → List ℕ → List (List ℕ)
front_of (frame n) s = take n s ∷ []
front_of more s = []
front_of bad s = []

unfoldable pub taken_of : Mode → Says → List ℕ → List (List ℕ)
taken_of (within zero) w s = front_of w s
taken_of (within (suc k)) w s = []
taken_of seeking w s = front_of w s

-- each frame rewritten by f, as the scrubber does
unfoldable pub each_of : {A B : Type 0} → (A → B) → List A → List B
each_of f [] = []
each_of f (x ∷ xs) = f x ∷ each_of f xs

each_append : {A B : Type 0} (f : A → B) (a b : List A) → each_of f (a ++ b) ≡ each_of f a ++ each_of f b
unfolding each_of
each_append f [] b = refl
each_append f (x ∷ a) b = rw (each_append f a b)

-- made into bytes and joined: two lists one behind the other, and how long where each makes n
module _ {A : Type 0} (f : A → List ℕ) where
  pub each_joined : (a b : List A) → joined (each_of f (a ++ b)) ≡ joined (each_of f a) ++ joined (each_of f b)
  unfolding joined each_of
  each_joined [] b = refl
  each_joined (x ∷ a) b = rw (each_joined a b, append_assoc)

  pub each_long : (n : ℕ) → ((x : A) → length (f x) ≡ n) → (xs : List A) → length (joined (each_of f xs)) ≡ n * length xs
  unfolding joined each_of
  each_long n h [] = sym (mul-zero n)
  each_long n h (x ∷ xs) = simp length-append (rw (h x, each_long n h xs, mul-suc n (length xs)) (omega arith))

module _ {R : Type 0} (read_of : List ℕ → R) (says_of : R → Says) where
  -- the readings that were frames, in order: all that figures are counted from
  unfoldable pub reads_of : List (Sight R) → List R
  reads_of [] = []
  reads_of (x ∷ xs) = frames_in (says_of x.read) x.read ++ reads_of xs

  reads_append : (a b : List (Sight R)) → reads_of (a ++ b) ≡ reads_of a ++ reads_of b
  unfolding reads_of
  reads_append [] b = refl
  reads_append (x ∷ a) b = rw (reads_append a b) (sym (append_assoc (frames_in (says_of x.read) x.read) (reads_of a) (reads_of b)))

  -- the accepted frames of a capture, their bytes, stray bytes left out
  unfoldable pub accepted_of : Mode → List ℕ → List (List ℕ)
  accepted_of m [] = []
  accepted_of m (b ∷ s) = taken_of m (says_of (read_of (b ∷ s))) (b ∷ s) ++ accepted_of (next m (says_of (read_of (b ∷ s)))) s

  -- a frame depends on its own bytes alone
  module _ (own : (s : List ℕ) (n : ℕ) → says_of (read_of s) ≡ frame n → read_of (take n s) ≡ read_of s) where
    front : (s : List ℕ) (w : Says) → says_of (read_of s) ≡ w → each_of read_of (front_of w s) ≡ frames_in w (read_of s)
    unfolding each_of front_of frames_in
    front s (frame n) e = rw (own s n e)
    front s more e = refl
    front s bad e = refl

    seek_reads : (s : List ℕ) (p : ℕ) (w : Says) → says_of (read_of s) ≡ w → reads_of (found w p (read_of s)) ≡ frames_in w (read_of s)
    unfolding found reads_of frames_in
    seek_reads s p (frame n) e = rw e
    seek_reads s p more e = refl
    seek_reads s p bad e = refl

    here_reads : (m : Mode) (p : ℕ) (s : List ℕ) → reads_of (noted m (says_of (read_of s)) p (read_of s)) ≡ each_of read_of (taken_of m (says_of (read_of s)) s)
    unfolding noted taken_of reads_of each_of
    here_reads (within zero) p s = append-nil _ ∙ sym (front s _ refl)
    here_reads (within (suc k)) p s = refl
    here_reads seeking p s = seek_reads s p _ refl ∙ sym (front s _ refl)

    -- the readings that were frames are the readings of the accepted frames
    pub reads_accepted : (m : Mode) (p : ℕ) (s : List ℕ) → reads_of (sights_of read_of says_of m p s) ≡ each_of read_of (accepted_of m s)
    unfolding sights_of accepted_of reads_of each_of
    reads_accepted m p [] = refl
    reads_accepted m p (b ∷ s) =
        rw (reads_append (noted m (says_of (read_of (b ∷ s))) p (read_of (b ∷ s))) (sights_of read_of says_of (next m (says_of (read_of (b ∷ s)))) (p + 1) s), each_append read_of (taken_of m (says_of (read_of (b ∷ s))) (b ∷ s)) (accepted_of (next m (says_of (read_of (b ∷ s)))) s), here_reads m p (b ∷ s), reads_accepted (next m (says_of (read_of (b ∷ s)))) (p + 1) s)

  -- CR 11: a capture whose accepted frames are each rewritten by a scrubber that keeps what the
  -- walk sees has the same figures
  each_each : (f : List ℕ → List ℕ) → ((s : List ℕ) → read_of (f s) ≡ read_of s) → (fs : List (List ℕ)) → each_of read_of (each_of f fs) ≡ each_of read_of fs
  unfolding each_of
  each_each f h [] = refl
  each_each f h (x ∷ xs) = rw (h x, each_each f h xs)

  reads_tagged : (p : ℕ) (fs : List (List ℕ)) → Frames read_of says_of fs → reads_of (tagged_of read_of says_of p fs) ≡ each_of read_of fs
  unfolding reads_of tagged_of each_of frames_in
  reads_tagged p fs f_nil = refl
  reads_tagged p fs (f_cons {f = f} {fs = t} e r) = rw (e, reads_tagged (p + length f) t r)

  frames_append : (a b : List (List ℕ)) → Frames read_of says_of a → Frames read_of says_of b → Frames read_of says_of (a ++ b)
  frames_append a b f_nil h = h
  frames_append a b (f_cons {f = f} {fs = t} e r) h = f_cons e (frames_append t b r h)

  module _ (own : (s : List ℕ) (n : ℕ) → says_of (read_of s) ≡ frame n → read_of (take n s) ≡ read_of s) (there : (s : List ℕ) (n : ℕ) → says_of (read_of s) ≡ frame n → n ≤ length s) where
    front_frames : (s : List ℕ) (w : Says) → says_of (read_of s) ≡ w → Frames read_of says_of (front_of w s)
    unfolding front_of
    front_frames s (frame n) e = f_cons (ap says_of (own s n e) ∙ e ∙ ap frame (sym (length-take-le n s (there s n e)))) f_nil
    front_frames s more e = f_nil
    front_frames s bad e = f_nil

    taken_frames : (m : Mode) (s : List ℕ) → Frames read_of says_of (taken_of m (says_of (read_of s)) s)
    unfolding taken_of
    taken_frames (within zero) s = front_frames s _ refl
    taken_frames (within (suc k)) s = f_nil
    taken_frames seeking s = front_frames s _ refl

    pub accepted_frames : (m : Mode) (s : List ℕ) → Frames read_of says_of (accepted_of m s)
    unfolding accepted_of
    accepted_frames m [] = f_nil
    accepted_frames m (b ∷ s) = frames_append _ _ (taken_frames m (b ∷ s)) (accepted_frames (next m (says_of (read_of (b ∷ s)))) s)

    module _ (kept : (s t : List ℕ) → (says_of (read_of s) ≡ more → ⊥) → read_of (s ++ t) ≡ read_of s) (fits : (s : List ℕ) (n : ℕ) → says_of (read_of s) ≡ frame n → 1 ≤ n) (scrub : List ℕ → List ℕ) (same : (s : List ℕ) → read_of (scrub s) ≡ read_of s) (long : (s : List ℕ) → length (scrub s) ≡ length s) where
      scrubbed_frames : (fs : List (List ℕ)) → Frames read_of says_of fs → Frames read_of says_of (each_of scrub fs)
      unfolding each_of
      scrubbed_frames fs f_nil = f_nil
      scrubbed_frames fs (f_cons {f = f} {fs = t} e r) = f_cons (ap says_of (same f) ∙ e ∙ ap frame (sym (long f))) (scrubbed_frames t r)

      -- the walk over the scrubbed frames end to end sees what the walk over the capture saw,
      -- refusals left out
      pub clean_reads : (s : List ℕ) → reads_of (sights_of read_of says_of (within zero) 0 (joined (each_of scrub (accepted_of (within zero) s)))) ≡ reads_of (sights_of read_of says_of (within zero) 0 s)
      clean_reads s =
          let z = scrubbed_frames (accepted_of (within zero) s) (accepted_frames (within zero) s) in
          ap reads_of (frames_sights read_of says_of kept fits 0 _ z)
          ∙ reads_tagged 0 _ z
          ∙ each_each scrub same (accepted_of (within zero) s)
          ∙ sym (reads_accepted own (within zero) 0 s)
