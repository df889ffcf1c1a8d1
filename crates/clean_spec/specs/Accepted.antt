-- The accepted frames of a capture are those of `walk_laws`, and so they are no longer than
-- the capture.
use Rattle.std.specs.Prelude.{ℕ, zero, suc, ◌+◌, ◌≤◌, ◌≡◌, true, false, List, [], ◌∷◌, ◌++◌, eqb, take, drop}
use Rattle.std.proofs.Math.Path.{refl, ap}
use Rattle.std.proofs.Common.{sym, ap₂, ◌∙◌, ⊎_elim, append_assoc, append-nil, length-append, drop-drop, eq-eqb, ne_eqb}
use native.Mathlib.Omega.{arith}
use Rattle.std.proofs.Math.ListN.{length}
use Rattle.std.proofs.Math.Seq.{length-take-le}
use Rattle.terms.specs.Cases.{two}
use Rattle.private.specs.Scrub.{scrubbed}
use Rattle.private.proofs.Laws.{length_always}
use Rattle.walk_laws.specs.Walk.{Says, frame, more, bad, Sight, Mode, within, seeking, after, next, found, noted, sights_of}
use Rattle.walk_laws.specs.Frames.{joined, each_of, front_of, taken_of, accepted_of}
use Rattle.reading.specs.declared.Seen.{Seen}
use Rattle.reading.specs.Seen.{seen_of, seen_number, says_of}
use Rattle.reading.specs.SeenLaws.{says_frame, frame_says, more_says}
use Rattle.reading.proofs.SeenLaws.{seen_fits}
use Rattle.walk_spec.specs.Walk.{sights}
use Rattle.clean_spec.specs.Clean.{frames_in, clean_of}

-- THE FRAMES ARE THOSE THAT `walk_laws` TAKES

frames_append : (s : List ℕ) (a b : List (Sight Seen)) → frames_in s (a ++ b) ≡ frames_in s a ++ frames_in s b
unfolding frames_in
frames_append s [] b = refl
frames_append s (x ∷ a) b =
    rw (frames_append s a b)
    (⊎_elim (λ (t : eqb (seen_number x.read) 0 ≡ true). rw t) (λ (f : eqb (seen_number x.read) 0 ≡ false). rw f) (two (eqb (seen_number x.read) 0)))

bad_frame : (w : Says) (n : ℕ) → w ≡ frame n → w ≡ bad → ⊥
bad_frame w n e f = let z : ◌≡◌ {A = ℕ} 0 1 = cc in omega arith

module _ (s t : List ℕ) (p : ℕ) (d : drop p s ≡ t) where
  abbrev here : Sight Seen
  here = record { place = p; read = seen_of t }

  one : (w : Says) → says_of (seen_of t) ≡ w → frames_in s (here ∷ []) ≡ front_of w t
  unfolding frames_in front_of
  one (frame n) e = let f = frame_says (seen_of t) n e in rw (eq-eqb (seen_number (seen_of t)) 0 f.0, f.1, d)
  one more e = rw (ne_eqb (seen_number (seen_of t)) 0 (λ (z : seen_number (seen_of t) ≡ 0). absurd (omega (arith, z, more_says (seen_of t) e))))
  one bad e = rw (ne_eqb (seen_number (seen_of t)) 0 (λ (z : seen_number (seen_of t) ≡ 0). bad_frame _ _ (says_frame (seen_of t) z) e))

  searched : (w : Says) → says_of (seen_of t) ≡ w → frames_in s (found w p (seen_of t)) ≡ front_of w t
  unfolding found frames_in front_of
  searched (frame n) e = one (frame n) e
  searched more e = refl
  searched bad e = refl

  at_place : (m : Mode) → frames_in s (noted m (says_of (seen_of t)) p (seen_of t)) ≡ taken_of m (says_of (seen_of t)) t
  unfolding noted taken_of frames_in
  at_place (within zero) = one _ refl
  at_place (within (suc k)) = refl
  at_place seeking = searched _ refl

frames_from : (s : List ℕ) (m : Mode) (p : ℕ) (t : List ℕ) → drop p s ≡ t → frames_in s (sights_of seen_of says_of m p t) ≡ accepted_of seen_of says_of m t
unfolding sights_of accepted_of frames_in
frames_from s m p [] d = refl
frames_from s m p (b ∷ t) d =
    let w = says_of (seen_of (b ∷ t)) in
    let e : drop (p + 1) s ≡ t = sym (drop-drop 1 p s) ∙ ap (drop 1) d in
    frames_append s (noted m w p (seen_of (b ∷ t))) (sights_of seen_of says_of (next m w) (p + 1) t)
    ∙ ap₂ (λ (x y : List (List ℕ)). x ++ y) (at_place s (b ∷ t) p d m) (frames_from s (next m w) (p + 1) t e)

abbrev pub accepted_in : List ℕ → List (List ℕ)
accepted_in s = accepted_of seen_of says_of (within zero) s

pub frames_accepted : (s : List ℕ) → frames_in s (sights s) ≡ accepted_in s
frames_accepted s = frames_from s (within zero) 0 s refl

pub clean_is : (s : List ℕ) → clean_of s ≡ joined (each_of scrubbed (accepted_in s))
unfolding clean_of
clean_is s = ap (λ (fs : List (List ℕ)). joined (each_of scrubbed fs)) (frames_accepted s)

-- THEY ARE NO LONGER THAN THE CAPTURE

joined_append : (a b : List (List ℕ)) → joined (a ++ b) ≡ joined a ++ joined b
unfolding joined
joined_append [] b = refl
joined_append (f ∷ a) b = rw (joined_append a b, append_assoc)

-- the bytes that the frame stood in still wants
abbrev wants : Mode → ℕ
wants (within k) = k
wants seeking = 0

module _ (b : ℕ) (s : List ℕ) where
  wants_next : (m : Mode) (w : Says) → says_of (seen_of (b ∷ s)) ≡ w → wants m ≤ length (b ∷ s) → wants (next m w) ≤ length s
  unfolding next after
  wants_next (within zero) (frame n) e h = omega (arith, (seen_fits (b ∷ s) n e).1)
  wants_next (within zero) more e h = omega arith
  wants_next (within zero) bad e h = omega arith
  wants_next (within (suc k)) w e h = omega arith
  wants_next seeking (frame n) e h = omega (arith, (seen_fits (b ∷ s) n e).1)
  wants_next seeking more e h = omega arith
  wants_next seeking bad e h = omega arith

  front_length : (n : ℕ) → says_of (seen_of (b ∷ s)) ≡ frame n → length (joined (front_of (frame n) (b ∷ s))) ≡ n
  unfolding front_of joined
  front_length n e = ap length (append-nil (take n (b ∷ s))) ∙ length-take-le n (b ∷ s) (seen_fits (b ∷ s) n e).1

  short_step : (m : Mode) (w : Says) (rest : ℕ) → says_of (seen_of (b ∷ s)) ≡ w → rest + wants (next m w) ≤ length s → length (joined (taken_of m w (b ∷ s))) + rest + wants m ≤ length (b ∷ s)
  unfolding next after taken_of front_of joined
  short_step (within zero) (frame n) rest e h = omega (arith, front_length n e, (seen_fits (b ∷ s) n e).0)
  short_step (within zero) more rest e h = omega arith
  short_step (within zero) bad rest e h = omega arith
  short_step (within (suc k)) w rest e h = omega arith
  short_step seeking (frame n) rest e h = omega (arith, front_length n e, (seen_fits (b ∷ s) n e).0)
  short_step seeking more rest e h = omega arith
  short_step seeking bad rest e h = omega arith

short : (m : Mode) (s : List ℕ) → wants m ≤ length s → length (joined (accepted_of seen_of says_of m s)) + wants m ≤ length s
unfolding accepted_of joined
short m [] h = omega arith
short m (b ∷ s) h =
    let w = says_of (seen_of (b ∷ s)) in
    let taken = taken_of m w (b ∷ s) in
    let rest = accepted_of seen_of says_of (next m w) s in
    let e : length (joined (taken ++ rest)) ≡ length (joined taken) + length (joined rest) = ap length (joined_append taken rest) ∙ length-append (joined taken) (joined rest) in
    omega (arith, e, short_step b s m w (length (joined rest)) refl (short (next m w) s (wants_next b s m w refl h)))

pub scrubbed_length : (fs : List (List ℕ)) → length (joined (each_of scrubbed fs)) ≡ length (joined fs)
unfolding joined each_of
scrubbed_length [] = refl
scrubbed_length (f ∷ fs) =
    length-append (scrubbed f) (joined (each_of scrubbed fs)) ∙ ap₂ (λ (i j : ℕ). i + j) (length_always f) (scrubbed_length fs) ∙ sym (length-append f (joined fs))

pub clean_short : (s : List ℕ) → length (clean_of s) ≤ length s
clean_short s =
    let e : length (clean_of s) ≡ length (joined (accepted_in s)) = ap length (clean_is s) ∙ scrubbed_length (accepted_in s) in
    omega (arith, e, short (within zero) s (omega arith))
