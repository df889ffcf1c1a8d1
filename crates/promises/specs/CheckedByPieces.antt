-- A capture that is checked while it arrives: its first unclean place is told by runs of the frames
-- at its front, each checked on its own; and from the first refused reading on, by the next frame,
-- scrubbed, beside the bytes that stand there.
use Rattle.std.specs.Prelude.{ℕ, zero, suc, ◌+◌, ◌-◌, ◌≤◌, ◌≡◌, refl, length, take, drop}
use Rattle.std.proofs.Common.{sym, ap₂, ◌∙◌, ⊎_elim, arith, zero-add, add-zero, take-append-drop, length-append, length-drop, take_at, drop_at, length-take-le, eq-eqb, ne_eqb}
use Rattle.std.proofs.Math.Path.{ap}
use mathlib.Core.List.{List, [], ◌∷◌, ◌++◌, append_assoc}
use Rattle.terms.specs.Paper.{Paper, answer}
use Rattle.terms.specs.Cases.{same}
use Rattle.private.specs.Scrub.{scrubbed}
use Rattle.private.proofs.Laws.{length_always}
use Rattle.walk_laws.specs.Walk.{Says, frame, more, bad, within, next, after}
use Rattle.walk_laws.specs.Frames.{joined, each_of, front_of, taken_of, accepted_of, f_nil, f_cons, each_joined}
use Rattle.reading.specs.Seen.{seen_of, says_of}
use Rattle.reading.proofs.SeenLaws.{seen_kept, seen_fits}
use Rattle.clean_spec.specs.Clean.{clean_of, differ_of, check_of}
use Rattle.clean_spec.specs.Accepted.{accepted_in, clean_is, clean_short}
use Rattle.clean_spec.specs.Own.{seen_own, seen_scrubbed}
use Rattle.clean_spec.specs.Laws.{AllFrames, all_frames, clean_joined, clean_length}
use Rattle.clean_spec.specs.Checks.{Differs, d_none, d_first, differs}

-- a place counted from p on; and of two checks the place that the first tells, else the second's
abbrev pub place_from : ℕ → List ℕ → List ℕ
place_from p [] = []
place_from p (i ∷ is) = (p + i) ∷ place_from p is

abbrev pub first_of : List ℕ → List ℕ → List ℕ
first_of [] b = b
first_of (p ∷ a) b = p ∷ a

-- runs of frames, one behind the other, from p on, each checked on its own
unfoldable pub runs_joined : List (List (List ℕ)) → List ℕ
runs_joined [] = []
runs_joined (fs ∷ runs) = joined fs ++ runs_joined runs

unfoldable pub runs_checked : ℕ → List (List (List ℕ)) → List ℕ
runs_checked p [] = []
runs_checked p (fs ∷ runs) = first_of (place_from p (check_of (joined fs)).values) (runs_checked (p + length (joined fs)) runs)

pub data Runs : List (List (List ℕ)) → Type 0 where
  r_none : Runs []
  r_more : {fs : List (List ℕ)} {runs : List (List (List ℕ))} → AllFrames fs → Runs runs → Runs (fs ∷ runs)

-- no frame is read at the front of u
abbrev pub NoFrame : List ℕ → Type 0
NoFrame u = (n : ℕ) → says_of (seen_of u) ≡ frame n → ⊥

-- then, from p on: where u differs from the next frame, scrubbed, over as many bytes as that has;
-- p itself where no frame follows; none where u is the end
abbrev pub beside_next : ℕ → List ℕ → List (List ℕ) → List ℕ
beside_next p u [] = differ_of p u []
beside_next p u (f ∷ fs) = differ_of p (take (length f) u) (scrubbed f)

-- ======== LISTS THAT ARE EQUALLY LONG, AND WHAT FOLLOWS THEM

first_first : (a b c : List ℕ) → first_of (first_of a b) c ≡ first_of a (first_of b c)
first_first [] b c = refl
first_first (p ∷ a) b c = refl

differ_append : (p : ℕ) (a b u v : List ℕ) → length a ≡ length b → differ_of p (a ++ u) (b ++ v) ≡ first_of (differ_of p a b) (differ_of (p + length a) u v)
unfolding differ_of
differ_append p [] [] u v e = rw add-zero
differ_append p [] (y ∷ b) u v e = absurd (omega (arith, e))
differ_append p (x ∷ a) [] u v e = absurd (omega (arith, e))
differ_append p (x ∷ a) (y ∷ b) u v e =
    let q : p + 1 + length a ≡ p + length (x ∷ a) = omega arith in
    let l : length a ≡ length b = omega (arith, e) in
    ⊎_elim (λ (z : x ≡ y). rw (eq-eqb x y z) (differ_append (p + 1) a b u v l ∙ rw q)) (λ (ne : x ≡ y → ⊥). rw (ne_eqb x y ne)) (same x y)

differ_from : (p q : ℕ) (a b : List ℕ) → differ_of (p + q) a b ≡ place_from p (differ_of q a b)
unfolding differ_of
differ_from p q [] [] = refl
differ_from p q [] (y ∷ b) = refl
differ_from p q (x ∷ a) [] = refl
differ_from p q (x ∷ a) (y ∷ b) =
    let r : p + q + 1 ≡ p + (q + 1) = omega arith in
    ⊎_elim (λ (z : x ≡ y). rw (eq-eqb x y z, r) (differ_from p (q + 1) a b)) (λ (ne : x ≡ y → ⊥). rw (ne_eqb x y ne)) (same x y)

-- ======== FRAMES, AND WHAT FOLLOWS THEM

frame_more : (w : Says) (n : ℕ) → w ≡ frame n → w ≡ more → ⊥
frame_more w n e f = let z : ◌≡◌ {A = ℕ} 0 1 = cc in omega arith

frame_bad : (w : Says) (n : ℕ) → w ≡ bad → w ≡ frame n → ⊥
frame_bad w n e f = let z : ◌≡◌ {A = ℕ} 0 1 = cc in omega arith

accepted_skip : (k : ℕ) (s : List ℕ) → accepted_of seen_of says_of (within k) s ≡ accepted_in (drop k s)
unfolding accepted_of taken_of next
accepted_skip zero s = refl
accepted_skip (suc k) [] = refl
accepted_skip (suc k) (b ∷ s) = accepted_skip k s

accepted_one : (f u : List ℕ) → says_of (seen_of f) ≡ frame (length f) → accepted_in (f ++ u) ≡ f ∷ accepted_in u
unfolding accepted_of taken_of front_of next after
accepted_one [] u e = absurd (omega (arith, (seen_fits [] _ e).0))
accepted_one (b ∷ f) u e =
    let w : says_of (seen_of (b ∷ (f ++ u))) ≡ frame (length (b ∷ f)) = ap says_of (seen_kept (b ∷ f) u (frame_more _ _ e)) ∙ e in
    let n : length (b ∷ f) - 1 ≡ length f = omega arith in
    rw (w, take_at (b ∷ f) u (length (b ∷ f)) refl, n, accepted_skip (length f) (f ++ u), drop_at f u (length f) refl)

accepted_run : (fs : List (List ℕ)) (u : List ℕ) → AllFrames fs → accepted_in (joined fs ++ u) ≡ fs ++ accepted_in u
unfolding joined
accepted_run fs u f_nil = refl
accepted_run fs u (f_cons {f = f} {fs = t} e r) =
    ap accepted_in (append_assoc f (joined t) u) ∙ accepted_one f (joined t ++ u) e ∙ ap (λ (gs : List (List ℕ)). f ∷ gs) (accepted_run t u r)

clean_run : (fs : List (List ℕ)) (u : List ℕ) → AllFrames fs → clean_of (joined fs ++ u) ≡ clean_of (joined fs) ++ clean_of u
clean_run fs u a =
    clean_is (joined fs ++ u)
    ∙ ap (λ (gs : List (List ℕ)). joined (each_of scrubbed gs)) (accepted_run fs u a)
    ∙ each_joined scrubbed fs (accepted_in u)
    ∙ ap₂ (λ (x y : List ℕ). x ++ y) (sym (clean_joined fs a)) (sym (clean_is u))

run_checked : (p : ℕ) (fs : List (List ℕ)) (u : List ℕ) → AllFrames fs
    → differ_of p (joined fs ++ u) (clean_of (joined fs ++ u)) ≡ first_of (place_from p (check_of (joined fs)).values) (differ_of (p + length (joined fs)) u (clean_of u))
unfolding check_of
run_checked p fs u a =
    let rest = differ_of (p + length (joined fs)) u (clean_of u) in
    let q : p ≡ p + 0 = omega arith in
    ap (differ_of p (joined fs ++ u)) (clean_run fs u a)
    ∙ differ_append p (joined fs) (clean_of (joined fs)) u (clean_of u) (sym (clean_length fs a))
    ∙ ap (λ (l : List ℕ). first_of l rest) (ap (λ (n : ℕ). differ_of n (joined fs) (clean_of (joined fs))) q ∙ differ_from p 0 (joined fs) (clean_of (joined fs)))

runs_from : (p : ℕ) (runs : List (List (List ℕ))) (u : List ℕ) → Runs runs
    → differ_of p (runs_joined runs ++ u) (clean_of (runs_joined runs ++ u)) ≡ first_of (runs_checked p runs) (differ_of (p + length (runs_joined runs)) u (clean_of u))
unfolding runs_joined runs_checked
runs_from p runs u r_none = rw add-zero
runs_from p runs u (r_more {fs = fs} {runs = rest} a r) =
    let q : p + length (joined fs) + length (runs_joined rest) ≡ p + length (joined fs ++ runs_joined rest) = omega (arith, length-append (joined fs) (runs_joined rest)) in
    let own = place_from p (check_of (joined fs)).values in
    ap (λ (s : List ℕ). differ_of p s (clean_of s)) (append_assoc (joined fs) (runs_joined rest) u)
    ∙ run_checked p fs (runs_joined rest ++ u) a
    ∙ ap (first_of own) (runs_from (p + length (joined fs)) rest u r ∙ rw q)
    ∙ sym (first_first own (runs_checked (p + length (joined fs)) rest) (differ_of (p + length (joined fs ++ runs_joined rest)) u (clean_of u)))

-- ======== WHERE NO FRAME IS READ
module _ (p : ℕ) (u : List ℕ) (refused : NoFrame u) where
  -- a frame follows. It differs from the bytes that stand there: else it would be read there
  module _ (f : List ℕ) (fs : List (List ℕ)) (e : accepted_in u ≡ f ∷ fs) where
    head_frame : (gs : List (List ℕ)) → AllFrames gs → gs ≡ f ∷ fs → says_of (seen_of f) ≡ frame (length f)
    head_frame gs f_nil z = absurd (omega (arith, ap length z))
    head_frame gs (f_cons {f = g} {fs = hs} says r) z = let h : g ≡ f = cc in rw h at says

    cleaned : clean_of u ≡ scrubbed f ++ joined (each_of scrubbed fs)
    unfolding joined each_of
    cleaned = clean_is u ∙ ap (λ (gs : List (List ℕ)). joined (each_of scrubbed gs)) e

    room : length f ≤ length u
    room = omega (arith, clean_short u, ap length cleaned, length-append (scrubbed f) (joined (each_of scrubbed fs)), length_always f)

    not_alike : take (length f) u ≡ scrubbed f → ⊥
    not_alike z =
        let w : says_of (seen_of (take (length f) u)) ≡ frame (length f) = ap (λ (l : List ℕ). says_of (seen_of l)) z ∙ ap says_of (seen_scrubbed f) ∙ head_frame (accepted_in u) (all_frames u) e in
        refused (length f) (ap (λ (l : List ℕ). says_of (seen_of l)) (sym (take-append-drop (length f) u)) ∙ ap says_of (seen_kept (take (length f) u) (drop (length f) u) (frame_more _ _ w)) ∙ w)

    told : (l rest : List ℕ) → Differs p (take (length f) u) (scrubbed f) l → first_of l rest ≡ l
    told l rest (d_none g h) = absurd (not_alike h)
    told l rest (d_first i g h) = rw g

    beside_one : differ_of p u (clean_of u) ≡ differ_of p (take (length f) u) (scrubbed f)
    beside_one =
        let n = length f in
        let l : length (take n u) ≡ length (scrubbed f) = length-take-le n u room ∙ sym (length_always f) in
        ap₂ (differ_of p) (sym (take-append-drop n u)) cleaned
        ∙ differ_append p (take n u) (scrubbed f) (drop n u) (joined (each_of scrubbed fs)) l
        ∙ told (differ_of p (take n u) (scrubbed f)) _ (differs p (take n u) (scrubbed f))

  beside_by : (gs : List (List ℕ)) → accepted_in u ≡ gs → differ_of p u (clean_of u) ≡ beside_next p u gs
  unfolding joined each_of
  beside_by [] e = ap (differ_of p u) (clean_is u ∙ ap (λ (gs : List (List ℕ)). joined (each_of scrubbed gs)) e)
  beside_by (f ∷ fs) e = beside_one f fs e

-- CHECKED BY PIECES: runs of frames, each on its own, then what follows them
pub checked_by_pieces : (runs : List (List (List ℕ))) (u : List ℕ) → Runs runs → NoFrame u
    → check_of (runs_joined runs ++ u) ≡ answer 0 (first_of (runs_checked 0 runs) (beside_next (length (runs_joined runs)) u (accepted_in u)))
unfolding check_of
checked_by_pieces runs u r refused =
    let at = length (runs_joined runs) in
    ap (answer 0)
    (runs_from 0 runs u r
    ∙ ap (λ (n : ℕ). first_of (runs_checked 0 runs) (differ_of n u (clean_of u))) (zero-add at)
    ∙ ap (first_of (runs_checked 0 runs)) (beside_by at u refused (accepted_in u) refl))

-- EVERY CAPTURE is such a one: the frames at its front, and then no frame
pub record Fronted (s : List ℕ) : Type 0 where
  pub run : List (List ℕ)
  pub rest : List ℕ
  pub frames : AllFrames run
  pub refused : NoFrame rest
  pub whole : joined run ++ rest ≡ s

no_run : (s : List ℕ) → NoFrame s → Fronted s
unfolding joined
no_run s h = record { run = []; rest = s; frames = f_nil; refused = h; whole = refl }

one_run : (s : List ℕ) (n : ℕ) → says_of (seen_of s) ≡ frame n → Fronted (drop n s) → Fronted s
unfolding joined
one_run s n e t =
    let l : n ≡ length (take n s) = sym (length-take-le n s (seen_fits s n e).1) in
    record {
      run = take n s ∷ t.run;
      rest = t.rest;
      frames = f_cons (ap says_of (seen_own s n e) ∙ e ∙ ap frame l) t.frames;
      refused = t.refused;
      whole = append_assoc (take n s) (joined t.run) t.rest ∙ ap (λ (l : List ℕ). take n s ++ l) t.whole ∙ take-append-drop n s;
    }

front_by : (s : List ℕ) (w : Says) → says_of (seen_of s) ≡ w → ((n : ℕ) → says_of (seen_of s) ≡ frame n → Fronted (drop n s)) → Fronted s
front_by s (frame n) e behind = one_run s n e (behind n e)
front_by s more e behind = no_run s (λ n f. frame_more _ n f e)
front_by s bad e behind = no_run s (λ n f. frame_bad _ n e f)

front_of_lem : (k : ℕ) (s : List ℕ) → length s ≤ k → Fronted s
front_of_lem zero s h = no_run s (λ n e. absurd (omega (arith, (seen_fits s n e).0, (seen_fits s n e).1)))
front_of_lem (suc k) s h = front_by s _ refl (λ n e. front_of_lem k (drop n s) (omega (arith, length-drop n s, (seen_fits s n e).0)))

pub fronted : (s : List ℕ) → Fronted s
fronted s = front_of_lem (length s) s (omega arith)
