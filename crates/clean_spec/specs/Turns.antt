-- One turn of a pass: how many bytes a reading's frame has, where the next reading is, and what the
-- frame adds to the cleaned capture.
use Rattle.std.specs.Prelude.{ℕ, ◌+◌, ◌≤◌, ◌<◌, ◌≡◌, refl, List, [], ◌∷◌, ◌++◌, length, take, drop}
use Rattle.std.proofs.Common.{sym, ap, ◌∙◌, ⊎_elim, arith, length-drop, length-take-le, eq-eqb, ne_eqb}
use Rattle.terms.specs.Cases.{same}
use Rattle.frame_spec.specs.Frame.{body_length, read_of}
use Rattle.frame_spec.specs.Outcomes.{good}
use Rattle.frame_spec.specs.Measures.{fits}
use Rattle.private.specs.Scrub.{scrubbed}
use Rattle.private.proofs.Laws.{length_always}
use Rattle.walk_laws.specs.Walk.{Sight}
use Rattle.walk_laws.specs.Literal.{sight_at}
use Rattle.walk_laws.specs.Frames.{joined, each_of}
use Rattle.reading.specs.declared.Seen.{Seen}
use Rattle.reading.specs.Seen.{seen_of, seen_number, says_of}
use Rattle.reading.proofs.SeenLaws.{seen_answer, seen_size}
use Rattle.walk_spec.specs.Onward.{onward_of, onward_frame, refused_size, goes_onward}
use Rattle.clean_spec.specs.Clean.{frames_in, clean_in}
use Rattle.clean_spec.specs.Steps.{Steps}

-- a list of no bytes scrubs to none
none_of : (l : List ℕ) → length l ≡ 0 → l ≡ []
none_of [] e = refl
none_of (b ∷ l) e = absurd (omega arith)

pub scrubbed_none : scrubbed [] ≡ []
scrubbed_none = none_of (scrubbed []) (length_always [])

-- WHAT WAS SEEN AT A PLACE
module _ (s : List ℕ) (p : ℕ) (x : Seen) (e : x ≡ seen_of (drop p s)) where
  read_is : seen_number x ≡ (read_of (drop p s)).number
  read_is = ap seen_number e ∙ seen_answer (drop p s)

  accepted_size : seen_number x ≡ 0 → x.size ≡ 28 + body_length (drop p s)
  accepted_size z = ap (λ (y : Seen). y.size) e ∙ seen_size (drop p s) (sym read_is ∙ z)

  -- a frame lies within the capture, and has at most 8,192 bytes
  pub size_inside : p ≤ length s → p + x.size ≤ length s
  size_inside h =
      ⊎_elim (λ (z : seen_number x ≡ 0). omega (arith, accepted_size z, (good (drop p s) (sym read_is ∙ z)).whole.there, length-drop p s))
      (λ (ne : seen_number x ≡ 0 → ⊥). omega (arith, refused_size s p x e ne))
      (same (seen_number x) 0)

  pub size_small : x.size ≤ 8192
  size_small =
      ⊎_elim (λ (z : seen_number x ≡ 0). omega (arith, accepted_size z, (fits _ _ (good (drop p s) (sym read_is ∙ z)).whole.measured).small))
      (λ (ne : seen_number x ≡ 0 → ⊥). omega (arith, refused_size s p x e ne))
      (same (seen_number x) 0)

  -- WHERE THE NEXT READING IS, by what the code's onward gives
  module _ (h : p < length s) (r : ℕ) (o : r ≡ onward_of s p x.size) where
    past_frame : seen_number x ≡ 0 → p + x.size ≡ r
    past_frame z = onward_frame s p x.size (λ (n : x.size ≡ 0). omega (arith, accepted_size z)) (size_inside (omega arith)) ∙ sym o

    pub steps_onward : Steps s p x.size r
    steps_onward =
        let g = goes_onward s p x e h r o in
        record {
          goes = g;
          past =
              ⊎_elim (λ (z : seen_number x ≡ 0). omega (arith, past_frame z))
              (λ (ne : seen_number x ≡ 0 → ⊥). omega (arith, refused_size s p x e ne, g.further))
              (same (seen_number x) 0);
        }

  -- WHAT IT ADDS
  abbrev frame_at : List ℕ
  frame_at = scrubbed (take x.size (drop p s))

  pub frame_length : p ≤ length s → length frame_at ≡ x.size
  frame_length h =
      length_always (take x.size (drop p s)) ∙ length-take-le x.size (drop p s) (simp length-drop (omega (arith, size_inside h)))

  add_frame : (xs : List (Sight Seen)) → seen_number x ≡ 0 → clean_in s (sight_at seen_of says_of p s ∷ xs) ≡ frame_at ++ clean_in s xs
  unfolding frames_in joined each_of
  add_frame xs z = rw (← e) (rw (eq-eqb (seen_number x) 0 z))

  add_none : (xs : List (Sight Seen)) → (seen_number x ≡ 0 → ⊥) → clean_in s (sight_at seen_of says_of p s ∷ xs) ≡ frame_at ++ clean_in s xs
  unfolding frames_in
  add_none xs ne = rw (← e) (rw (ne_eqb (seen_number x) 0 ne, refused_size s p x e ne, scrubbed_none))

  -- its frame scrubbed, or nothing
  pub adds : (xs : List (Sight Seen)) → clean_in s (sight_at seen_of says_of p s ∷ xs) ≡ frame_at ++ clean_in s xs
  adds xs = ⊎_elim (add_frame xs) (add_none xs) (same (seen_number x) 0)
