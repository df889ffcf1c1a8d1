-- What a cleaned capture is, of every capture s. All of it is proved of the definition that the
-- code's promise cites.
use Rattle.std.specs.Prelude.{ℕ, zero, ◌+◌, ◌≤◌, ◌<◌, ◌≡◌, List, [], ◌∷◌, get_or}
use Rattle.std.proofs.Math.Path.{refl, sym, ap}
use Rattle.std.proofs.Common.{◌∙◌, arith, drop-drop, eq-eqb}
use Rattle.std.proofs.Math.ListN.{length, take, drop}
use Rattle.std.proofs.Math.Seq.{take_at, drop_at}
use Rattle.frame_spec.specs.Frame.{body_length, read_of}
use Rattle.private.specs.Scrub.{scrubbed, spans_of}
use Rattle.private.specs.Paint.{Inside}
use Rattle.private.proofs.Laws.{length_always, again_always, scrub_fills}
use Rattle.walk_laws.specs.Walk.{frame, within}
use Rattle.walk_laws.specs.Frames.{joined, each_of, Frames, f_nil, f_cons, tagged_of, reads_of, frames_sights, reads_accepted, accepted_frames}
use Rattle.reading.specs.Seen.{seen_of, seen_number, says_of}
use Rattle.reading.specs.SeenLaws.{frame_says}
use Rattle.reading.proofs.SeenLaws.{seen_answer, seen_kept, seen_fits}
use Rattle.walk_spec.specs.Walk.{sights}
use Rattle.clean_spec.specs.Clean.{frames_in, clean_of}
use Rattle.clean_spec.specs.Accepted.{accepted_in, frames_accepted, clean_is, scrubbed_length}
use Rattle.clean_spec.specs.Own.{seen_own, seen_scrubbed}

-- each of these lists is so
pub data Each (P : List ℕ → Type 0) : List (List ℕ) → Type 0 where
  e_nil : Each P []
  e_cons : {f : List ℕ} {fs : List (List ℕ)} → P f → Each P fs → Each P (f ∷ fs)

-- frames, each one and nothing else
abbrev pub AllFrames : List (List ℕ) → Type 0
AllFrames fs = Frames seen_of says_of fs

-- ACCEPTED FRAMES ARE FRAMES

fits : (s : List ℕ) (n : ℕ) → says_of (seen_of s) ≡ frame n → 1 ≤ n
fits s n e = omega (arith, (seen_fits s n e).0)

pub all_frames : (s : List ℕ) → AllFrames (accepted_in s)
all_frames s = accepted_frames seen_of says_of seen_own (λ t n e. (seen_fits t n e).1) (within zero) s

-- FRAMES END TO END are read one by one: the accepted frames are they
module _ (c : List ℕ) where
  tagged_frames : (p : ℕ) (fs : List (List ℕ)) → AllFrames fs → drop p c ≡ joined fs → frames_in c (tagged_of seen_of says_of p fs) ≡ fs
  unfolding frames_in tagged_of joined
  tagged_frames p fs f_nil d = refl
  tagged_frames p fs (f_cons {f = f} {fs = t} e r) d =
      let says = frame_says (seen_of f) (length f) e in
      let cut : take (seen_of f).size (drop p c) ≡ f = rw (says.1, d, take_at f (joined t) (length f) refl) in
      let rest : drop (p + length f) c ≡ joined t = sym (drop-drop (length f) p c) ∙ ap (drop (length f)) d ∙ drop_at f (joined t) (length f) refl in
      rw (eq-eqb (seen_number (seen_of f)) 0 says.0, cut, tagged_frames (p + length f) t r rest)

pub joined_sights : (fs : List (List ℕ)) → AllFrames fs → sights (joined fs) ≡ tagged_of seen_of says_of 0 fs
joined_sights fs a = frames_sights seen_of says_of seen_kept fits 0 fs a

pub joined_frames : (fs : List (List ℕ)) → AllFrames fs → accepted_in (joined fs) ≡ fs
joined_frames fs a = sym (frames_accepted (joined fs)) ∙ ap (frames_in (joined fs)) (joined_sights fs a) ∙ tagged_frames (joined fs) 0 fs a refl

-- SCRUBBED FRAMES are frames, seen as they were, and scrubbing them again changes nothing
scrubbed_frames : (fs : List (List ℕ)) → AllFrames fs → AllFrames (each_of scrubbed fs)
unfolding each_of
scrubbed_frames fs f_nil = f_nil
scrubbed_frames fs (f_cons {f = f} {fs = t} e r) = f_cons (ap says_of (seen_scrubbed f) ∙ e ∙ ap frame (sym (length_always f))) (scrubbed_frames t r)

scrubbed_seen : (fs : List (List ℕ)) → each_of seen_of (each_of scrubbed fs) ≡ each_of seen_of fs
unfolding each_of
scrubbed_seen [] = refl
scrubbed_seen (f ∷ t) = rw (seen_scrubbed f, scrubbed_seen t)

scrubbed_again : (fs : List (List ℕ)) → each_of scrubbed (each_of scrubbed fs) ≡ each_of scrubbed fs
unfolding each_of
scrubbed_again [] = refl
scrubbed_again (f ∷ t) = rw (again_always f, scrubbed_again t)

-- THE CLEANED CAPTURE
module _ (s : List ℕ) where
  pub scrubs_to_frames : AllFrames (each_of scrubbed (accepted_in s))
  scrubs_to_frames = scrubbed_frames (accepted_in s) (all_frames s)

  -- its accepted frames are those of the capture, each scrubbed
  pub clean_frames : accepted_in (clean_of s) ≡ each_of scrubbed (accepted_in s)
  clean_frames = ap accepted_in (clean_is s) ∙ joined_frames (each_of scrubbed (accepted_in s)) scrubs_to_frames

  -- and it is nothing else: no stray byte is left
  pub clean_whole : joined (accepted_in (clean_of s)) ≡ clean_of s
  clean_whole = ap joined clean_frames ∙ sym (clean_is s)

  -- the walk over it reads those frames one by one, and nothing more
  pub clean_sights : sights (clean_of s) ≡ tagged_of seen_of says_of 0 (each_of scrubbed (accepted_in s))
  clean_sights = ap sights (clean_is s) ∙ joined_sights (each_of scrubbed (accepted_in s)) scrubs_to_frames

  -- its readings are the capture's, refusals left out
  pub clean_reads : reads_of seen_of says_of (sights (clean_of s)) ≡ reads_of seen_of says_of (sights s)
  clean_reads =
      reads_accepted seen_of says_of seen_own (within zero) 0 (clean_of s)
      ∙ ap (each_of seen_of) clean_frames
      ∙ scrubbed_seen (accepted_in s)
      ∙ sym (reads_accepted seen_of says_of seen_own (within zero) 0 s)

  -- CLEANING IT AGAIN CHANGES NOTHING
  pub clean_again : clean_of (clean_of s) ≡ clean_of s
  clean_again =
      clean_is (clean_of s)
      ∙ ap (λ (fs : List (List ℕ)). joined (each_of scrubbed fs)) clean_frames
      ∙ ap joined (scrubbed_again (accepted_in s))
      ∙ sym (clean_is s)

-- A CAPTURE OF FRAMES END TO END keeps all of them, and its length
pub clean_joined : (fs : List (List ℕ)) → AllFrames fs → clean_of (joined fs) ≡ joined (each_of scrubbed fs)
clean_joined fs a = clean_is (joined fs) ∙ ap (λ (gs : List (List ℕ)). joined (each_of scrubbed gs)) (joined_frames fs a)

pub clean_length : (fs : List (List ℕ)) → AllFrames fs → length (clean_of (joined fs)) ≡ length (joined fs)
clean_length fs a = ap length (clean_joined fs a) ∙ scrubbed_length fs

-- NO PRIVATE BYTE STAYS: each private byte of each frame of the cleaned capture is a space
abbrev pub Painted : List ℕ → Type 0
Painted f = (i : ℕ) → i < body_length f → Inside (spans_of f) i → get_or f (24 + i) 0 ≡ 0x20

painted : (fs : List (List ℕ)) → AllFrames fs → Each Painted (each_of scrubbed fs)
unfolding each_of
painted fs f_nil = e_nil
painted fs (f_cons {f = f} {fs = t} e r) =
    let z : (read_of (scrubbed f)).number ≡ 0 = sym (seen_answer (scrubbed f)) ∙ (frame_says (seen_of (scrubbed f)) (length f) (ap says_of (seen_scrubbed f) ∙ e)).0 in
    e_cons (λ i l h. ap (λ (x : List ℕ). get_or x (24 + i) 0) (sym (again_always f)) ∙ scrub_fills (scrubbed f) z i l h) (painted t r)

pub no_private : (s : List ℕ) → Each Painted (accepted_in (clean_of s))
no_private s = rw (clean_frames s) (painted (accepted_in s) (all_frames s))
