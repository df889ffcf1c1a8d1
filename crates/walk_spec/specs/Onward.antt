-- Where the walk goes on after a reading: past the frame, or where the search from the next byte on
-- finds one, or nowhere.
use Rattle.std.specs.Prelude.{ℕ, ◌+◌, ◌-◌, ◌≤◌, ◌<◌, ◌≡◌, refl, true, false, List, [], ◌∷◌, eqb, leb, length, get_or, drop}
use Rattle.std.proofs.Math.Path.{sym}
use Rattle.std.proofs.Common.{ap, ◌∙◌, arith, ⊎_elim, length-drop, eq-eqb, ne_eqb, le-leb}
use Rattle.std.proofs.lemmas.Bool.{lt-leb}
use Rattle.terms.specs.Paper.{Paper, answer, pick}
use Rattle.terms.specs.Cases.{same}
use Rattle.frame_spec.specs.Frame.{read_of}
use Rattle.frame_spec.specs.Search.{search_of}
use Rattle.frame_spec.specs.SearchLaws.{search_beyond}
use Rattle.frame_spec.specs.Lowest.{Lowest, l_at, l_none, lowest}
use Rattle.walk_laws.specs.Walk.{frame}
use Rattle.walk_laws.specs.Literal.{is_frame, from_of, sought_of, sight_at, from_end, from_frame, from_bad, sought_lowest, sought_none}
use Rattle.reading.specs.declared.Seen.{Seen}
use Rattle.reading.specs.Seen.{seen_of, seen_number, says_of}
use Rattle.walk_spec.specs.Walk.{accepts, frames_of}
use Rattle.reading.specs.SeenLaws.{says_frame, says_not}
use Rattle.reading.proofs.SeenLaws.{seen_answer, seen_blank, seen_fits}

-- Where the walk goes on behind the reading at p, whose frame has size bytes, none if it was
-- refused: past the frame; behind a refusal where the search from the next byte on finds a frame.
-- At the end, where it finds none or the frame is said to be longer than what is there.
unfoldable pub onward_of : List ℕ → ℕ → ℕ → ℕ
onward_of s p size = pick (eqb size 0) (get_or (search_of s (p + 1)).values 0 (length s)) (pick (leb (p + size) (length s)) (p + size) (length s))

-- r is the place of the next reading behind the one at p, or the end
pub record Goes (s : List ℕ) (p r : ℕ) : Type 0 where
  pub further : p < r
  pub inside : r ≤ length s
  pub rest : from_of seen_of says_of p s ≡ sight_at seen_of says_of p s ∷ from_of seen_of says_of r s

-- a place that reads says a frame, and no other does
pub read_says : (s : List ℕ) → (read_of s).number ≡ 0 → is_frame (says_of (seen_of s)) ≡ true
unfolding is_frame
read_says s z = ap is_frame (says_frame (seen_of s) (seen_answer s ∙ z))

pub unread_says : (s : List ℕ) → ((read_of s).number ≡ 0 → ⊥) → is_frame (says_of (seen_of s)) ≡ false
unread_says s ne = says_not (seen_of s) (λ (z : seen_number (seen_of s) ≡ 0). ne (sym (seen_answer s) ∙ z))

-- past the frame
pub goes_frame : (s : List ℕ) (p : ℕ) (x : Seen) → p < length s → x ≡ seen_of (drop p s) → seen_number x ≡ 0 → Goes s p (p + x.size)
goes_frame s p x h e z =
    let w : says_of (seen_of (drop p s)) ≡ frame x.size = rw (← e) (says_frame x z) in
    let f = seen_fits (drop p s) x.size w in
    let l = length-drop p s in
    record { further = omega arith; inside = omega arith; rest = from_frame seen_of says_of p s h x.size (omega arith) w }

-- the search byte by byte is the search
module _ (s : List ℕ) (from : ℕ) where
  found : (a : Paper) (q : ℕ) → Lowest s from a → a ≡ answer 0 (q ∷ []) → (from ≤ q) × ((q < length s) × (sought_of seen_of says_of from s ≡ from_of seen_of says_of q s))
  found a q (l_at r e x y z d) g =
      let i : r ≡ q = ap (λ (b : Paper). get_or b.values 0 0) (sym e ∙ g) in
      rw (← i) (x, (y, sought_lowest seen_of says_of (r - from) from r s (omega arith) y (read_says (drop r s) z) (λ j k l. unread_says (drop j s) (d j k l))))
  found a q (l_none e d) g = absurd (omega (arith, ap (λ (b : Paper). length b.values) (sym e ∙ g)))

  none_found : (a : Paper) → Lowest s from a → a ≡ answer 0 [] → sought_of seen_of says_of from s ≡ []
  none_found a (l_at r e x y z d) g = absurd (omega (arith, ap (λ (b : Paper). length b.values) (sym e ∙ g)))
  none_found a (l_none e d) g = sought_none seen_of says_of (length s) from s (omega arith) (λ j k l. unread_says (drop j s) (d j k l))

-- behind a refusal: where the search says
module _ (s : List ℕ) (p : ℕ) (x : Seen) (h : p < length s) (e : x ≡ seen_of (drop p s)) (ne : seen_number x ≡ 0 → ⊥) where
  refused : from_of seen_of says_of p s ≡ sight_at seen_of says_of p s ∷ sought_of seen_of says_of (p + 1) s
  refused = from_bad seen_of says_of p s h (rw (← e) (says_not x ne))

  inside : Lowest s (p + 1) (search_of s (p + 1))
  inside = lowest s (p + 1) (omega arith)

  pub goes_found : (q : ℕ) → answer 0 (q ∷ []) ≡ search_of s (p + 1) → Goes s p q
  goes_found q f =
      let g = found s (p + 1) _ q inside (sym f) in
      record { further = omega (arith, g.0); inside = omega (arith, g.1.0); rest = refused ∙ rw g.1.1 }

  pub goes_none : answer 0 [] ≡ search_of s (p + 1) → Goes s p (length s)
  goes_none f =
      record { further = h; inside = omega arith; rest = refused ∙ rw (none_found s (p + 1) _ inside (sym f), from_end seen_of says_of (length s) s (omega arith)) }

-- ONWARD, from the facts that lead there
module _ (s : List ℕ) (p size : ℕ) where
  pub onward_past : (size ≡ 0 → ⊥) → pick (leb (p + size) (length s)) (p + size) (length s) ≡ onward_of s p size
  unfolding onward_of
  onward_past ne = sym (rw (ne_eqb size 0 ne))

  pub onward_frame : (size ≡ 0 → ⊥) → p + size ≤ length s → p + size ≡ onward_of s p size
  onward_frame ne h = rw (le-leb (p + size) (length s) h) at (onward_past ne)

  pub onward_sought : size ≡ 0 → (a : Paper) → a ≡ search_of s (p + 1) → get_or a.values 0 (length s) ≡ onward_of s p size
  unfolding onward_of
  onward_sought z a e = sym (rw (eq-eqb size 0 z, e))

  -- from the end on there is nowhere to go
  pub onward_end : length s ≤ p → length s ≡ onward_of s p size
  onward_end h =
      ⊎_elim (λ (z : size ≡ 0). onward_sought z _ (sym (search_beyond s (p + 1) (omega arith))))
      (λ (ne : size ≡ 0 → ⊥). rw (lt-leb (p + size) (length s) (omega arith)) at (onward_past ne))
      (same size 0)

-- and behind what was seen at p it is where the next reading is
module _ (s : List ℕ) (p : ℕ) (x : Seen) (e : x ≡ seen_of (drop p s)) where
  read_is : seen_number x ≡ (read_of (drop p s)).number
  read_is = ap seen_number e ∙ seen_answer (drop p s)

  -- a refused reading has no bytes
  pub refused_size : (seen_number x ≡ 0 → ⊥) → x.size ≡ 0
  refused_size ne = ap (λ (y : Seen). y.size) (e ∙ seen_blank (drop p s) (λ (z : (read_of (drop p s)).number ≡ 0). ne (read_is ∙ z)))

  module _ (h : p < length s) where
    past_frame : seen_number x ≡ 0 → Goes s p (onward_of s p x.size)
    past_frame z =
        let g = goes_frame s p x h e z in
        rw (← onward_frame s p x.size (λ (n : x.size ≡ 0). omega (arith, g.further)) g.inside) g

    past_refusal : (seen_number x ≡ 0 → ⊥) → (a : Paper) → Lowest s (p + 1) a → a ≡ search_of s (p + 1) → Goes s p (onward_of s p x.size)
    past_refusal ne a (l_at q f i j r d) g =
        rw (← onward_sought s p x.size (refused_size ne) _ (sym f ∙ g)) (goes_found s p x h e ne q (sym f ∙ g))
    past_refusal ne a (l_none f d) g =
        rw (← onward_sought s p x.size (refused_size ne) _ (sym f ∙ g)) (goes_none s p x h e ne (sym f ∙ g))

    -- by what the code's onward gives
    pub goes_onward : (r : ℕ) → r ≡ onward_of s p x.size → Goes s p r
    goes_onward r o =
        rw o
        (⊎_elim past_frame (λ (ne : seen_number x ≡ 0 → ⊥). past_refusal ne _ (lowest s (p + 1) (omega arith)) refl) (same (seen_number x) 0))

-- the frames from a place on: whether the reading there is one, and those from the next place on
pub frames_next : (s : List ℕ) (p r : ℕ) (x : Seen) → x ≡ seen_of (drop p s) → Goes s p r → frames_of (from_of seen_of says_of p s) ≡ accepts (seen_number x) + frames_of (from_of seen_of says_of r s)
unfolding frames_of
frames_next s p r x e g = rw (g.rest, e)
