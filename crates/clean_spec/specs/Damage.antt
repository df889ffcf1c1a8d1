-- What the count of frames behind damage tells: how many accepted frames do not start where the one
-- before them ends. Where it is 0, the accepted frames are the front of the capture, end to end. So
-- none of them lies inside a damaged one.
use Rattle.std.specs.Prelude.{ℕ, zero, suc, ◌+◌, ◌≤◌, ◌<◌, ◌≡◌, refl, Bool, true, false, List, [], ◌∷◌, ◌++◌, length, take, drop, eqb}
use Rattle.std.proofs.Common.{sym, ap, ◌∙◌, ⊎_elim, append_assoc, arith, take-append-drop, drop-drop, eq-eqb, ne_eqb}
use Rattle.terms.specs.Paper.{Paper, pick}
use Rattle.terms.specs.Cases.{less, same}
use Rattle.frame_spec.specs.Search.{search_of}
use Rattle.frame_spec.specs.Lowest.{Lowest, l_at, l_none, lowest}
use Rattle.walk_laws.specs.Walk.{Sight}
use Rattle.walk_laws.specs.Literal.{from_of, sight_at, from_end}
use Rattle.walk_laws.specs.Frames.{joined}
use Rattle.reading.specs.declared.Seen.{Seen}
use Rattle.reading.specs.Seen.{seen_of, seen_number, says_of}
use Rattle.reading.proofs.SeenLaws.{seen_answer}
use Rattle.walk_spec.specs.Onward.{Goes, goes_frame, goes_found, goes_none}
use Rattle.walk_spec.specs.Walk.{sights, accepts}
use Rattle.clean_spec.specs.Clean.{cut_at, frames_in, found_by, found_in, found_of}
use Rattle.clean_spec.specs.Accepted.{accepted_in, frames_accepted}

abbrev from : ℕ → List ℕ → List (Sight Seen)
from p s = from_of seen_of says_of p s

-- the frames among the readings from p on, end to end, and the bytes behind them
abbrev AtFront : List ℕ → ℕ → Type 0
AtFront s p = (rest : List ℕ) × (drop p s ≡ joined (frames_in s (from p s)) ++ rest)

frames_cons : (s : List ℕ) (x : Sight Seen) (xs : List (Sight Seen)) → seen_number x.read ≡ 0 → frames_in s (x ∷ xs) ≡ cut_at s x ∷ frames_in s xs
unfolding frames_in
frames_cons s x xs z = rw (eq-eqb (seen_number x.read) 0 z)

frames_skip : (s : List ℕ) (x : Sight Seen) (xs : List (Sight Seen)) → (seen_number x.read ≡ 0 → ⊥) → frames_in s (x ∷ xs) ≡ frames_in s xs
unfolding frames_in
frames_skip s x xs ne = rw (ne_eqb (seen_number x.read) 0 ne)

found_cons : (before : ℕ) (x : Sight Seen) (xs : List (Sight Seen)) → found_in before (x ∷ xs) ≡ found_by before (seen_number x.read) + found_in (seen_number x.read) xs
unfolding found_in
found_cons before x xs = refl

-- a frame right behind a refusal counts
found_here : (before reading : ℕ) → (before ≡ 0 → ⊥) → reading ≡ 0 → found_by before reading ≡ 1
unfolding found_by accepts
found_here before reading ne z = rw (ne_eqb before 0 ne, z)

joined_cons : (f : List ℕ) (fs : List (List ℕ)) → joined (f ∷ fs) ≡ f ++ joined fs
unfolding joined
joined_cons f fs = refl

none_joined : (s rest : List ℕ) → joined (frames_in s []) ++ rest ≡ rest
unfolding frames_in joined
none_joined s rest = refl

nothing_left : (s : List ℕ) (p : ℕ) → from p s ≡ [] → AtFront s p
nothing_left s p e = (drop p s, sym (ap (λ (xs : List (Sight Seen)). joined (frames_in s xs) ++ drop p s) e ∙ none_joined s (drop p s)))

module _ (s : List ℕ) (p : ℕ) (h : p < length s) where
  abbrev x : Seen
  x = seen_of (drop p s)

  on_frame : seen_number x ≡ 0 → (found_in 0 (from p s) ≡ 0) → (found_in 0 (from (p + x.size) s) ≡ 0 → AtFront s (p + x.size)) → AtFront s p
  on_frame z none ih =
      let g = goes_frame s p x h refl z in
      let f : found_in 0 (from (p + x.size) s) ≡ 0 = omega (arith, rw z at (sym (ap (found_in 0) g.rest ∙ found_cons 0 (sight_at seen_of says_of p s) (from (p + x.size) s)) ∙ none)) in
      let later = ih f in
      let cut : take x.size (drop p s) ++ drop (p + x.size) s ≡ drop p s = ap (λ (l : List ℕ). take x.size (drop p s) ++ l) (sym (drop-drop x.size p s)) ∙ take-append-drop x.size (drop p s) in (
        later.0,
        sym cut
            ∙ ap (λ (l : List ℕ). take x.size (drop p s) ++ l) later.1
            ∙ sym (append_assoc (take x.size (drop p s)) (joined (frames_in s (from (p + x.size) s))) later.0)
            ∙ ap (λ (l : List ℕ). l ++ later.0) (sym (joined_cons (take x.size (drop p s)) (frames_in s (from (p + x.size) s))))
            ∙ ap (λ (fs : List (List ℕ)). joined fs ++ later.0) (sym (ap (frames_in s) g.rest ∙ frames_cons s (sight_at seen_of says_of p s) (from (p + x.size) s) z)),
      )

  -- behind a refusal nothing is found, or it would count
  on_refusal : (ne : seen_number x ≡ 0 → ⊥) → (found_in 0 (from p s) ≡ 0) → (a : Paper) → search_of s (p + 1) ≡ a → Lowest s (p + 1) a → AtFront s p
  on_refusal ne none a e (l_at q f y l z d) =
      let g = goes_found s p x h refl ne q (sym (e ∙ f)) in
      let k = goes_frame s q (seen_of (drop q s)) l refl (seen_answer (drop q s) ∙ z) in
      let one = found_here (seen_number x) (seen_number (seen_of (drop q s))) ne (seen_answer (drop q s) ∙ z) in
      absurd
      (omega (
        arith,
        ap (found_in 0) g.rest ∙ found_cons 0 (sight_at seen_of says_of p s) (from q s),
        ap (found_in (seen_number x)) k.rest ∙ found_cons (seen_number x) (sight_at seen_of says_of q s) (from (q + (seen_of (drop q s)).size) s),
        one,
        none,
      ))
  on_refusal ne none a e (l_none f d) =
      let g = goes_none s p x h refl ne (sym (e ∙ f)) in
      let empty = from_end seen_of says_of (length s) s (omega arith) in
      (drop p s, sym (ap (λ (fs : List (List ℕ)). joined fs ++ drop p s) (ap (frames_in s) g.rest ∙ frames_skip s (sight_at seen_of says_of p s) (from (length s) s) ne ∙ ap (frames_in s) empty) ∙ none_joined s (drop p s)))

at_front : (k : ℕ) (s : List ℕ) (p : ℕ) → length s ≤ p + k → found_in 0 (from p s) ≡ 0 → AtFront s p
at_front zero s p l none = nothing_left s p (from_end seen_of says_of p s (omega arith))
at_front (suc k) s p l none =
    ⊎_elim (λ (h : p < length s).
    ⊎_elim (λ (z : seen_number (seen_of (drop p s)) ≡ 0). on_frame s p h z none (λ f. at_front k s (p + (seen_of (drop p s)).size) (omega (arith, (goes_frame s p (seen_of (drop p s)) h refl z).further)) f))
    (λ (ne : seen_number (seen_of (drop p s)) ≡ 0 → ⊥). on_refusal s p h ne none _ refl (lowest s (p + 1) (omega arith)))
    (same (seen_number (seen_of (drop p s))) 0))
    (λ (h : length s ≤ p). nothing_left s p (from_end seen_of says_of p s h))
    (less p (length s))

pub undamaged : (s : List ℕ) → found_of s ≡ 0 → (rest : List ℕ) × (s ≡ joined (accepted_in s) ++ rest)
undamaged s none = let f = at_front (length s) s 0 (omega arith) none in (f.0, f.1 ∙ ap (λ (fs : List (List ℕ)). joined fs ++ f.0) (frames_accepted s))

-- THE COUNT, told from the places: accepted readings that do not start at `end`, where the accepted
-- one before them ended
unfoldable pub apart_from : ℕ → List (Sight Seen) → ℕ
apart_from end [] = 0
apart_from end (x ∷ xs) = pick (eqb (seen_number x.read) 0) (pick (eqb x.place end) 0 1 + apart_from (x.place + x.read.size) xs) (apart_from end xs)

apart_frame : (end : ℕ) (x : Sight Seen) (xs : List (Sight Seen)) → seen_number x.read ≡ 0 → apart_from end (x ∷ xs) ≡ pick (eqb x.place end) 0 1 + apart_from (x.place + x.read.size) xs
unfolding apart_from
apart_frame end x xs z = rw (eq-eqb (seen_number x.read) 0 z)

apart_skip : (end : ℕ) (x : Sight Seen) (xs : List (Sight Seen)) → (seen_number x.read ≡ 0 → ⊥) → apart_from end (x ∷ xs) ≡ apart_from end xs
unfolding apart_from
apart_skip end x xs ne = rw (ne_eqb (seen_number x.read) 0 ne)

-- behind an accepted reading the next one stands where it ended, behind a refused one further on
pub record Behind (before end p : ℕ) : Type 0 where
  pub joins : before ≡ 0 → p ≡ end
  pub leaves : (before ≡ 0 → ⊥) → end < p

pick_same : (b : Bool) (n : ℕ) → pick b n n ≡ n
pick_same true n = refl
pick_same false n = refl

found_not : (before reading : ℕ) → (reading ≡ 0 → ⊥) → found_by before reading ≡ 0
unfolding found_by accepts
found_not before reading ne = rw (ne_eqb reading 0 ne) (pick_same (eqb before 0) 0)

found_or : (before end p : ℕ) → Behind before end p → found_by before 0 ≡ pick (eqb p end) 0 1
unfolding found_by accepts
found_or before end p b =
    ⊎_elim (λ (z : before ≡ 0). rw (eq-eqb before 0 z, eq-eqb p end (b.joins z)))
    (λ (ne : before ≡ 0 → ⊥). rw (ne_eqb before 0 ne, ne_eqb p end (λ (e : p ≡ end). omega (arith, b.leaves ne))))
    (same before 0)

not_before : (before end p : ℕ) → Behind before end p → end ≤ p
not_before before end p b =
    ⊎_elim (λ (z : before ≡ 0). omega (arith, b.joins z)) (λ (ne : before ≡ 0 → ⊥). omega (arith, b.leaves ne)) (same before 0)

-- one reading at p, and the same of what is left behind it
module _ (s : List ℕ) (p before end : ℕ) (h : p < length s) (b : Behind before end p) where
  abbrev seen : Seen
  seen = seen_of (drop p s)

  count_frame : seen_number seen ≡ 0 → (found_in 0 (from (p + seen.size) s) ≡ apart_from (p + seen.size) (from (p + seen.size) s)) → found_in before (from p s) ≡ apart_from end (from p s)
  count_frame z ih =
      let g = goes_frame s p seen h refl z in
      let rest = from (p + seen.size) s in
      let x = sight_at seen_of says_of p s in
      ap (found_in before) g.rest
      ∙ found_cons before x rest
      ∙ rw z (rw (found_or before end p b, ih))
      ∙ sym (apart_frame end x rest z)
      ∙ ap (apart_from end) (sym g.rest)

  count_refused : (seen_number seen ≡ 0 → ⊥) → (q : ℕ) → from p s ≡ sight_at seen_of says_of p s ∷ from q s → (found_in (seen_number seen) (from q s) ≡ apart_from end (from q s)) → found_in before (from p s) ≡ apart_from end (from p s)
  count_refused ne q g ih =
      let x = sight_at seen_of says_of p s in
      let none : found_by before (seen_number seen) + found_in (seen_number seen) (from q s) ≡ apart_from end (from q s) = omega (arith, found_not before (seen_number seen) ne, ih) in
      ap (found_in before) g
      ∙ found_cons before x (from q s)
      ∙ none
      ∙ sym (apart_skip end x (from q s) ne)
      ∙ ap (apart_from end) (sym g)

none_counted : (s : List ℕ) (p before end : ℕ) → length s ≤ p → found_in before (from p s) ≡ apart_from end (from p s)
unfolding found_in apart_from
none_counted s p before end h = rw (from_end seen_of says_of p s h)

-- behind a refused reading there is a next place, or the end
next_place : (s : List ℕ) (p : ℕ) → p < length s → (seen_number (seen_of (drop p s)) ≡ 0 → ⊥) → (a : Paper) → search_of s (p + 1) ≡ a → Lowest s (p + 1) a → (q : ℕ) × Goes s p q
next_place s p h ne a e (l_at q f y l z d) = (q, goes_found s p (seen_of (drop p s)) h refl ne q (sym (e ∙ f)))
next_place s p h ne a e (l_none f d) = (length s, goes_none s p (seen_of (drop p s)) h refl ne (sym (e ∙ f)))

counted : (k : ℕ) (s : List ℕ) (p before end : ℕ) → length s ≤ p + k → Behind before end p → found_in before (from p s) ≡ apart_from end (from p s)
counted zero s p before end l b = none_counted s p before end (omega arith)
counted (suc k) s p before end l b =
    ⊎_elim (λ (h : p < length s).
    ⊎_elim (λ (z : seen_number (seen_of (drop p s)) ≡ 0).
    let r = p + (seen_of (drop p s)).size in
    count_frame s p before end h b z (counted k s r 0 r (omega (arith, (goes_frame s p (seen_of (drop p s)) h refl z).further)) (record { joins = λ y. refl; leaves = λ ne. absurd (ne refl) })))
    (λ (ne : seen_number (seen_of (drop p s)) ≡ 0 → ⊥).
    let q = next_place s p h ne _ refl (lowest s (p + 1) (omega arith)) in
    count_refused s p before end h b ne q.0 q.1.rest
    (counted k s q.0 (seen_number (seen_of (drop p s))) end (omega (arith, q.1.further)) (record { joins = λ y. absurd (ne y); leaves = λ y. omega (arith, q.1.further, not_before before end p b) })))
    (same (seen_number (seen_of (drop p s))) 0))
    (λ (h : length s ≤ p). none_counted s p before end h)
    (less p (length s))

-- the first is compared with the capture's front
pub after_damage_is : (s : List ℕ) → found_of s ≡ apart_from 0 (sights s)
after_damage_is s = counted (length s) s 0 0 0 (omega arith) (record { joins = λ y. refl; leaves = λ ne. absurd (ne refl) })
