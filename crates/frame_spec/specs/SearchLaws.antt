-- The search, place by place.
use Rattle.std.specs.Prelude.{ℕ, ◌+◌, ◌-◌, ◌≤◌, ◌<◌, ◌≡◌, true, false, List, [], ◌∷◌, length, take, drop, eqb}
use Rattle.std.proofs.Common.{ap, ◌∙◌, arith, add-one, drop_of_length-le, drop-cons, le-leb}
use Rattle.std.proofs.lemmas.Bool.{lt-leb}
use Rattle.terms.specs.Paper.{Paper, answer, refusal}
use Rattle.terms.specs.Refusals.{number_of, refusal_not_0}
use Rattle.terms.specs.declared.Refusal.{Refusal}
use Rattle.octets.specs.Octets.{sum8}
use Rattle.frame_spec.specs.Frame.{read_of, reads}
use Rattle.frame_spec.specs.Search.{first_of, search_of}

hit_cons : (p b : ℕ) (s : List ℕ) → reads (b ∷ s) ≡ true → first_of p (b ∷ s) ≡ answer 0 (p ∷ [])
unfolding first_of
hit_cons p b s f = rw f

miss_cons : (p b : ℕ) (s : List ℕ) → reads (b ∷ s) ≡ false → first_of p (b ∷ s) ≡ first_of (p + 1) s
unfolding first_of
miss_cons p b s f = rw f

module _ (p : ℕ) (s : List ℕ) where
  pub first_hit : p < length s → reads (drop p s) ≡ true → first_of p (drop p s) ≡ answer 0 (p ∷ [])
  first_hit h f = let e = drop-cons s p 0 h in rw e (hit_cons p _ _ (rw e at f))

  pub first_miss : p < length s → reads (drop p s) ≡ false → first_of p (drop p s) ≡ first_of (p + 1) (drop (p + 1) s)
  first_miss h f = let e = drop-cons s p 0 h in rw e (miss_cons p _ _ (rw e at f) ∙ rw add-one)

  pub first_end : length s ≤ p → first_of p (drop p s) ≡ answer 0 []
  unfolding first_of
  first_end h = rw (drop_of_length-le s h)

module _ (s : List ℕ) (from : ℕ) where
  pub search_beyond : length s < from → search_of s from ≡ refusal 9
  unfolding search_of
  search_beyond h = rw (lt-leb from (length s) h)

  pub search_first : from ≤ length s → search_of s from ≡ first_of from (drop from s)
  unfolding search_of
  search_first h = rw (le-leb from (length s) h)

-- a place that was refused does not read
pub refused_read : (s : List ℕ) (w : Refusal) → read_of s ≡ refusal (number_of w) → reads s ≡ false
refused_read s w e = ap (λ (p : Paper). eqb p.number 0) e ∙ refusal_not_0 w

-- the sum of the bytes passed, where all of header and body are
pub all_passed : (s : List ℕ) (at n i v : ℕ) → i ≡ at + 24 + n → v ≡ sum8 (take (i - at) (drop at s)) → v ≡ sum8 (take (24 + n) (drop at s))
all_passed s at n i v e q = let p : i - at ≡ 24 + n = omega arith in q ∙ ap (λ (k : ℕ). sum8 (take k (drop at s))) p
