-- The walk over bytes that may not be all: it goes as far as no place waits for more.
use Rattle.std.specs.Prelude.{ℕ, zero, suc, ◌+◌, ◌≡◌, Bool, true, false}
use Rattle.std.proofs.Math.Path.{refl}
use Rattle.std.proofs.Common.{◌∙◌}
use mathlib.Core.List.{List, [], ◌∷◌, ◌++◌, append_assoc}
use Rattle.terms.specs.Paper.{pick}
use Rattle.terms.specs.Cases.{clash}
use Rattle.walk_laws.specs.Walk.{Says, frame, more, bad, Sight, Mode, within, seeking, next, noted, sights_of}

-- whether the walk waits at a place: it is read, or tried by the search, and bytes are missing
unfoldable pub waits : Mode → Says → Bool
waits (within zero) (frame n) = false
waits (within zero) more = true
waits (within zero) bad = false
waits (within (suc k)) w = false
waits seeking (frame n) = false
waits seeking more = true
waits seeking bad = false

-- how far the walk got: the readings it made, and what it waits with: the mode, the place and the
-- bytes from there on
pub record Got (R : Type 0) : Type 0 where
  pub seen : List (Sight R)
  pub mode : Mode
  pub place : ℕ
  pub kept : List ℕ

abbrev pub halt : {R : Type 0} → Mode → ℕ → List ℕ → Got R
halt m p s = record { seen = []; mode = m; place = p; kept = s }

abbrev pub behind : {R : Type 0} → List (Sight R) → Got R → Got R
behind l g = record { seen = l ++ g.seen; mode = g.mode; place = g.place; kept = g.kept }

module _ {R : Type 0} (read_of : List ℕ → R) (says_of : R → Says) where
  -- the readings of bytes from the place p on, as far as no place waits
  unfoldable pub ran_of : Mode → ℕ → List ℕ → Got R
  ran_of m p [] = halt m p []
  ran_of m p (b ∷ s) =
      pick (waits m (says_of (read_of (b ∷ s)))) (halt m p (b ∷ s))
      (behind (noted m (says_of (read_of (b ∷ s))) p (read_of (b ∷ s))) (ran_of (next m (says_of (read_of (b ∷ s)))) (p + 1) s))

  -- more bytes behind those that it waits with
  abbrev pub on_of : Got R → List ℕ → Got R
  on_of g t = behind g.seen (ran_of g.mode g.place (g.kept ++ t))

  abbrev says : List ℕ → Says
  says s = says_of (read_of s)

  pub ran_wait : (m : Mode) (p b : ℕ) (s : List ℕ) → waits m (says (b ∷ s)) ≡ true → ran_of m p (b ∷ s) ≡ halt m p (b ∷ s)
  unfolding ran_of
  ran_wait m p b s e = simp e

  pub ran_step : (m : Mode) (p b : ℕ) (s : List ℕ) → waits m (says (b ∷ s)) ≡ false
      → ran_of m p (b ∷ s) ≡ behind (noted m (says (b ∷ s)) p (read_of (b ∷ s))) (ran_of (next m (says (b ∷ s))) (p + 1) s)
  unfolding ran_of
  ran_step m p b s e = simp e

  pub sights_step : (m : Mode) (p b : ℕ) (s : List ℕ)
      → sights_of read_of says_of m p (b ∷ s) ≡ noted m (says (b ∷ s)) p (read_of (b ∷ s)) ++ sights_of read_of says_of (next m (says (b ∷ s))) (p + 1) s
  unfolding sights_of
  sights_step m p b s = refl

  -- the step at the front of s is the step at the front of s'
  record Same (m : Mode) (p : ℕ) (s s' : List ℕ) : Type 0 where
    wait : waits m (says s') ≡ waits m (says s)
    note : noted m (says s') p (read_of s') ≡ noted m (says s) p (read_of s)
    goes : next m (says s') ≡ next m (says s)

  same_read : (m : Mode) (p : ℕ) (s s' : List ℕ) → read_of s' ≡ read_of s → Same m p s s'
  same_read m p s s' e = record { wait = rw e; note = rw e; goes = rw e }

  -- frame law 1: what was read stays when bytes follow, unless it waits
  module _ (stays : (s t : List ℕ) → (says_of (read_of s) ≡ more → ⊥) → read_of (s ++ t) ≡ read_of s) where
    same : (m : Mode) (p : ℕ) (s t : List ℕ) → waits m (says s) ≡ false → Same m p s (s ++ t)
    unfolding waits noted next
    same (within zero) p s t e = same_read (within zero) p s (s ++ t) (stays s t (λ q. clash refl (rw q at e)))
    same (within (suc k)) p s t e = record { wait = refl; note = refl; goes = refl }
    same seeking p s t e = same_read seeking p s (s ++ t) (stays s t (λ q. clash refl (rw q at e)))

    behind_step : (m : Mode) (p b : ℕ) (s t : List ℕ) → waits m (says (b ∷ s)) ≡ false
        → ran_of m p (b ∷ (s ++ t)) ≡ behind (noted m (says (b ∷ s)) p (read_of (b ∷ s))) (ran_of (next m (says (b ∷ s))) (p + 1) (s ++ t))
    behind_step m p b s t e =
        let q = same m p (b ∷ s) t e in
        ran_step m p b (s ++ t) (q.wait ∙ e) ∙ rw (q.note, q.goes)

    ran_by : (m : Mode) (p b : ℕ) (s t : List ℕ) → ((n : Mode) → ran_of n (p + 1) (s ++ t) ≡ on_of (ran_of n (p + 1) s) t)
        → (w : Bool) → waits m (says (b ∷ s)) ≡ w → ran_of m p (b ∷ (s ++ t)) ≡ on_of (ran_of m p (b ∷ s)) t
    ran_by m p b s t ih true e = rw (ran_wait m p b s e)
    ran_by m p b s t ih false e = rw (behind_step m p b s t e, ran_step m p b s e, ih) (simp append_assoc)

    -- walking s and t at once is walking s, and then t behind what s left
    pub ran_append : (m : Mode) (p : ℕ) (s t : List ℕ) → ran_of m p (s ++ t) ≡ on_of (ran_of m p s) t
    unfolding ran_of
    ran_append m p [] t = refl
    ran_append m p (b ∷ s) t = ran_by m p b s t (λ n. ran_append n (p + 1) s t) (waits m (says (b ∷ s))) refl
