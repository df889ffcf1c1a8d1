-- Each number of opening and of a step is answered exactly when its condition holds, for all
-- bodies and places.
use Rattle.std.specs.Prelude.{ℕ, zero, suc, ◌+◌, ◌<◌, ◌≤◌, ◌≡◌, true, false, ◌↔◌, List, length}
use Rattle.std.proofs.Common.{sym, ap, ◌∙◌, ⊎_elim, arith}
use Rattle.terms.specs.Paper.{Paper}
use Rattle.terms.specs.Cases.{two, less}
use Rattle.octets.specs.Octets.{be}
use Rattle.rules.specs.declared.Kind.TheVariants.{M102}
use Rattle.rules.specs.Fields.{fields_ok}
use Rattle.rules.specs.Meaning.{size_is, denied, unsaid}
use Rattle.rules.proofs.Meaning.{fields_say}
use Rattle.entries.specs.Reader.{open_of, size_in, placed, stands, step_of, place_after}
use Rattle.entries.specs.Given.{Opens0, Opens3, Opens4, Opens6, OpensWith, Kth, Row20, body_below, no_place, passes_end, Stands}
use Rattle.entries.specs.Outcomes.{not_le, open_long, open_length, open_field, open_fine, step_done, step_20, after_done, after_20, entry_number}
use Rattle.entries.specs.Places.{sized, Place, placed_says, stands_says}

-- OPENING

told : (b : List ℕ) → OpensWith (open_of b) b
told b =
    ⊎_elim (λ (l : 8164 < length b). rw (open_long b l) l) (λ (l : length b ≤ 8164).
    ⊎_elim (λ (s : length b < 73). rw (open_length b l s) (l, λ (t : 73 ≤ length b). omega arith)) (λ (s : 73 ≤ length b).
    ⊎_elim (λ (f : fields_ok M102 b ≡ true). rw (open_fine b l s f) (record { short = l; suits = s; fields = (fields_say M102 b).0 f }))
    (λ (f : fields_ok M102 b ≡ false). rw (open_field b l s f) ((l, s), unsaid (fields_say M102 b) f))
    (two (fields_ok M102 b)))
    (less (length b) 73))
    (less 8164 (length b))

from_any : (n : ℕ) (b : List ℕ) → OpensWith n b → open_of b ≡ n
from_any zero b h = open_fine b h.short h.suits ((fields_say M102 b).1 h.fields)
from_any (suc zero) b h = absurd h
from_any (suc (suc zero)) b h = absurd h
from_any (suc (suc (suc zero))) b h = open_long b h
from_any (suc (suc (suc (suc zero)))) b h = open_length b h.0 (not_le h.1)
from_any (suc (suc (suc (suc (suc zero))))) b h = absurd h
from_any (suc (suc (suc (suc (suc (suc zero)))))) b h = open_field b h.0.0 h.0.1 (denied (fields_say M102 b) h.1)
from_any (suc (suc (suc (suc (suc (suc (suc n))))))) b h = absurd h

pub open_given : (n : ℕ) (b : List ℕ) → (open_of b ≡ n) ↔ OpensWith n b
open_given n b = (λ (e : open_of b ≡ n). rw e at (told b), from_any n b)

-- a body opens exactly if it is one that an M102 frame may carry
pub open_given_0 : (b : List ℕ) → (open_of b ≡ 0) ↔ Opens0 b
open_given_0 = open_given 0

pub open_given_3 : (b : List ℕ) → (open_of b ≡ 3) ↔ Opens3 b
open_given_3 = open_given 3

pub open_given_4 : (b : List ℕ) → (open_of b ≡ 4) ↔ Opens4 b
open_given_4 = open_given 4

pub open_given_6 : (b : List ℕ) → (open_of b ≡ 6) ↔ Opens6 b
open_given_6 = open_given 6

-- A STEP

module _ (b : List ℕ) (p : ℕ) where
  done : stands b p ≡ true → (step_of b p).number ≡ 0
  done h = ap (λ (x : Paper). x.number) (step_done b p h) ∙ entry_number b p

  refused : stands b p ≡ false → (step_of b p).number ≡ 20
  refused h = ap (λ (x : Paper). x.number) (step_20 b p h)

  -- a place of an entry that does not stand there: it passes the end
  passed : 73 ≤ length b → stands b p ≡ false → Place (be 2 71 b) (size_in b) p → Row20 b p
  passed h f t =
      let kth : Kth b p t.0 (size_in b) = record { size = size_is (be 5 10 b); below = t.1.0; place = t.1.1 } in
      passes_end t.0 (size_in b) kth
      (not_le (λ (g : p + size_in b ≤ length b). unsaid (stands_says b p) f (record { body = h; k = t.0; w = size_in b; kth = kth; whole = g })))

  row : stands b p ≡ false → Row20 b p
  row f =
      ⊎_elim (λ (l : length b < 73). body_below l) (λ (h : 73 ≤ length b).
      ⊎_elim (λ (t : placed (be 2 71 b) (size_in b) p ≡ true). passed h f ((placed_says (be 2 71 b) (size_in b) p).0 t))
      (λ (n : placed (be 2 71 b) (size_in b) p ≡ false). no_place (λ k w t. unsaid (placed_says (be 2 71 b) (size_in b) p) n (k, (t.below, rw (sized b w t.size) at t.place))))
      (two (placed (be 2 71 b) (size_in b) p)))
      (less (length b) 73)

  rowed : Row20 b p → Stands b p → ⊥
  rowed (body_below l) r = omega (arith, r.body)
  rowed (no_place f) r = f r.k r.w r.kth
  rowed (passes_end k w t l) r = omega (arith, sized b w t.size, sized b r.w r.kth.size, r.whole)

  -- a step answers 20 exactly when row 20 says so
  pub step_given_20 : ((step_of b p).number ≡ 20) ↔ Row20 b p
  step_given_20 = (
    λ (e : (step_of b p).number ≡ 20). ⊎_elim (λ (h : stands b p ≡ true). absurd (omega (arith, done h))) (λ (f : stands b p ≡ false). row f) (two (stands b p)),
    λ (r : Row20 b p). refused (denied (stands_says b p) (rowed r)),
  )

  -- and else 0
  pub step_given_0 : ((step_of b p).number ≡ 0) ↔ Stands b p
  step_given_0 = (
    λ (e : (step_of b p).number ≡ 0). ⊎_elim (λ (h : stands b p ≡ true). (stands_says b p).0 h) (λ (f : stands b p ≡ false). absurd (omega (arith, refused f))) (two (stands b p)),
    λ (r : Stands b p). done ((stands_says b p).1 r),
  )

  -- beside 20 the place stays, and beside an entry it moves behind it
  pub step_stays : Row20 b p → place_after b p ≡ p
  step_stays r = after_20 b p (denied (stands_says b p) (rowed r))

  pub step_moves : (r : Stands b p) → place_after b p ≡ p + r.w
  step_moves r = after_done b p ((stands_says b p).1 r) ∙ ap (λ (w : ℕ). p + w) (sym (sized b r.w r.kth.size))
