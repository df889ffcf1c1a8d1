-- A frame in two parts, one behind the other: what is laid of it. Assumes nothing.
use Prim.Native.Nat.{ℕ, ◌+◌, ◌-◌, ◌≤◌}
use mathlib.Core.Path.{◌≡◌, sym, ap, ◌∙◌}
use mathlib.Core.List.{List, ◌++◌, append-nil}
use native.Mathlib.Omega.{arith}
use lib.ListN.{length, take, drop, length-append}
use lib.Seq.{length-take-le, take-append-le, take-append-add}
use mathlib.Core.Bool.{true, false}
use lib.Dec.{leb}
use borrow.Rule.Slice.PartMut.{put_mid, mid_of, mid_len}
use Rattle.octets.specs.Octets.{laid}
use Rattle.octets.specs.Overlays.{length_laid, mid_laid, laid_again, laid_append}
use Rattle.octets.specs.Papers.{laid_if_room, laid_there, laid_kept}
use Rattle.private.specs.Scrub.{scrubbed}
use Rattle.private.proofs.Laws.{length_always}
use Rattle.scrub.proofs.Parts.{back}
use Rattle.clean_spec.specs.Laid.{nothing_laid}
use Rattle.clean_spec.specs.Turns.{scrubbed_none}
use Rattle.stream_spec.specs.Window.{laid_in}
use Rattle.stream_clean.specs.declared.Taken.{Taken}
use Rattle.stream_clean.specs.Taken.{TakenIs}

-- the same bytes, said otherwise
pub taken_as : (s u : List ℕ) (n : ℕ) (d d' : List ℕ) (t : Taken) → s ≡ u → TakenIs s n d d' t → TakenIs u n d d' t
taken_as s u n d d' t e z = rw (← e) z

-- a part that was lent, scrubbed and is back
pub scrubbed_back : (a e : ℕ) (xs ys : List ℕ) → e ≤ length xs → ys ≡ scrubbed (mid_of a (e - a) xs) → put_mid a (e - a) xs ys ≡ laid a (scrubbed (take (e - a) (drop a xs))) xs
scrubbed_back a e xs ys g p =
    back a (e - a) xs ys (ap length p ∙ length_always (mid_of a (e - a) xs) ∙ mid_len a e xs g)
    ∙ ap (λ (z : List ℕ). laid a z xs) p

-- both parts laid, and scrubbed there
pub laid_both : (n : ℕ) (a b d d₁ d₂ d₃ : List ℕ) → n + (length a + length b) ≤ length d → d₁ ≡ laid_if_room n a d → d₂ ≡ laid_if_room (n + length a) b d₁
    → d₃ ≡ laid n (scrubbed (take (n + length a + length b - n) (drop n d₂))) d₂ → d₃ ≡ laid n (scrubbed (a ++ b)) d
laid_both n a b d d₁ d₂ d₃ h p q r =
    let l = length-append a b in
    let f : n + length (a ++ b) ≤ length d = omega (arith, l) in
    let e : d₁ ≡ laid n a d = laid_in n a d d₁ (omega arith) p in
    let m : length d₁ ≡ length d = ap length e ∙ length_laid n a d (omega arith) in
    let g : d₂ ≡ laid n (a ++ b) d = laid_in (n + length a) b d₁ d₂ (omega arith) q ∙ ap (laid (n + length a) b) e ∙ sym (laid_append n a b d (omega arith)) in
    let k : n + length a + length b - n ≡ length (a ++ b) = omega (arith, l) in
    let t : take (n + length a + length b - n) (drop n d₂) ≡ a ++ b = rw (k, g) (mid_laid n (a ++ b) d f) in
    r
    ∙ ap (λ (c : List ℕ). laid n (scrubbed c) d₂) t
    ∙ ap (laid n (scrubbed (a ++ b))) g
    ∙ laid_again n (a ++ b) d f (scrubbed (a ++ b)) (length_always (a ++ b))

module _ (a b d : List ℕ) (n size : ℕ) (h : size ≤ length a + length b) where
  long : length (scrubbed (take size (a ++ b))) ≡ size
  long = length_always (take size (a ++ b)) ∙ length-take-le size (a ++ b) (omega (arith, length-append a b))

  -- of no bytes nothing is laid
  pub none_across : size ≡ 0 → d ≡ laid_if_room n (scrubbed (take size (a ++ b))) d
  none_across z = rw (z, scrubbed_none) (nothing_laid n d)

  -- nor without room
  pub kept_across : leb (n + size) (length d) ≡ false → d ≡ laid_if_room n (scrubbed (take size (a ++ b))) d
  kept_across k = sym (laid_kept n size (scrubbed (take size (a ++ b))) d long k)

  laid_across : (c d' : List ℕ) → leb (n + size) (length d) ≡ true → c ≡ take size (a ++ b) → d' ≡ laid n (scrubbed c) d → d' ≡ laid_if_room n (scrubbed (take size (a ++ b))) d
  laid_across c d' k e p = p ∙ ap (λ (l : List ℕ). laid n (scrubbed l) d) e ∙ sym (laid_there n size (scrubbed (take size (a ++ b))) d long k)

  -- all of them in the first part
  pub first_across : (d' : List ℕ) → leb (n + size) (length d) ≡ true → size ≤ length a → d' ≡ laid n (scrubbed (take size a ++ take 0 b)) d → d' ≡ laid_if_room n (scrubbed (take size (a ++ b))) d
  first_across d' k l p = laid_across (take size a ++ take 0 b) d' k (append-nil (take size a) ∙ sym (take-append-le size a b l)) p

  -- or in both
  pub both_across : (d' : List ℕ) → leb (n + size) (length d) ≡ true → length a ≤ size → d' ≡ laid n (scrubbed (a ++ take (size - length a) b)) d → d' ≡ laid_if_room n (scrubbed (take size (a ++ b))) d
  both_across d' k l p =
      let e : length a + (size - length a) ≡ size = omega arith in
      laid_across (a ++ take (size - length a) b) d' k (sym (take-append-add a b (size - length a)) ∙ rw e) p
