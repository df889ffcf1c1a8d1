-- Sums and laid frames of two rows of readings, one behind the other.
use Rattle.std.specs.Prelude.{ℕ, ◌+◌, ◌≤◌, ◌≡◌, refl, Bool, true, false, List, [], ◌∷◌, ◌++◌, leb, length}
use Rattle.std.proofs.Common.{sym, ap, ap₂, ◌∙◌, ⊎_elim, arith, length-append, le-leb, leb-true}
use Rattle.terms.specs.Cases.{two}
use Rattle.octets.specs.Octets.{laid}
use Rattle.octets.specs.Papers.{laid_if_room, laid_there, laid_kept}
use Rattle.octets.specs.Overlays.{laid_nil, laid_append, length_laid}
use Rattle.private.proofs.Laws.{length_always}
use Rattle.walk_laws.specs.Walk.{Sight}
use Rattle.walk_laws.specs.Frames.{joined, each_of, each_joined}
use Rattle.stream_clean_spec.specs.declared.Sums.{Sums}
use Rattle.stream_clean_spec.specs.Wash.{Cut, own_of, washed, no_sums, plus, one_of, seeks_after, sums_of, lays}

-- SUMS

sums_is : (a b c d i j k l : ℕ) → a ≡ i → b ≡ j → c ≡ k → d ≡ l → ◌≡◌ {A = Sums} (record { bytes = a; frames = b; found = c; unjudged = d }) (record { bytes = i; frames = j; found = k; unjudged = l })
sums_is a b c d i j k l p q r s = rw (p, q, r, s)

pub plus_assoc : (a b c : Sums) → plus (plus a b) c ≡ plus a (plus b c)
unfolding plus
plus_assoc a b c = sums_is _ _ _ _ _ _ _ _ (omega arith) (omega arith) (omega arith) (omega arith)

pub plus_none : (a : Sums) → plus a no_sums ≡ a
unfolding plus
plus_none a = sums_is _ _ _ _ _ _ _ _ (omega arith) (omega arith) (omega arith) (omega arith)

pub none_plus : (a : Sums) → plus no_sums a ≡ a
unfolding plus
none_plus a = sums_is _ _ _ _ _ _ _ _ (omega arith) (omega arith) (omega arith) (omega arith)

pub plus_bytes : (a b : Sums) → (plus a b).bytes ≡ a.bytes + b.bytes
unfolding plus
plus_bytes a b = refl

-- BYTES

pub washed_append : (a b : List (Sight Cut)) → washed (a ++ b) ≡ washed a ++ washed b
unfolding washed
washed_append a b = each_joined own_of a b

pub washed_cons : (x : Sight Cut) (xs : List (Sight Cut)) → washed (x ∷ xs) ≡ own_of x ++ washed xs
unfolding washed joined each_of
washed_cons x xs = refl

-- as many as are counted
pub washed_length : (b : Bool) (xs : List (Sight Cut)) → (sums_of b xs).bytes ≡ length (washed xs)
unfolding sums_of one_of plus washed joined each_of
washed_length b [] = refl
washed_length b (x ∷ xs) =
    sym (length-append (own_of x) (joined (each_of own_of xs)) ∙ ap₂ (λ (i j : ℕ). i + j) (length_always x.read.own) (sym (washed_length (seeks_after x.read.seen) xs)))

-- WHAT IS LAID

pub laid_length : (at : ℕ) (bs d : List ℕ) → length (laid_if_room at bs d) ≡ length d
laid_length at bs d =
    ⊎_elim (λ (t : leb (at + length bs) (length d) ≡ true). ap length (laid_there at (length bs) bs d refl t) ∙ length_laid at bs d (leb-true (at + length bs) (length d) t))
    (λ (f : leb (at + length bs) (length d) ≡ false). ap length (laid_kept at (length bs) bs d refl f))
    (two (leb (at + length bs) (length d)))

-- where all have room, they are laid end to end
pub lays_all : (n : ℕ) (xs : List (Sight Cut)) (d : List ℕ) → n + length (washed xs) ≤ length d → lays n xs d ≡ laid n (washed xs) d
unfolding lays washed joined each_of
lays_all n [] d h = sym (laid_nil n d)
lays_all n (x ∷ xs) d h =
    let own = own_of x in
    let rest = joined (each_of own_of xs) in
    let l : length own ≡ length x.read.own = length_always x.read.own in
    let a : length (own ++ rest) ≡ length own + length rest = length-append own rest in
    let f : n + length own ≤ length d = omega (arith, h, a) in
    let q : laid_if_room n own d ≡ laid n own d = laid_there n (length own) own d refl (le-leb (n + length own) (length d) f) in
    let g : n + length x.read.own + length rest ≤ length (laid n own d) = omega (arith, h, a, l, length_laid n own d f) in
    ap (lays (n + length x.read.own) xs) q
    ∙ lays_all (n + length x.read.own) xs (laid n own d) g
    ∙ ap (λ (m : ℕ). laid (n + m) rest (laid n own d)) (sym l)
    ∙ sym (laid_append n own rest d f)
