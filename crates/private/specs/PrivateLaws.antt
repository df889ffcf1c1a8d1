-- The private spans of document 01: where they lie, that they are few and within the body, and that
-- they depend on public bytes alone.
use Rattle.std.specs.Prelude.{ℕ, ◌+◌, ◌<◌, ◌≤◌, ◌≡◌, refl, false, ◌⊎◌, List, [], length, take}
use Rattle.std.proofs.Common.{sym, ◌∙◌, inl, inr, arith, ext_get_or, eqb-true, leb-true}
use Rattle.std.proofs.Math.Bool.{true}
use Rattle.std.proofs.Math.Logic.{⊎_elim}
use Rattle.terms.specs.Cases.{two}
use Rattle.octets.specs.Octets.{be, numeral}
use Rattle.rules.specs.declared.Kind.{Kind}
use Rattle.rules.specs.declared.Kind.TheVariants.{S001, S002, S003, P001, P002, M101, M102, M201, Unknown}
use Rattle.rules.specs.Table.{suits}
use Rattle.rules.specs.declared.Layout.{Layout}
use Rattle.rules.specs.declared.Layout.TheVariants.{Order, Trade, Other}
use Rattle.rules.specs.Rules.{LayoutRule, TailRule}
use Rattle.rules.specs.Meaning.{layout_one, suits_tail_says}
use Rattle.rules.proofs.Meaning.{layout_is}
use Rattle.rules.specs.Fields.{s001_ok, s002_ok, p002_ok, suits_tail, named_in, tail_ok, m201_ok, fields_ok, judge_of}
use Rattle.frame_view.specs.View.{view_of}
use Rattle.private.specs.Private.{tail_of, tail_spans, private_of}
use Rattle.private.specs.Paint.{Within, Agree, Clear, number_same}

-- THE EXTENSION OF AN M201 is read as an order's or a trade's exactly where the rule says so and
-- the length suits
module _ (b : List ℕ) where
  pub tail_named : tail_ok b ≡ true → tail_of b ≡ named_in b
  unfolding tail_of
  tail_named t = rw t

  pub tail_not : tail_ok b ≡ false → tail_of b ≡ Other
  unfolding tail_of
  tail_not f = rw f

  pub tail_long : (l : Layout) → tail_of b ≡ l → TailRule l (length b)
  unfolding tail_ok
  tail_long l e =
      ⊎_elim (λ (t : tail_ok b ≡ true). rw (sym e ∙ tail_named t) ((suits_tail_says (named_in b) (length b)).0 t))
      (λ (f : tail_ok b ≡ false). rw (sym e ∙ tail_not f) refl)
      (two (tail_ok b))

  pub tail_is : (l : Layout) → LayoutRule (be 5 11 b) (be 1 28 b) l → TailRule l (length b) → tail_of b ≡ l
  unfolding tail_ok
  tail_is l r h =
      let same : named_in b ≡ l = layout_one (be 5 11 b) (be 1 28 b) (named_in b) l (layout_is (be 5 11 b) (be 1 28 b)) r in
      let suit : suits_tail (named_in b) (length b) ≡ true = rw same ((suits_tail_says l (length b)).1 h) in
      tail_named suit ∙ same

-- the bytes of an extension that are private, by offsets in a body of n bytes: MemberID, TraderCode
-- and InvestorName of an order; none of a trade; else all
abbrev pub TailByte : Layout → ℕ → ℕ → Type 0
TailByte Order n i = ((64 ≤ i) × (i < 76)) ⊎ (((76 ≤ i) × (i < 88)) ⊎ ((120 ≤ i) × (i < 152)))
TailByte Trade n i = ⊥
TailByte Other n i = (45 ≤ i) × (i < n)

-- THE SPANS OUTRIGHT, by offsets in the body: an empty `private_of`, or one a byte short, is
-- refused here
abbrev pub PrivateByte : Kind → List ℕ → ℕ → Type 0
PrivateByte S001 b i = i < 64
PrivateByte S002 b i = (4 ≤ i) × (i < 260)
PrivateByte S003 b i = ⊥
PrivateByte P001 b i = ⊥
PrivateByte P002 b i = (20 ≤ i) × (i < 52)
PrivateByte M101 b i = ⊥
PrivateByte M102 b i = ⊥
PrivateByte M201 b i = TailByte (tail_of b) (length b) i
PrivateByte Unknown b i = ⊥

-- FEW, WITHIN, OF ONE FILL

tail_few : (l : Layout) (n : ℕ) → take 4 (tail_spans l n) ≡ tail_spans l n
tail_few Order n = refl
tail_few Trade n = refl
tail_few Other n = refl

pub private_few : (k : Kind) (b : List ℕ) → take 4 (private_of k b) ≡ private_of k b
private_few S001 b = refl
private_few S002 b = refl
private_few S003 b = refl
private_few P001 b = refl
private_few P002 b = refl
private_few M101 b = refl
private_few M102 b = refl
private_few M201 b = tail_few (tail_of b) (length b)
private_few Unknown b = refl

tail_within : (l : Layout) (n : ℕ) → TailRule l n → 45 ≤ n → Within n (tail_spans l n)
tail_within Order n e h = (omega arith, (omega arith, (omega arith, refl)))
tail_within Trade n e h = refl
tail_within Other n e h = (omega arith, refl)

pub private_within : (k : Kind) (b : List ℕ) → suits k (length b) ≡ true → Within (length b) (private_of k b)
unfolding suits
private_within S001 b h = let e = eqb-true (length b) 74 h in (omega arith, (omega arith, refl))
private_within S002 b h = let e = eqb-true (length b) 260 h in (omega arith, refl)
private_within S003 b h = refl
private_within P001 b h = refl
private_within P002 b h = let e = eqb-true (length b) 52 h in (omega arith, refl)
private_within M101 b h = refl
private_within M102 b h = refl
private_within M201 b h = tail_within (tail_of b) (length b) (tail_long b (tail_of b) refl) (leb-true 45 (length b) h)
private_within Unknown b h = refl

-- PUBLIC BYTES DECIDE

-- every span of an extension starts at 45 or behind
pub tail_clear : (l : Layout) (n w at : ℕ) → at + w ≤ 45 → Clear (tail_spans l n) at w
tail_clear Order n w at h = (inl (omega arith), (inl (omega arith), (inl (omega arith), refl)))
tail_clear Trade n w at h = refl
tail_clear Other n w at h = (inl h, refl)

-- so a number in the 45 fixed bytes of an M201 is public, and its layout is
module _ (a b : List ℕ) (g : Agree (private_of M201 a) a b) where
  fixed_same : (w at : ℕ) → at + w ≤ 45 → numeral 256 w at a ≡ numeral 256 w at b
  fixed_same w at h = number_same (private_of M201 a) a b g w at (tail_clear (tail_of a) (length a) w at h)

  tail_ok_same : tail_ok a ≡ tail_ok b
  unfolding tail_ok
  tail_ok_same = rw (fixed_same 5 11 (omega arith), fixed_same 1 28 (omega arith), g.long)

  tail_same : tail_of a ≡ tail_of b
  unfolding tail_of
  tail_same = rw (tail_ok_same, fixed_same 5 11 (omega arith), fixed_same 1 28 (omega arith))

-- bodies that agree outside the private spans have the same private spans
pub private_same : (k : Kind) (a b : List ℕ) → Agree (private_of k a) a b → private_of k a ≡ private_of k b
private_same S001 a b g = refl
private_same S002 a b g = refl
private_same S003 a b g = refl
private_same P001 a b g = refl
private_same P002 a b g = refl
private_same M101 a b g = refl
private_same M102 a b g = refl
private_same M201 a b g = rw (tail_same a b g, g.long)
private_same Unknown a b g = refl

-- with nothing private, lists that agree are equal
pub agree_all : (a b : List ℕ) → Agree [] a b → a ≡ b
agree_all a b g = ext_get_or 0 a b g.long (λ i l. g.outside i (λ h. h))

-- the field rules look at no private byte
module _ (a b : List ℕ) where
  same : (k : Kind) → Agree (private_of k a) a b → (w at : ℕ) → Clear (private_of k a) at w → numeral 256 w at a ≡ numeral 256 w at b
  same k g w at c = number_same (private_of k a) a b g w at c

  s001_same : Agree (private_of S001 a) a b → s001_ok a ≡ s001_ok b
  unfolding s001_ok
  s001_same g = rw (same S001 g 2 64 (inr (omega arith), (inr (omega arith), refl)))

  s002_same : Agree (private_of S002 a) a b → s002_ok a ≡ s002_ok b
  unfolding s002_ok
  s002_same g = rw (same S002 g 4 0 (inl (omega arith), refl))

  p002_same : Agree (private_of P002 a) a b → p002_ok a ≡ p002_ok b
  unfolding p002_ok
  p002_same g =
      rw (
        same P002 g 2 0 (inl (omega arith), refl),
        same P002 g 1 2 (inl (omega arith), refl),
        same P002 g 8 3 (inl (omega arith), refl),
        same P002 g 8 11 (inl (omega arith), refl),
        same P002 g 1 19 (inl (omega arith), refl),
      )

  m201_same : Agree (private_of M201 a) a b → m201_ok a ≡ m201_ok b
  unfolding m201_ok
  m201_same g =
      rw (
        fixed_same a b g 1 0 (omega arith),
        fixed_same a b g 2 1 (omega arith),
        fixed_same a b g 8 3 (omega arith),
        fixed_same a b g 4 24 (omega arith),
        fixed_same a b g 1 28 (omega arith),
        fixed_same a b g 8 29 (omega arith),
        fixed_same a b g 8 37 (omega arith),
        tail_ok_same a b g,
      )

pub fields_same : (k : Kind) (a b : List ℕ) → Agree (private_of k a) a b → fields_ok k a ≡ fields_ok k b
unfolding fields_ok
fields_same S001 a b g = s001_same a b g
fields_same S002 a b g = s002_same a b g
fields_same S003 a b g = refl
fields_same P001 a b g = rw (agree_all a b g)
fields_same P002 a b g = p002_same a b g
fields_same M101 a b g = refl
fields_same M102 a b g = rw (agree_all a b g)
fields_same M201 a b g = m201_same a b g
fields_same Unknown a b g = refl

pub judged_same : (k : Kind) (time : ℕ) (a b : List ℕ) → Agree (private_of k a) a b → judge_of k time a ≡ judge_of k time b
unfolding judge_of
judged_same k time a b g = rw (fields_same k a b g)

-- WHAT THE LAYERS ABOVE SEE IS PUBLIC: bodies that agree outside the private spans have
-- the same view
pub view_same : (k : Kind) (a b : List ℕ) → Agree (private_of k a) a b → view_of k a ≡ view_of k b
unfolding view_of
view_same S001 a b g = refl
view_same S002 a b g = refl
view_same S003 a b g = refl
view_same P001 a b g = rw (agree_all a b g)
view_same P002 a b g =
    rw (
      number_same (private_of P002 a) a b g 2 0 (inl (omega arith), refl),
      number_same (private_of P002 a) a b g 8 3 (inl (omega arith), refl),
      number_same (private_of P002 a) a b g 8 11 (inl (omega arith), refl),
      number_same (private_of P002 a) a b g 1 19 (inl (omega arith), refl),
    )
view_same M101 a b g = refl
view_same M102 a b g = refl
view_same M201 a b g =
    rw (fixed_same a b g 2 1 (omega arith), fixed_same a b g 8 3 (omega arith))
view_same Unknown a b g = refl
