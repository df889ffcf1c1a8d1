-- The private spans of document 01: where they lie, that they are few and within the body, and that
-- they depend on public bytes alone.
use Rattle.std.specs.Prelude.{ℕ, ◌+◌, ◌-◌, ◌<◌, ◌≤◌, ◌≡◌, refl, ◌⊎◌, ◌↔◌, List, length, get_or}
use Rattle.std.proofs.Common.{inl, inr, arith}
use Rattle.std.proofs.Math.Logic.{⊎_elim}
use Rattle.terms.specs.Cases.{less}
use Rattle.rules.specs.declared.Kind.{Kind}
use Rattle.rules.specs.declared.Kind.TheVariants.{S001, S002, S003, P001, P002, M101, M102, M201, Unknown}
use Rattle.rules.specs.declared.Layout.{Layout}
use Rattle.rules.specs.declared.Layout.TheVariants.{Order, Trade, Other}
use Rattle.rules.specs.Widths.{text, number, order_holds}
use Rattle.private.specs.Private.{fill_of, order_field, tail_of, tail_spans, private_of}
use Rattle.private.specs.Paint.{Inside}
use Rattle.private.specs.PrivateLaws.{TailByte, PrivateByte}

one_to : {P Q : Type 0} → (P → Q) → P ⊎ ⊥ → Q
one_to f (inl p) = f p
one_to f (inr e) = absurd e

comp_ids : (i : ℕ) → ((0 ≤ i) × (i < 0 + 32)) ⊎ (((32 ≤ i) × (i < 32 + 32)) ⊎ ⊥) → i < 64
comp_ids i (inl h) = omega arith
comp_ids i (inr (inl h)) = omega arith
comp_ids i (inr (inr h)) = absurd h

first_or : (i : ℕ) → i < 64 → ((0 ≤ i) × (i < 0 + 32)) ⊎ (((32 ≤ i) × (i < 32 + 32)) ⊎ ⊥)
first_or i h =
    ⊎_elim (λ (l : i < 32). inl (omega arith, omega arith)) (λ (l : 32 ≤ i). inr (inl (l, omega arith))) (less i 32)

drop_none : {P Q R : Type 0} → P ⊎ (Q ⊎ (R ⊎ ⊥)) → P ⊎ (Q ⊎ R)
drop_none (inl p) = inl p
drop_none (inr (inl q)) = inr (inl q)
drop_none (inr (inr (inl r))) = inr (inr r)
drop_none (inr (inr (inr e))) = absurd e

add_none : {P Q R : Type 0} → P ⊎ (Q ⊎ R) → P ⊎ (Q ⊎ (R ⊎ ⊥))
add_none (inl p) = inl p
add_none (inr (inl q)) = inr (inl q)
add_none (inr (inr r)) = inr (inr (inl r))

tail_bytes : (l : Layout) (n i : ℕ) → Inside (tail_spans l n) i ↔ TailByte l n i
tail_bytes Order n i = (drop_none, add_none)
tail_bytes Trade n i = (λ h. h, λ h. h)
tail_bytes Other n i = (one_to (λ (h : (45 ≤ i) × (i < 45 + (n - 45))). (h.0, omega arith)), λ h. inl (h.0, omega arith))

pub private_is : (k : Kind) (b : List ℕ) (i : ℕ) → Inside (private_of k b) i ↔ PrivateByte k b i
private_is S001 b i = (comp_ids i, first_or i)
private_is S002 b i = (one_to (λ (h : (4 ≤ i) × (i < 4 + 256)). (h.0, h.1)), λ h. inl (h.0, h.1))
private_is S003 b i = (λ h. h, λ h. h)
private_is P001 b i = (λ h. h, λ h. h)
private_is P002 b i = (one_to (λ (h : (20 ≤ i) × (i < 20 + 32)). (h.0, h.1)), λ h. inl (h.0, h.1))
private_is M101 b i = (λ h. h, λ h. h)
private_is M102 b i = (λ h. h, λ h. h)
private_is M201 b i = tail_bytes (tail_of b) (length b) i
private_is Unknown b i = (λ h. h, λ h. h)

-- "A private number becomes 0 and private text becomes spaces"
pub fill_is : (fill_of number ≡ 0) × ((fill_of text ≡ 0x20) × ((i : ℕ) → (order_field i).fill ≡ fill_of (get_or order_holds i text)))
fill_is = (refl, (refl, λ i. refl))
