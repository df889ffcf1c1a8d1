-- What stands at a line's start, by the tests that decide; and the bytes behind the trailer.
use Rattle.std.specs.Prelude.{ℕ, ◌+◌, ◌-◌, ◌<◌, ◌≤◌, ◌≡◌, List}
use Rattle.std.proofs.Common.{sym, ◌∙◌, arith}
use Rattle.std.proofs.Math.ListN.{length}
use borrow.Author.Tests.{lt-ltb}
use Rattle.market_spec.specs.File.{fault, fine, type_at, layout_of, left_over, trailer_fault, line_fault, lines_fault}
use Rattle.market_spec.specs.Files.{then_fine, then_fault, layout_some, lines_trailer, lines_cut, lines_type, lines_line}
use Rattle.market_spec.proofs.Files.{line_long}
use Rattle.market_spec.specs.Types.{Left}

-- LEFT-OVER BYTES

pub left_some : (s : List ℕ) (at : ℕ) → at < length s → left_over s at ≡ fault 40 at
left_some s at h = rw (lt-ltb at (length s) h)

module _ (s : List ℕ) (at p k : ℕ) (l : Left s at p k) where
  some : 1 ≤ l.fuel
  some = omega (arith, l.inside, l.enough)

  pub left_trailer : type_at p s ≡ 5 → trailer_fault k p s ≡ lines_fault (length s + 1) 0 at s
  left_trailer e = sym (lines_trailer l.fuel k p s some e) ∙ l.same_answer

  pub left_cut : type_at p s ≡ 6 → fault 40 (length s) ≡ lines_fault (length s + 1) 0 at s
  left_cut e = sym (lines_cut l.fuel k p s some e) ∙ l.same_answer

  pub left_type : type_at p s ≡ 0 → fault 42 p ≡ lines_fault (length s + 1) 0 at s
  left_type e = sym (lines_type l.fuel k p s some e) ∙ l.same_answer

  module _ (a : type_at p s ≡ 5 → ⊥) (b : type_at p s ≡ 6 → ⊥) (c : type_at p s ≡ 0 → ⊥) where
    pub left_wrong : (n q : ℕ) → (n ≡ 0 → ⊥) → line_fault 43 (layout_of (type_at p s)) p s ≡ fault n q → fault n q ≡ lines_fault (length s + 1) 0 at s
    left_wrong n q z e =
        sym (lines_line l.fuel k p s some a b c ∙ then_fault (line_fault 43 (layout_of (type_at p s)) p s) (λ (x : ℕ). lines_fault (l.fuel - 1) (k + 1) x s) n q e z) ∙ l.same_answer

    module _ (q : ℕ) (e : line_fault 43 (layout_of (type_at p s)) p s ≡ fine q) where
      pub left_farther : (p < q) × (q ≤ length s)
      left_farther =
          let r = line_long 43 (layout_of (type_at p s)) p q s (λ z. omega arith) l.inside e in
          (omega (arith, r.0, layout_some (type_at p s)), r.1)

      pub left_next : Left s at q (k + 1)
      left_next =
          record {
            inside = left_farther.1;
            few = omega (arith, l.few, left_farther.0);
            fuel = l.fuel - 1;
            enough = omega (arith, l.enough, some, left_farther.0);
            same_answer = sym (lines_line l.fuel k p s some a b c ∙ then_fine (line_fault 43 (layout_of (type_at p s)) p s) (λ (x : ℕ). lines_fault (l.fuel - 1) (k + 1) x s) q e) ∙ l.same_answer;
          }
