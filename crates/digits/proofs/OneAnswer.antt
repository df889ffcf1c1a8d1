-- For each public function: two answers that its promise allows are equal; where it is lent a
-- buffer, so are two later contents of it, and a refusal leaves it as it was. Assumes nothing.
use mathlib.Core.Path.{◌≡◌, sym, ◌∙◌}
use Rattle.terms.specs.OneAnswer.{OneAnswer}
use Rattle.terms.specs.OneBuffer.{OneBuffer, RefusedKeeps}
use Rattle.terms.specs.Paper.{Paper}
use Rattle.std.specs.Prelude.{ℕ, Result, Option}
use Rattle.terms.specs.declared.Refusal.{Refusal}
use Rattle.octets.specs.Papers.{Refuses, written_paper, written_one, refused_kept}
use Rattle.digits.specs.Digits.{decimal_paper, decimal_one}
use Rattle.digits.specs.Laws.{length_decimal}
use Rattle.digits.proofs.put_digits.Reads as put-digits
use Rattle.digits.proofs.put_digits.Kinds as put-digits-kinds
use Rattle.digits.proofs.put_decimal.Reads as put-decimal
use Rattle.digits.proofs.put_decimal.Kinds as put-decimal-kinds
use Rattle.digits.proofs.width.Reads as width
use Rattle.digits.proofs.width.Kinds as width-kinds
use Rattle.digits.proofs.digits_at.Reads as digits-at
use Rattle.digits.proofs.digits_at.Kinds as digits-at-kinds
use Rattle.digits.proofs.decimal_at.Reads as decimal-at
use Rattle.digits.proofs.decimal_at.Kinds as decimal-at-kinds

-- TEXT LAID

one_written : (paper : Paper) (x y : Result ℕ Refusal) → written_paper x ≡ paper → written_paper y ≡ paper → x ≡ y
one_written paper x y p q = written_one x y (p ∙ sym q)

pub put_digits_one_answer : OneAnswer _ put-digits-kinds.ps put-digits-kinds.r put-digits.Post
put_digits_one_answer κs a x y s t p q = one_written _ x y p.0 q.0

pub put_digits_one_buffer : OneBuffer _ put-digits-kinds.ps put-digits-kinds.r put-digits.Post (λ κs s. s.0.now)
put_digits_one_buffer κs a x y s t p q = p.1 ∙ sym q.1

pub put_digits_refused_keeps : RefusedKeeps _ put-digits-kinds.ps put-digits-kinds.r put-digits.Post (λ κs x. Refuses x) (λ κs a. a.0.now) (λ κs s. s.0.now)
put_digits_refused_keeps κs a x s p w = refused_kept _ _ _ _ _ x (length_decimal _ _) w p.0 p.1

pub put_decimal_one_answer : OneAnswer _ put-decimal-kinds.ps put-decimal-kinds.r put-decimal.Post
put_decimal_one_answer κs a x y s t p q = one_written _ x y p.0 q.0

pub put_decimal_one_buffer : OneBuffer _ put-decimal-kinds.ps put-decimal-kinds.r put-decimal.Post (λ κs s. s.0.now)
put_decimal_one_buffer κs a x y s t p q = p.1 ∙ sym q.1

pub put_decimal_refused_keeps : RefusedKeeps _ put-decimal-kinds.ps put-decimal-kinds.r put-decimal.Post (λ κs x. Refuses x) (λ κs a. a.0.now) (λ κs s. s.0.now)
put_decimal_refused_keeps κs a x s p w = refused_kept _ _ _ _ _ x (length_decimal _ _) w p.0 p.1

-- HOW MANY DIGITS

pub width_one_answer : OneAnswer _ width-kinds.ps width-kinds.r width.Post
width_one_answer κs a x y s t p q = p ∙ sym q

-- TEXT READ

one_decimal : (paper : Paper) (x y : Option ℕ) → decimal_paper x ≡ paper → decimal_paper y ≡ paper → x ≡ y
one_decimal paper x y p q = decimal_one x y (p ∙ sym q)

pub digits_at_one_answer : OneAnswer _ digits-at-kinds.ps digits-at-kinds.r digits-at.Post
digits_at_one_answer κs a x y s t p q = one_decimal _ x y p q

pub decimal_at_one_answer : OneAnswer _ decimal-at-kinds.ps decimal-at-kinds.r decimal-at.Post
decimal_at_one_answer κs a x y s t p q = one_decimal _ x y p q
