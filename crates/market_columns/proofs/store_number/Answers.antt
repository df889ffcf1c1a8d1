-- `store_number`: spaces, sign, whole part and decimals, each laid behind the one before. Assumes
-- nothing.
use Prim.Native.Nat.{◌+◌, ◌-◌, ◌/◌, ◌≤◌, ◌^◌}
use native.Mathlib.Omega.{arith}
use mathlib.Core.Path.{◌≡◌, ap, ◌∙◌}
use mathlib.Core.List.{[]}
use Rattle.digits.specs.Digits.{width_of}
use Rattle.market_columns.specs.Numbers.{behind}
use Rattle.market_columns.specs.NumberLaws.{ten_pos, ten_most}
use Rattle.market_columns.proofs.NumberLaws.{d_few}
use Rattle.market_columns.specs.NumberPut.{fits_room, kept_spaces, long_3, stored}
use Rattle.market_columns.proofs.store_number.Goals as goal
use Rattle.market_columns.proofs.store_number.Goals.{After-behind}

-- the quotient, its width, and the room that a fitting amount has
h-is : (c : goal.After-behind) → c.args.amount.units / c.pow.result ≡ c.args.amount.units / 10 ^ c.args.form.decimals
h-is c = rw c.pow.ensures

n-is : (c : goal.After-behind) → c.width-n.result ≡ width_of (c.args.amount.units / 10 ^ c.args.form.decimals)
n-is c = c.width-n.ensures ∙ ap width_of (h-is c)

k-is : (c : goal.After-behind) → let w = c.args.form.width in let m = c.args.amount.sign in w - c.behind.result - c.width-n.result - m ≡ w - behind c.args.form.decimals - c.width-n.result - m
k-is c = rw c.behind.ensures

roomy : (c : goal.After-behind) → c.args.amount.sign + (c.width-n.result + c.behind.result) ≤ c.args.form.width
roomy c = rw (n-is c, c.behind.ensures) (fits_room _ _ _ _ c.requires.0)

pub overflow_cast-decimals : goal.overflow_cast-decimals
overflow_cast-decimals c = record { fits = omega (arith, d_few _ _ _ _ c.requires.0) }

pub pow-requires : goal.pow-requires
pow-requires c = ten_most _ (d_few _ _ _ _ c.requires.0)

pub nonzero_div-whole : goal.nonzero_div-whole
nonzero_div-whole c = rw c.pow.ensures (ten_pos _)

pub behind-requires : goal.behind-requires
behind-requires c = d_few _ _ _ _ c.requires.0

pub overflow_sub-k : goal.overflow_sub-k
overflow_sub-k c = omega (arith, roomy c)

pub overflow_sub-k-2 : goal.overflow_sub-k-2
overflow_sub-k-2 c = omega (arith, roomy c)

pub overflow_sub-k-3 : goal.overflow_sub-k-3
overflow_sub-k-3 c = omega (arith, roomy c)

pub put_sign-requires : goal.put_sign-requires
put_sign-requires c = let a = c.args in let r = roomy (goal.at.put_sign-requires c).After-behind in omega (arith, r, c.requires.1, kept_spaces a.at (a.form.width - c.behind.result - c.width-n.result - a.amount.sign) a.dst.now _ c.put_spaces.ensures (omega (arith, r, c.requires.1)))

pub overflow_add-from-3 : goal.overflow_add-from-3
overflow_add-from-3 c = record { fits = omega (arith, roomy (goal.at.overflow_add-from-3 c).After-behind, c.requires.1) }

pub put_decimals-requires : goal.put_decimals-requires
put_decimals-requires c = let q = (goal.at.put_decimals-requires c).After-behind in let a = c.args in (d_few _ _ _ _ c.requires.0, omega (arith, roomy q, c.behind.ensures, c.requires.1, long_3 a.at a.form.width a.form.decimals a.amount.sign a.amount.units _ c.width-n.result a.dst.now c.put_spaces.new.dst c.put_sign.new.dst c.put_digits.new.d [] c.requires.0 c.requires.1 (n-is q) (k-is q) c.put_spaces.ensures c.put_sign.ensures (rw (h-is q) at c.put_digits.ensures.1)))

pub returns : goal.returns
returns c = let q = (goal.at.returns c).After-behind in let a = c.args in stored a.at a.form.width a.form.decimals a.amount.sign a.amount.units _ c.width-n.result a.dst.now c.put_spaces.new.dst c.put_sign.new.dst c.put_digits.new.d c.put_decimals.new.dst c.requires.0 c.requires.1 (n-is q) (k-is q) c.put_spaces.ensures c.put_sign.ensures (rw (h-is q) at c.put_digits.ensures.1) c.put_decimals.ensures
