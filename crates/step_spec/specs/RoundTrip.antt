-- What is written is read, and what is read is written.
use Rattle.std.specs.Prelude.{ℕ, ◌+◌, ◌≡◌, true, length, get_or}
use Rattle.std.proofs.Math.Path.{refl}
use Rattle.std.proofs.Common.{eqb-true}
use mathlib.Core.List.{List, [], ◌∷◌, ◌++◌, append_assoc}
use Rattle.digits.specs.Digits.{shown_of}
use Rattle.step_spec.specs.Pieces.{SOH, closed, closed_by}
use Rattle.step_spec.specs.Frame.{begin, length_tag, type_tag}
use Rattle.step_spec.specs.Written.{plain_of}

-- THE LAST BYTE

last_of : (x : ℕ) (xs : List ℕ) → closed_by x xs ≡ true → get_or (x ∷ xs) (length xs) 0 ≡ SOH
unfolding closed_by
last_of x [] h = eqb-true x SOH h
last_of x (y ∷ ys) h = last_of y ys h

pub last_soh : (s : List ℕ) → closed s ≡ true → get_or (SOH ∷ s) (length s) 0 ≡ SOH
unfolding closed
last_soh [] h = refl
last_soh (x ∷ xs) h = last_of x xs h

-- WHAT IS WRITTEN

-- a frame's bytes up to the fields, then the fields, then anything
unfoldable pub text_of : ℕ → List ℕ → List ℕ → List ℕ
text_of type fs r = begin ++ (length_tag ++ (shown_of (length fs + 5) ++ (SOH ∷ (type_tag ++ (type ∷ SOH ∷ (fs ++ r))))))

pub text_is : (type : ℕ) (fs r : List ℕ) → plain_of type fs ++ r ≡ text_of type fs r
unfolding plain_of text_of
text_is type fs r = simp append_assoc
