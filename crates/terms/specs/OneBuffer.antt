-- Document 01, "How the promises are judged", for a function that is lent a buffer: two contents of
-- it that one promise allows are equal, and a refusal leaves it as it was. `Post` is the promise
-- that the checker makes of a function's `ensures`.
use Rattle.std.specs.Prelude.{ℕ, ◌≡◌, List}
use contract.Lifetimes.{Lfts}
use borrow.Fn.Kinds.{ParamKind, ResultKind, Dens, res_t, ended_of, Out}
use denote.Triple.Clauses.{AtExit}

-- where the buffer is found when the function is called, and when it is done
abbrev pub Entry : (n : ℕ) (ps : List (ParamKind n)) → Type 0
Entry n ps = (κs : Lfts n) → Dens κs ps → List ℕ

abbrev pub Exit : (n : ℕ) (ps : List (ParamKind n)) (r : ResultKind n) → Type 0
Exit n ps r = (κs : Lfts n) → AtExit (ended_of n ps r) κs → List ℕ

abbrev pub OneBuffer : (n : ℕ) (ps : List (ParamKind n)) (r : ResultKind n) → Out n ps r → Exit n ps r → Type 0
OneBuffer n ps r post exit =
    (κs : Lfts n) (a : Dens κs ps) (x y : (res_t r κs).Denot) (s t : AtExit (ended_of n ps r) κs) → post κs a x s → post κs a y t → exit κs s ≡ exit κs t

-- `refused` says which answers are refusals
abbrev pub RefusedKeeps : (n : ℕ) (ps : List (ParamKind n)) (r : ResultKind n) → Out n ps r → ((κs : Lfts n) → (res_t r κs).Denot → Type 0) → Entry n ps → Exit n ps r → Type 0
RefusedKeeps n ps r post refused entry exit =
    (κs : Lfts n) (a : Dens κs ps) (x : (res_t r κs).Denot) (s : AtExit (ended_of n ps r) κs) → post κs a x s → refused κs x → exit κs s ≡ entry κs a
