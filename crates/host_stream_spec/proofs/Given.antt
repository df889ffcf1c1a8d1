-- A call is answered 13 exactly where the words and bytes lent break the rules, word by word
-- (`LentRules`); and of a call that scrubs, when each number is given. Assumes nothing.
use Prim.Native.Nat.{ℕ}
use mathlib.Core.Path.{◌≡◌, sym, ◌∙◌}
use mathlib.Core.Bool.{false}
use mathlib.Core.Logic.{◌↔◌, ⊎_elim, inl, inr}
use mathlib.Core.List.{List}
use native.Mathlib.Omega.{arith}
use lib.Dec.{eqb}
use lib.ListN.{length}
use borrow.Author.Tests.{le-leb, eqb-false, ne_eqb}
use Rattle.reading.specs.Seen.{seen_of, seen_number}
use Rattle.stream_spec.specs.State.{head_of, StreamRules}
use Rattle.stream_spec.specs.Calls.{Call, answer_for}
use Rattle.stream_spec.specs.Given.{Given19, Given29}
use Rattle.stream_spec.proofs.Given.{given_13}
use Rattle.stream_clean_spec.specs.Calls as cleaning
use Rattle.stream_clean_spec.specs.Given as cleaning-given
use Rattle.stream_clean_spec.proofs.Given as cleaning-numbers
use Rattle.host_stream_spec.specs.Lent.{Lent, waiting_in, stream_in}
use Rattle.host_stream_spec.specs.Calls.{Called}
use Rattle.host_stream_spec.specs.Rules.{word, LentRules}
use Rattle.host_stream_spec.specs.Washes.{WashCalled}
use Rattle.host_stream_spec.proofs.Back.{flags, flags_in}

module _ (k : Lent) where
  stream_lent : StreamRules (stream_in k) → LentRules k
  unfolding stream_in
  stream_lent r =
      let f = flags (word k 1) (word k 2) (word k 3) (flags_in k r) in
      let n = f.1.1 in
      record {
        seeking_flag = f.0;
        closed_flag = f.1.0;
        few = rw n at r.few;
        blank = rw n at r.blank;
        counts = r.counts;
        channel = r.channel;
        ledger = r.ledger;
        places = rw n at r.places;
        rests =
            ⊎_elim (λ (z : waiting_in (word k 1) (word k 2) (word k 3) ≡ 0). inl (sym n ∙ z))
            (λ (p : (eqb (word k 2) 1 ≡ false) × (seen_number (seen_of (head_of (waiting_in (word k 1) (word k 2) (word k 3)) k.kept)) ≡ 1)).
            let open_still : word k 2 ≡ 0 = omega (arith, f.1.0, eqb-false (word k 2) 1 p.0) in inr (open_still, rw n at p.1))
            r.rests;
      }

  lent_stream : LentRules k → StreamRules (stream_in k)
  unfolding stream_in waiting_in
  lent_stream l =
      let a = le-leb (word k 1) 1 l.seeking_flag in
      let b = le-leb (word k 2) 1 l.closed_flag in
      record {
        few = rw (a, b) l.few;
        blank = rw (a, b) l.blank;
        counts = l.counts;
        channel = l.channel;
        ledger = l.ledger;
        places = rw (a, b) l.places;
        rests =
            ⊎_elim (λ (z : word k 3 ≡ 0). inl (rw (a, b) z))
            (λ (p : (word k 2 ≡ 0) × (seen_number (seen_of (head_of (word k 3) k.kept)) ≡ 1)).
            inr (ne_eqb (word k 2) 1 (λ (q : word k 2 ≡ 1). omega (arith, p.0)), rw (a, b) p.1))
            l.rests;
      }

-- of any call, and of what it may answer by its promise
pub lent_given_13 : (k : Lent) (call : Call) (was d : List ℕ) (n : ℕ) (k' : Lent) (row d' : List ℕ) → Called k call was d n k' row d'
    → (n ≡ 13) ↔ (LentRules k → ⊥)
unfolding answer_for
lent_given_13 k call was d n k' row d' p =
    let g = given_13 (stream_in k) call (length d) in (
      λ e l. g.0 (sym p.0.answered ∙ e) (lent_stream k l),
      λ b. p.0.answered ∙ g.1 (λ r. b (stream_lent k r)),
    )

-- A CALL THAT SCRUBS: each number exactly when it is given, in the order of the checks
pub record WashGiven (k : Lent) (call : Call) (room n : ℕ) : Type 0 where
  pub given_13 : (n ≡ 13) ↔ (LentRules k → ⊥)
  pub given_19 : (n ≡ 19) ↔ Given19 (stream_in k)
  pub given_29 : (n ≡ 29) ↔ Given29 (stream_in k) call
  pub given_8 : (n ≡ 8) ↔ cleaning-given.Given8 (stream_in k) call room
  pub given_0 : (n ≡ 0) ↔ cleaning-given.Given0 (stream_in k) call room

pub wash_given : (k : Lent) (call : Call) (was d : List ℕ) (n : ℕ) (k' : Lent) (row d' : List ℕ) → WashCalled k call was d n k' row d' → WashGiven k call (length d) n
unfolding cleaning.answer_for
wash_given k call was d n k' row d' p =
    let x = stream_in k in
    let room = length d in
    let g = cleaning-numbers.given_13 x call room in
    record {
      given_13 = (λ e l. g.0 (sym p.0.answered ∙ e) (lent_stream k l), λ b. p.0.answered ∙ g.1 (λ r. b (stream_lent k r)));
      given_19 = rw p.0.answered (cleaning-numbers.given_19 x call room);
      given_29 = rw p.0.answered (cleaning-numbers.given_29 x call room);
      given_8 = rw p.0.answered (cleaning-numbers.given_8 x call room);
      given_0 = rw p.0.answered (cleaning-numbers.given_0 x call room);
    }
