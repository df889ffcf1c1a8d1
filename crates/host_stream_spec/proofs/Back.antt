-- The words and bytes of a sound stream stand for it, and those that keep the rules are of the
-- stream that they stand for. A flag above 1 breaks the rules. Assumes nothing.
use Prim.Native.Nat.{ℕ, ◌≤◌, ◌<◌}
use mathlib.Core.Path.{◌≡◌, refl, sym}
use mathlib.Core.Bool.{Bool, true, false, ◌&&◌}
use mathlib.Core.Logic.{⊎_elim, ◌⊎◌}
use native.Mathlib.Omega.{arith}
use lib.Dec.{eqb, leb}
use lib.ListN.{length, get_or}
use borrow.Author.Tests.{eq-eqb, ne_eqb, leb-true}
use Rattle.terms.specs.Cases.{two, same}
use Rattle.ledger_spec.proofs.Tests.{both}
use Rattle.stream_spec.specs.declared.Stream.{Stream}
use Rattle.stream_spec.specs.State.{StreamRules}
use Rattle.stream_spec.specs.Calls.{Call, answer_for}
use Rattle.stream_spec.proofs.Given.{given_13}
use Rattle.host_words.proofs.Back.{all_of, words_back, words_fore}
use Rattle.host_stream_spec.specs.Lent.{Lent, word_of, state_of, lent_of, waiting_in, stream_in}
use Rattle.host_stream_spec.specs.Calls.{call_told}

-- OF A SOUND STREAM

flag_back : (b : Bool) → eqb (word_of b) 1 ≡ b
flag_back true = refl
flag_back false = refl

waiting_back : (a b : Bool) (n : ℕ) → waiting_in (word_of a) (word_of b) n ≡ n
unfolding waiting_in
waiting_back true true n = refl
waiting_back true false n = refl
waiting_back false true n = refl
waiting_back false false n = refl

-- of a stream whose ledger's map has four words, as each that code can hold
pub lent_back : (x : Stream) → length x.tally.ledger.map.words ≡ 4 → StreamRules x → stream_in (lent_of x) ≡ x
unfolding stream_in state_of
lent_back x four r =
    rw (flag_back x.seeking, flag_back x.closed, waiting_back x.seeking x.closed x.len, words_back x.tally.ledger four r.ledger)

-- AND BACK: no other words and bytes stand for it

flag_fore : (n : ℕ) → n ≤ 1 → word_of (eqb n 1) ≡ n
flag_fore n h =
    ⊎_elim (λ (e : n ≡ 1). rw (eq-eqb n 1 e) (sym e)) (λ (ne : n ≡ 1 → ⊥). let z : 0 ≡ n = omega (arith, ne) in rw (ne_eqb n 1 ne) z) (same n 1)

-- flags that pass leave the count as it is
pub flags : (a b n : ℕ) → waiting_in a b n ≤ 8191 → (a ≤ 1) × ((b ≤ 1) × (waiting_in a b n ≡ n))
unfolding waiting_in
flags a b n h =
    ⊎_elim (λ (t : leb a 1 && leb b 1 ≡ true). let p = both (leb a 1) (leb b 1) t in (leb-true a 1 p.0, (leb-true b 1 p.1, rw t)))
    (λ (f : leb a 1 && leb b 1 ≡ false). absurd (omega (arith, rw f at h)))
    (two (leb a 1 && leb b 1))

pub flags_in : (k : Lent) → StreamRules (stream_in k) → waiting_in (get_or k.state 1 0) (get_or k.state 2 0) (get_or k.state 3 0) ≤ 8191
unfolding stream_in
flags_in k r = r.few

pub lent_fore : (k : Lent) → length k.state ≡ 6 → length k.ledger ≡ 9 → StreamRules (stream_in k) → lent_of (stream_in k) ≡ k
unfolding stream_in state_of
lent_fore k six nine r =
    let f = flags (get_or k.state 1 0) (get_or k.state 2 0) (get_or k.state 3 0) (flags_in k r) in
    rw (flag_fore (get_or k.state 1 0) f.0, flag_fore (get_or k.state 2 0) f.1.0, f.1.1, words_fore k.ledger nine r.ledger, ← all_of 6 0 k.state six)

-- A FLAG ABOVE 1 BREAKS THE RULES, and so each call is answered 13
pub flag_broken : (k : Lent) (call : Call) (room : ℕ) → (1 < get_or k.state 1 0) ⊎ (1 < get_or k.state 2 0) → (call_told k call room).number ≡ 13
unfolding answer_for
flag_broken k call room h =
    (given_13 (stream_in k) call room).1
    (λ (r : StreamRules (stream_in k)).
    let f = flags (get_or k.state 1 0) (get_or k.state 2 0) (get_or k.state 3 0) (flags_in k r) in
    ⊎_elim (λ (a : 1 < get_or k.state 1 0). omega (arith, f.0)) (λ (b : 1 < get_or k.state 2 0). omega (arith, f.1.0)) h)
