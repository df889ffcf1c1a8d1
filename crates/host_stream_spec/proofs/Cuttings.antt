-- A call through the host on the words and bytes of a sound stream is the stream's call; and CR 1
-- holds of every row of such calls. Assumes nothing.
use Prim.Native.Nat.{ℕ, ◌+◌}
use mathlib.Core.Path.{◌≡◌, refl, sym, ap, ◌∙◌}
use mathlib.Core.Bool.{Bool, true, false}
use mathlib.Core.Logic.{⊎_elim}
use mathlib.Core.List.{List, [], ◌∷◌}
use native.Mathlib.Omega.{arith}
use lib.Dec.{eqb}
use lib.ListN.{length}
use Rattle.terms.specs.Cases.{two}
use Rattle.octets.specs.Octets.{Bytes}
use Rattle.tick_map.specs.Bits.{map_of}
use Rattle.ledger.specs.State.{ledger_of}
use Rattle.walk_laws.specs.Walk.{Sight}
use Rattle.walk_laws.specs.Account.{account_of}
use Rattle.walk_laws.specs.Cuts as Cuts
use Rattle.reading.specs.declared.Seen.{Seen}
use Rattle.walk_spec.specs.Walk.{walk_of}
use Rattle.stream_spec.specs.declared.Stream.{Stream}
use Rattle.stream_spec.specs.declared.Tally.{Tally}
use Rattle.stream_spec.specs.Tally.{tally_with, record_at, tally_after}
use Rattle.stream_spec.specs.State.{meant_by, value_of, opened, StreamRules}
use Rattle.stream_spec.specs.Calls.{Call, Feed, cut_of, closes, share, behind_of, answer_for, next_for, leaves_for, number_to, answer_to, next_of, leaves}
use Rattle.stream_spec.specs.Trace.{Asked, Calls, none, ◌▸◌, after, accepted, given, taken, ended}
use Rattle.stream_spec.specs.Words.{number_told, Closed}
use Rattle.stream_spec.proofs.Rules.{rules_facts}
use Rattle.stream_spec.proofs.Cuttings.{every_cutting, closing_call, bytes_more}
use Rattle.host_words.specs.Told.{Tells, told_by}
use Rattle.host_words.specs.Words.{words_of}
use Rattle.host_stream_spec.specs.Lent.{Lent, word_of, state_of, lent_of, stream_in}
use Rattle.host_stream_spec.specs.Calls.{numbers, call_told, kept_beside, lent_after, Called}
use Rattle.host_stream_spec.specs.Rows.{Followed, opening, one_more, Ended, Gives, HostFollows}
use Rattle.host_stream_spec.proofs.Back.{lent_back}

-- ======== One call

-- on the words and bytes of a stream x that they stand for: the stream's own call
left_is : (x : Stream) (call : Call) (room : ℕ) → kept_beside (answer_to x call room).number (next_of x call room) (lent_of x) ≡ lent_of (next_of x call room)
unfolding kept_beside answer_for next_for
left_is x call room =
    ⊎_elim (λ (t : eqb (number_to x call room) 0 ≡ true). rw t) (λ (f : eqb (number_to x call room) 0 ≡ false). rw f) (two (eqb (number_to x call room) 0))

pub record IsCall (x : Stream) (call : Call) (d : List ℕ) (n : ℕ) (k' : Lent) (row d' : List ℕ) : Type 0 where
  pub number : n ≡ number_to x call (length d)
  pub left : k' ≡ lent_of (next_of x call (length d))
  pub written : d' ≡ leaves x call d
  pub told : n ≡ 0 → row ≡ length (share x call) ∷ numbers (next_of x call (length d))

told_done : (x : Stream) (call : Call) (room : ℕ) (was row : List ℕ) (n : ℕ) → Tells (call_told (lent_of x) call room) was n row → stream_in (lent_of x) ≡ x → n ≡ 0
    → row ≡ length (share x call) ∷ numbers (next_of x call room)
unfolding told_by answer_for
told_done x call room was row n t e z =
    let m : number_to (stream_in (lent_of x)) call room ≡ 0 = sym t.answered ∙ z in
    t.told ∙ rw (e, rw e at m)

pub is_call : (x : Stream) → length x.tally.ledger.map.words ≡ 4 → StreamRules x → (call : Call) (was d : List ℕ) (n : ℕ) (k' : Lent) (row d' : List ℕ)
    → Called (lent_of x) call was d n k' row d' → IsCall x call d n k' row d'
unfolding lent_after answer_for
is_call x four r call was d n k' row d' p =
    let e = lent_back x four r in
    record {
      number = p.0.answered ∙ ap (λ (y : Stream). number_to y call (length d)) e;
      left = p.1.0 ∙ ap (λ (y : Stream). kept_beside (answer_to y call (length d)).number (next_of y call (length d)) (lent_of x)) e ∙ left_is x call (length d);
      written = p.1.1 ∙ ap (λ (y : Stream). leaves y call d) e;
      told = told_done x call (length d) was row n p.0 e;
    }

-- ======== A row of calls

-- the ledger's map has four words
abbrev Four : Tally → Type 0
Four t = length t.ledger.map.words ≡ 4

four_all : (t : Tally) (xs : List (Sight Seen)) → Four t → Four (account_of record_at tally_after t xs).ledger
unfolding account_of tally_after tally_with ledger_of map_of
four_all t [] f = f
four_all t (x ∷ xs) f = four_all (tally_after t x) xs refl

four_pushed : (x : Stream) (closing : Bool) (cut : List ℕ) → Four x.tally → Four (behind_of x closing cut).tally
unfolding behind_of meant_by Cuts.feed_of value_of
four_pushed x closing cut f = four_all x.tally _ f

four_next : (x : Stream) (call : Call) (room : ℕ) → Four x.tally → Four (next_of x call room).tally
unfolding next_for
four_next x call room f =
    ⊎_elim (λ (t : eqb (number_to x call room) 0 ≡ true). rw t (four_pushed x (closes call) (cut_of call) f)) (λ (g : eqb (number_to x call room) 0 ≡ false). rw g f) (two (eqb (number_to x call room) 0))

four : (calls : Calls) → Four (after calls).tally
unfolding opened value_of ledger_of map_of
four none = refl
four (calls ▸ a) = four_next (after calls) a.call a.room (four calls)

rules : (calls : Calls) → StreamRules (after calls)
rules calls = rules_facts (after calls) (every_cutting calls).rules

-- what is lent is the stream after the calls
pub followed_is : {calls : Calls} {k : Lent} → Followed calls k → k ≡ lent_of (after calls)
followed_is (opening e) = e
followed_is (one_more {calls} {k} call was d n k' row d' f b p) =
    (is_call (after calls) (four calls) (rules calls) call was d n k' row d' (rw (followed_is f) at p)).left

-- what is taken are bytes
pub followed_bytes : {calls : Calls} {k : Lent} → Followed calls k → Bytes (taken calls)
unfolding taken
followed_bytes (opening e) = λ i. omega arith
followed_bytes (one_more {calls} {k} call was d n k' row d' f b p) = bytes_more (taken calls) (cut_of call) (accepted calls (record { call = call; room = length d })) (followed_bytes f) b

-- so is the cut of a call that is refused: no row of calls has 300 for a byte
last_bytes : {calls : Calls} {a : Asked} {k : Lent} → Followed (calls ▸ a) k → Bytes (cut_of a.call)
last_bytes (one_more call was d n k' row d' f b p) = b

pub no_such_byte : {calls : Calls} {room : ℕ} {k : Lent} → Followed (calls ▸ record { call = Feed (300 ∷ []); room = room }) k → ⊥
no_such_byte f = omega (arith, last_bytes f 0)

ended_words : (s : List ℕ) (x : Stream) → Closed s x → x.place + x.len ≡ length s → x.closed ≡ true → Ended s (lent_of x)
unfolding state_of
ended_words s x c p e =
    record {
      place = omega (arith, p, c.none);
      closed = ap word_of e;
      none = c.none;
      frames = c.frames;
      refused = c.refused;
      ledger = ap words_of c.ledger;
      blank = c.blank;
    }

module _ {calls : Calls} {k : Lent} (f : Followed calls k) where
  rules_in : StreamRules (stream_in k)
  rules_in = rw (followed_is f, lent_back (after calls) (four calls) (rules calls)) (rules calls)

  closing_in : ended calls ≡ true → (given calls ≡ (walk_of (taken calls)).records) × Ended (taken calls) k
  closing_in e =
      let c = closing_call calls e in
      (c.0, rw (followed_is f) (ended_words (taken calls) (after calls) c.1 (every_cutting calls).places ((every_cutting calls).closed ∙ e)))

  module _ (call : Call) (was d : List ℕ) (n : ℕ) (k' : Lent) (row d' : List ℕ) (p : Called k call was d n k' row d') where
    one : IsCall (after calls) call d n k' row d'
    one = is_call (after calls) (four calls) (rules calls) call was d n k' row d' (rw (followed_is f) at p)

    number_in : n ≡ number_told calls call (length d)
    number_in = one.number ∙ (every_cutting calls).numbers call (length d)

    gives_in : n ≡ 0 → Gives calls call d (share (after calls) call) k' row d'
    unfolding leaves_for given state_of
    gives_in z =
        let m : number_to (after calls) call (length d) ≡ 0 = sym one.number ∙ z in
        record {
          written = one.written ∙ rw m;
          makes_up = sym (rw m) ∙ (every_cutting (calls ▸ record { call = call; room = length d })).records;
          told = one.told z ∙ rw one.left;
        }

-- CR 1, OF EVERY ROW OF CALLS THROUGH THE HOST
pub every_host_cutting : {calls : Calls} {k : Lent} → Followed calls k → HostFollows calls k
every_host_cutting f = record { stands = followed_is f; rules = rules_in f; number = number_in f; gives = gives_in f; closing = closing_in f }
