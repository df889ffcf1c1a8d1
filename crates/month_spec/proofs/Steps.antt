-- One more accepted frame: what it adds to the calls and to each figure of a channel. A frame of
-- another channel adds nothing. Assumes nothing.
use Prim.Native.Nat.{ℕ, ◌+◌, ◌≤◌}
use mathlib.Core.Path.{◌≡◌, refl, ap, ◌∙◌}
use mathlib.Core.Bool.{Bool, true, false, ◌&&◌}
use mathlib.Core.List.{List, [], ◌∷◌, ◌++◌}
use native.Mathlib.Omega.{arith}
use lib.Dec.{eqb}
use lib.ListN.{length}
use borrow.Author.Tests.{ne_eqb}
use Rattle.terms.specs.Paper.{Paper, pick, one_number}
use Rattle.terms.specs.Cases.{and_false}
use Rattle.rules.specs.Table.{kind_of}
use Rattle.rules.specs.declared.Kind.{Kind}
use Rattle.rules.specs.declared.Kind.TheVariants.{S001, S002, S003, P001, P002, M101, M102, M201, Unknown}
use Rattle.ledger_spec.specs.State.{Book}
use Rattle.ledger_spec.specs.Calls.{Call, Tick, Announce, answer_to, next_of, number_to}
use Rattle.ledger_spec.specs.Trace.{Calls, after, trace}
use Rattle.ledger_spec.specs.Words.{answered, one, ticks}
use Rattle.ledger_spec.specs.Answers.{Elsewhere}
use Rattle.ledger_spec.proofs.Answers.{answers, keeps}
use Rattle.reading.specs.declared.Seen.{Seen}
use Rattle.reading.specs.Seen.{seen_number}
use Rattle.walk_spec.specs.Offers as offers
use Rattle.walk_spec.specs.Offers.{calls_for, calls_by, offer_of}
use Rattle.walk_spec.specs.OfferLaws.{calls_of_lem}
use Rattle.walk_spec.specs.Walk.{added}
use Rattle.walk_spec.specs.CallLaws.{is_tick}
use Rattle.clean_spec.specs.Figures.{calls_made}
use Rattle.month_spec.specs.Figures.{ticks_answered, is_resend, resends, resent}

-- THE CALLS

pub made_more : (calls : Calls) (xs : List Seen) (x : Seen) → calls_made calls (xs ++ (x ∷ [])) ≡ added (calls_made calls xs) (calls_by x)
unfolding calls_made
made_more calls [] x = refl
made_more calls (y ∷ xs) x = made_more (added calls (calls_by y)) xs x

-- THE TICKS

pick_one : (b : Bool) → pick b 1 0 ≡ one b
pick_one true = refl
pick_one false = refl

none_of : (b : Bool) → pick {A = ℕ} b 0 0 ≡ 0
none_of true = refl
none_of false = refl

module _ (channel n : ℕ) (calls : Calls) where
  abbrev before : ℕ
  before = ticks_answered n (trace channel calls)

  by_type : (k : Kind) (c t : ℕ) → ticks_answered n (trace channel (added calls (calls_for k c t)))
      ≡ one (is_tick k && eqb (offers.offering (after channel calls) 0 (calls_for k c t)).number n) + before
  unfolding trace ticks_answered ticks offers.offering answer_to
  by_type S001 c t = omega arith
  by_type S002 c t = omega arith
  by_type S003 c t = omega arith
  by_type P001 c t = ap (λ (x : ℕ). x + before) (none_of (eqb (number_to (after channel calls) (Announce c t)) n))
  by_type P002 c t = omega arith
  by_type M101 c t = omega arith
  by_type M102 c t = omega arith
  by_type M201 c t = ap (λ (x : ℕ). x + before) (pick_one (eqb (number_to (after channel calls) (Tick c t)) n))
  by_type Unknown c t = omega arith

  -- one more where it is a tick that the ledger answers so
  pub ticks_more : (x : Seen) → seen_number x ≡ 0 → ticks_answered n (trace channel (added calls (calls_by x)))
      ≡ one (is_tick (kind_of x.msg_type) && eqb (offer_of (after channel calls) x).number n) + before
  unfolding offer_of
  ticks_more x z = rw (calls_of_lem x (kind_of x.msg_type) z refl, z) (by_type (kind_of x.msg_type) x.channel.0 x.tick.0)

-- THE RESENDS

pub resent_more : (channel status : ℕ) (xs : List Seen) (x : Seen) → resent channel status (xs ++ (x ∷ [])) ≡ one (resends channel status x) + resent channel status xs
unfolding resent
resent_more channel status [] x = refl
resent_more channel status (y ∷ xs) x = omega (arith, resent_more channel status xs x)

-- ANOTHER CHANNEL'S FRAME
module _ (channel : ℕ) (small : channel ≤ 9999) (calls : Calls) where
  abbrev here : Book
  here = after channel calls

  -- a call that names another channel is answered 18, and the ledger stays
  number_18 : (call : Call) → Elsewhere channel call → number_to here call ≡ 18
  unfolding answer_to
  number_18 call e = one_number ((answers channel small calls).channel_18 call e)

  stays : (call : Call) → Elsewhere channel call → next_of here call ≡ here
  stays call e =
      let is = (answers channel small calls).channel_18 call e in
      (keeps here call).same (ap (λ (p : Paper). answered p 0) is) (ap (λ (p : Paper). answered p 12) is)

  book_stays : (k : Kind) (c t : ℕ) → (c ≡ channel → ⊥) → after channel (added calls (calls_for k c t)) ≡ here
  book_stays S001 c t ne = refl
  book_stays S002 c t ne = refl
  book_stays S003 c t ne = refl
  book_stays P001 c t ne = stays (Announce c t) ne
  book_stays P002 c t ne = refl
  book_stays M101 c t ne = refl
  book_stays M102 c t ne = refl
  book_stays M201 c t ne = stays (Tick c t) ne
  book_stays Unknown c t ne = refl

  not_counted : (n : ℕ) → (eqb 18 n ≡ false) → (k : Kind) (c t : ℕ) → (c ≡ channel → ⊥) → is_tick k && eqb (offers.offering here 0 (calls_for k c t)).number n ≡ false
  unfolding offers.offering
  not_counted n d S001 c t ne = refl
  not_counted n d S002 c t ne = refl
  not_counted n d S003 c t ne = refl
  not_counted n d P001 c t ne = refl
  not_counted n d P002 c t ne = refl
  not_counted n d M101 c t ne = refl
  not_counted n d M102 c t ne = refl
  not_counted n d M201 c t ne = ap (λ (m : ℕ). eqb m n) (number_18 (Tick c t) ne) ∙ d
  not_counted n d Unknown c t ne = refl

  module _ (x : Seen) (z : seen_number x ≡ 0) (ne : x.channel.0 ≡ channel → ⊥) where
    pub other_book : after channel (added calls (calls_by x)) ≡ here
    other_book = rw (calls_of_lem x (kind_of x.msg_type) z refl) (book_stays (kind_of x.msg_type) x.channel.0 x.tick.0 ne)

    pub other_ticks : (n : ℕ) → eqb 18 n ≡ false → ticks_answered n (trace channel (added calls (calls_by x))) ≡ ticks_answered n (trace channel calls)
    other_ticks n d =
        let k = kind_of x.msg_type in
        let e = by_type channel n calls k x.channel.0 x.tick.0 in
        let f = ap one (not_counted n d k x.channel.0 x.tick.0 ne) in
        rw (calls_of_lem x k z refl) (omega arith)

  pub other_resends : (x : Seen) → (x.channel.0 ≡ channel → ⊥) → (status : ℕ) → resends channel status x ≡ false
  other_resends x ne status = rw (ne_eqb x.channel.0 channel ne) (and_false (is_resend (kind_of x.msg_type)))

-- HOW LARGE: one frame adds at most 1
pub one_few : (b : Bool) → one b ≤ 1
one_few true = omega arith
one_few false = omega arith

pub resent_few : (channel status : ℕ) (xs : List Seen) → resent channel status xs ≤ length xs
unfolding resent
resent_few channel status [] = omega arith
resent_few channel status (x ∷ xs) = omega (arith, one_few (resends channel status x), resent_few channel status xs)
