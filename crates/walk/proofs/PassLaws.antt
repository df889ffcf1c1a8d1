-- The walk's loop: behind what is done, what is left at a place gives what the whole walk gives.
-- Assumes nothing.
use Prim.Native.Nat.{ℕ, ◌+◌, ◌≤◌}
use mathlib.Core.Path.{◌≡◌, refl, sym, ap, ◌∙◌}
use mathlib.Core.Bool.{Bool, true, false}
use mathlib.Core.List.{List, [], ◌∷◌}
use native.Mathlib.Omega.{arith}
use lib.ListN.{length, drop}
use Rattle.terms.specs.Counters.{tick_of}
use lib.Dec.{eqb}
use Rattle.terms.specs.Paper.{pick}
use Rattle.rules.specs.Table.{kind_of}
use Rattle.rules.specs.declared.Kind.{Kind}
use Rattle.rules.specs.declared.Kind.TheVariants.{S001, S002, S003, P001, P002, M101, M102, M201, Unknown}
use Rattle.ledger_spec.specs.State.{Book, nothing}
use Rattle.ledger.specs.State.{book_of, ledger_of}
use Rattle.ledger_spec.specs.Calls.{Call, Tick, Announce, number_to, next_of, done, taken, raised, fresh}
use Rattle.ledger_spec.specs.Trace.{Calls, none, after}
use Rattle.ledger.specs.declared.Ledger.{Ledger}
use Rattle.ledger_spec.proofs.Agree.{agrees}
use Rattle.ledger.proofs.Seam.{book_of_lem}
use Rattle.record.specs.declared.Record.{Record}
use Rattle.walk_laws.specs.Account as Account
use Rattle.walk_laws.specs.Account.{Account, first, account_of}
use Rattle.walk_laws.specs.Literal.{from_of, sight_at, from_end}
use Rattle.reading.specs.declared.Seen.{Seen}
use Rattle.walk.specs.declared.Passed.{Passed}
use Rattle.reading.specs.Seen.{seen_of, seen_number, says_of}
use Rattle.walk_spec.specs.Offers.{calls_for, calls_by, offering, offer_of}
use Rattle.walk_spec.specs.CallLaws.{book_added}
use Rattle.walk_spec.specs.Onward.{Goes, frames_next}
use Rattle.walk_spec.specs.Walk.{made_of, record_by, book_by, walk_of, sights, added, accepts, frames_of}
use Rattle.walk_spec.specs.Tables.{noted_at, written_from, noted_length}
use Rattle.walk_spec.specs.Counts.{accepts_one}
use Rattle.walk.specs.Passes.{carried_of, passed_of}

-- the walk from a place on, with the book b
abbrev left_of : Book → ℕ → List ℕ → Account Book Record
left_of b p s = account_of record_by book_by b (from_of seen_of says_of p s)

abbrev book_after : Calls → Book
book_after calls = after 100 calls

-- A READING LEAVES THE CHANNEL AND WHAT IS PENDING

abbrev Kept : Book → Book → Type 0
Kept a b = (a.pending ≡ b.pending) × (a.channel ≡ b.channel)

pick_kept : (t u : Bool) (x y z b : Book) → Kept x b → Kept y b → Kept z b → Kept (pick t x (pick u y z)) b
pick_kept true u x y z b p q r = p
pick_kept false true x y z b p q r = q
pick_kept false false x y z b p q r = r

next_kept : (b : Book) (call : Call) → Kept (done b call) b → Kept (next_of b call) b
unfolding next_of raised
next_kept b call h = pick_kept (eqb (number_to b call) 0) (eqb (number_to b call) 12) _ _ b b h (refl, refl) (refl, refl)

calls_kept : (b : Book) (m : ℕ) (k : Kind) (channel n : ℕ) → Kept (offering b m (calls_for k channel n)).book b
unfolding offering done taken raised
calls_kept b m S001 channel n = (refl, refl)
calls_kept b m S002 channel n = (refl, refl)
calls_kept b m S003 channel n = (refl, refl)
calls_kept b m P001 channel n = next_kept b (Announce channel n) (refl, refl)
calls_kept b m P002 channel n = (refl, refl)
calls_kept b m M101 channel n = (refl, refl)
calls_kept b m M102 channel n = (refl, refl)
calls_kept b m M201 channel n = next_kept b (Tick channel n) (refl, refl)
calls_kept b m Unknown channel n = (refl, refl)

either_kept : (t : Bool) (b : Book) (m : ℕ) (k : Kind) (channel n : ℕ) → Kept (offering b m (pick t (calls_for k channel n) [])).book b
unfolding offering
either_kept true b m k channel n = calls_kept b m k channel n
either_kept false b m k channel n = (refl, refl)

offer_kept : (b : Book) (x : Seen) → Kept (offer_of b x).book b
unfolding offer_of calls_by
offer_kept b x = either_kept (eqb (seen_number x) 0) b (seen_number x) (kind_of x.msg_type) x.channel.0 x.tick.0

-- so the ledger is what the loop carries of it
carried_book : (b : Book) → b.channel ≡ 100 → b.pending ≡ nothing → ledger_of b ≡ carried_of (ledger_of b).floor (ledger_of b).top (ledger_of b).map
unfolding ledger_of
carried_book b c q = rw (c, q)

carried_is : (l : Ledger) (b : Book) → l ≡ ledger_of b → b.channel ≡ 100 → b.pending ≡ nothing → l ≡ carried_of l.floor l.top l.map
carried_is l b e c q = rw e (carried_book b c q)

-- The invariant: the ledger is that of some calls; records, frames and ledger of what is left,
-- behind those so far, are those of the whole.
pub record Left (s out₀ out : List ℕ) (p records frames : ℕ) (l : Ledger) : Type 0 where
  pub inside : p ≤ length s
  pub few : records ≤ p
  pub frames_few : frames ≤ records
  pub room : length out ≡ length out₀
  pub calls : Calls
  pub ledger_is : l ≡ ledger_of (book_after calls)
  pub quiet : (book_after calls).pending ≡ nothing
  pub ours : (book_after calls).channel ≡ 100
  pub written : written_from records (left_of (book_after calls) p s).records out ≡ written_from 0 (walk_of s).records out₀
  pub counted : records + length (left_of (book_after calls) p s).records ≡ length (walk_of s).records
  pub read : frames + frames_of (from_of seen_of says_of p s) ≡ frames_of (sights s)
  pub ends : (left_of (book_after calls) p s).ledger ≡ (walk_of s).ledger

pub left_start : (s out : List ℕ) (l : Ledger) → l ≡ ledger_of (fresh 100) → Left s out out 0 0 0 (carried_of l.floor l.top l.map)
unfolding Account.walk_of fresh
left_start s out l e =
    record {
      inside = omega arith;
      few = omega arith;
      frames_few = omega arith;
      room = refl;
      calls = none;
      ledger_is = sym (carried_is l (fresh 100) e refl refl) ∙ e;
      quiet = refl;
      ours = refl;
      written = refl;
      counted = omega arith;
      read = omega arith;
      ends = refl;
    }

-- one turn of the loop, from the book after some calls
module _ (s : List ℕ) (p r : ℕ) (calls : Calls) (l : Ledger) (x : Seen) (n : ℕ) (o : Ledger) (m : Record)
    (le : l ≡ ledger_of (book_after calls)) (xe : x ≡ seen_of (drop p s))
    (ae : n ≡ (offer_of (book_of l) x).number) (oe : o ≡ ledger_of (offer_of (book_of l) x).book)
    (me : m ≡ made_of p x n o.floor o.top) (g : Goes s p r) where
  book_is : book_of l ≡ book_after calls
  book_is = ap book_of le ∙ book_of_lem (book_after calls) (agrees 100 (omega arith) calls).rules.places

  abbrev more : Calls
  more = added calls (calls_by x)

  next_book : (offer_of (book_after calls) x).book ≡ book_after more
  unfolding offer_of
  next_book = book_added 100 calls (seen_number x) (calls_by x)

  ledger_is : o ≡ ledger_of (offer_of (book_after calls) x).book
  ledger_is = oe ∙ ap (λ (b : Book). ledger_of (offer_of b x).book) book_is

  number_is : n ≡ (offer_of (book_after calls) x).number
  number_is = ae ∙ ap (λ (b : Book). (offer_of b x).number) book_is

  floor_is : o.floor ≡ tick_of (offer_of (book_after calls) x).book.floor
  unfolding ledger_of
  floor_is = ap (λ (k : Ledger). k.floor) ledger_is

  top_is : o.top ≡ tick_of (offer_of (book_after calls) x).book.top
  unfolding ledger_of
  top_is = ap (λ (k : Ledger). k.top) ledger_is

  made_is : m ≡ record_by (book_after calls) (sight_at seen_of says_of p s)
  unfolding record_by
  made_is = me ∙ rw (number_is, floor_is, top_is, xe)

  ledger_next : o ≡ ledger_of (book_after more)
  ledger_next = ledger_is ∙ ap ledger_of next_book

  left_next : left_of (book_after calls) p s ≡ first (m ∷ []) (left_of (book_after more) r s)
  unfolding account_of book_by
  left_next = rw (g.rest, ← made_is, ← xe, next_book)

pub left_step : {s out₀ out out' : List ℕ} {p r records frames k : ℕ} {l l' : Ledger} {x : Seen} {m : Record} (n : ℕ) (o : Ledger) (w : Left s out₀ out p records frames l)
    → l' ≡ l → x ≡ seen_of (drop p s) → (n ≡ (offer_of (book_of l') x).number) × (o ≡ ledger_of (offer_of (book_of l') x).book)
    → m ≡ made_of p x n o.floor o.top → out' ≡ noted_at records m out → Goes s p r → k ≡ accepts (seen_number x)
    → Left s out₀ out' r (records + 1) (frames + k) (carried_of o.floor o.top o.map)
unfolding written_from
left_step {s} {out₀} {out} {out'} {p} {r} {records} {frames} {k} {l} {l'} {x} {m} n o w le xe oe me ne g ke =
    let read = frames_next s p r x xe g in
    let next = left_next s p r w.calls l' x n o m (le ∙ w.ledger_is) xe oe.0 oe.1 me g in
    let whole = ledger_next s p r w.calls l' x n o m (le ∙ w.ledger_is) xe oe.0 oe.1 me g in
    let book = next_book s p r w.calls l' x n o m (le ∙ w.ledger_is) xe oe.0 oe.1 me g in
    let kept = offer_kept (book_after w.calls) x in
    let calm : (book_after (added w.calls (calls_by x))).pending ≡ nothing = ap (λ (b : Book). b.pending) (sym book) ∙ kept.0 ∙ w.quiet in
    let own : (book_after (added w.calls (calls_by x))).channel ≡ 100 = ap (λ (b : Book). b.channel) (sym book) ∙ kept.1 ∙ w.ours in
    record {
      inside = g.inside;
      few = omega (arith, g.further, w.few);
      frames_few = omega (arith, w.frames_few, accepts_one (seen_number x) k ke);
      room = ap length ne ∙ noted_length records m out ∙ w.room;
      calls = added w.calls (calls_by x);
      ledger_is = sym (carried_is o _ whole own calm) ∙ whole;
      quiet = calm;
      ours = own;
      written = rw ne (rw next at w.written);
      counted = omega (arith, rw next at w.counted);
      read = omega (arith, ke, rw read at w.read);
      ends = rw next at w.ends;
    }

-- at the end nothing is left
pub left_end : {s out₀ out : List ℕ} {p records frames : ℕ} {l l' : Ledger} (w : Left s out₀ out p records frames l) → l' ≡ l → length s ≤ p
    → (◌≡◌ {A = Passed} (record { records = records; frames = frames; ledger = l' }) (passed_of s)) × (out ≡ written_from 0 (walk_of s).records out₀)
unfolding passed_of written_from account_of frames_of
left_end {s} {out₀} {out} {p} {records} {frames} {l} {l'} w le h =
    let e = from_end seen_of says_of p s h in
    let c : records ≡ length (walk_of s).records = omega (arith, rw e at w.counted) in
    let f : frames ≡ frames_of (sights s) = omega (arith, rw e at w.read) in
    let b : book_after w.calls ≡ (walk_of s).ledger = rw e at w.ends in
    (rw (c, f, le ∙ w.ledger_is, b), rw e at w.written)
