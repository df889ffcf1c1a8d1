-- A value stands for what it was made of; two cuts are one cut of both; and how far a cut gets.
use Rattle.std.specs.Prelude.{ℕ, zero, suc, ◌+◌, ◌≤◌, ◌≡◌, refl, Bool, true, false, List, [], ◌∷◌, ◌++◌, length, take}
use Rattle.std.proofs.Common.{sym, ap, ◌∙◌, arith, length-append, take-suc}
use Rattle.std.proofs.Math.Seq.{take-append_seam}
use Rattle.record.specs.declared.Record.{Record}
use Rattle.walk_laws.specs.Walk.{Sight, Mode}
use Rattle.walk_laws.specs.WaitLaws.{mode_of}
use Rattle.walk_laws.specs.Kept.{Between, b_reads, b_seeks, Ends, e_within, e_seeking, rested, seen_few}
use Rattle.walk_laws.specs.Account.{account_of, account_length}
use Rattle.walk_laws.specs.Cuts as Cuts
use Rattle.reading.specs.declared.Seen.{Seen}
use Rattle.reading.specs.Seen.{seen_of, says_of}
use Rattle.reading.proofs.SeenLaws.{seen_kept, seen_fits}
use Rattle.stream_spec.specs.declared.Stream.{Stream}
use Rattle.stream_spec.specs.declared.Tally.{Tally}
use Rattle.stream_spec.specs.Tally.{record_at, tally_after}
use Rattle.stream_spec.specs.State.{head_of, is_seeking, meant_by, value_of}
use Rattle.stream_spec.specs.Run.{says_in}
use Rattle.stream_spec.specs.RunLaws.{tallied}
use Rattle.stream_spec.specs.Calls.{feed_of, given_of, behind_of}
use Rattle.stream_spec.specs.Window.{length_head, enough_in}

-- A VALUE STANDS FOR WHAT IT WAS MADE OF

pub head_take : (n : ℕ) (l : List ℕ) → n ≤ length l → head_of n l ≡ take n l
unfolding head_of
head_take zero l h = refl
head_take (suc n) l h = rw (head_take n l (omega arith), take-suc l n 0 h)

pub head_front : (l z : List ℕ) → head_of (length l) (l ++ z) ≡ l
head_front l z = head_take (length l) (l ++ z) (rw length-append (omega arith)) ∙ take-append_seam l z

mode_back : (m : Mode) → Between m → mode_of (is_seeking m) ≡ m
unfolding is_seeking
mode_back m b_reads = refl
mode_back m b_seeks = refl

pub meant_value : (closed : Bool) (y : Cuts.Stream Tally) → Between y.mode → meant_by (value_of closed y) ≡ y
unfolding meant_by value_of
meant_value closed y h = rw (mode_back y.mode h, head_front y.kept _)

ends_mode : (b : Bool) (n : ℕ) → Ends n (mode_of b)
ends_mode true n = e_seeking
ends_mode false n = let h : 0 ≤ n = omega arith in e_within h

fed_between : (x : Stream) (c : List ℕ) → Between (feed_of false (meant_by x) c).stream.mode
unfolding meant_by Cuts.feed_of
fed_between x c = rested seen_of says_of (λ s n e. (seen_fits s n e).1) (mode_of x.seeking) x.place (head_of x.len x.kept ++ c) (ends_mode x.seeking _)

pub meant_fed : (x : Stream) (c : List ℕ) → meant_by (value_of false (feed_of false (meant_by x) c).stream) ≡ (feed_of false (meant_by x) c).stream
meant_fed x c = meant_value false (feed_of false (meant_by x) c).stream (fed_between x c)

-- TWO CUTS ARE ONE

pub two_feeds : (x : Stream) (a b : List ℕ)
    → feed_of false (meant_by x) (a ++ b) ≡ record { records = given_of x false a ++ given_of (behind_of x false a) false b; stream = (feed_of false (meant_by (behind_of x false a)) b).stream }
unfolding given_of behind_of
two_feeds x a b =
    Cuts.feed_append seen_of says_of record_at tally_after seen_kept (meant_by x) a b
    ∙ ap (λ (y : Cuts.Stream Tally). Cuts.before (feed_of false (meant_by x) a).records (feed_of false y b)) (sym (meant_fed x a))

pub given_both : (x : Stream) (a b : List ℕ) → given_of x false (a ++ b) ≡ given_of x false a ++ given_of (behind_of x false a) false b
unfolding given_of
given_both x a b = ap (λ (y : Cuts.Fed Tally Record). y.records) (two_feeds x a b)

pub behind_both : (x : Stream) (a b : List ℕ) → behind_of (behind_of x false a) false b ≡ behind_of x false (a ++ b)
unfolding behind_of
behind_both x a b = sym (ap (λ (y : Cuts.Fed Tally Record). value_of false y.stream) (two_feeds x a b))

-- HOW FAR A CUT GETS

-- each reading is counted once
pub counted_all : (t : Tally) (xs : List (Sight Seen)) → (account_of record_at tally_after t xs).ledger.frames + (account_of record_at tally_after t xs).ledger.refused ≡ t.frames + t.refused + length xs
unfolding account_of
counted_all t [] = omega arith
counted_all t (x ∷ xs) = counted_all (tally_after t x) xs ∙ omega (arith, tallied t (tally_after t x) x refl)

pub record Bounds (x : Stream) (closing : Bool) (a : List ℕ) : Type 0 where
  pub few : (behind_of x closing a).len ≤ 8191
  pub place : (behind_of x closing a).place + (behind_of x closing a).len ≡ x.place + (x.len + length a)
  pub count : length (given_of x closing a) + (behind_of x closing a).len ≤ x.len + length a
  pub counts : x.tally.frames + x.tally.refused ≤ x.place → (behind_of x closing a).tally.frames + (behind_of x closing a).tally.refused ≤ (behind_of x closing a).place

pub bounds : (x : Stream) (closing : Bool) (a : List ℕ) → Bounds x closing a
unfolding behind_of value_of given_of meant_by Cuts.feed_of
bounds x closing a =
    let f = Cuts.feed_keeps seen_of (says_in closing) record_at tally_after (enough_in closing) (meant_by x) a in
    let l = length_head x.len x.kept in
    let n = seen_few seen_of (says_in closing) (mode_of x.seeking) x.place (head_of x.len x.kept ++ a) in
    let m = length-append (head_of x.len x.kept) a in
    record {
      few = f.0;
      place = rw l at f.1;
      count = rw account_length (omega (arith, n, m, l));
      counts = λ h. rw counted_all (omega (arith, n, m, l, rw l at f.1));
    }
