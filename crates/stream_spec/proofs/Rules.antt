-- The state rules: the code's test passes exactly where the facts hold; opening keeps them, and so
-- does every call, refused or not, on any stream that keeps them. Assumes nothing.
use Prim.Native.Nat.{ℕ, zero, suc, ◌+◌, ◌-◌, ◌≤◌}
use mathlib.Core.Path.{◌≡◌, refl, ap, ◌∙◌}
use mathlib.Core.Bool.{Bool, true, false, ◌&&◌, not}
use mathlib.Core.Logic.{◌⊎◌, inl, inr, ⊎_elim}
use mathlib.Core.List.{List, [], ◌++◌}
use native.Mathlib.Omega.{arith}
use lib.Dec.{eqb, leb}
use lib.ListN.{length, drop, replicate}
use lib.Seq.{drop_at}
use borrow.Author.Tests.{eqb-true, eq-eqb, ne_eqb, leb-true, not-false, not-true}
use Rattle.terms.specs.Cases.{two, same, clash}
use Rattle.ledger_spec.specs.State.{or_else}
use Rattle.ledger_spec.specs.Calls.{fresh}
use Rattle.ledger_spec.proofs.Tests.{both, skip}
use Rattle.ledger_spec.proofs.Steps.{fresh_rules}
use Rattle.walk_laws.specs.Walk.{more}
use Rattle.walk_laws.specs.WaitLaws.{mode_of}
use Rattle.walk_laws.specs.Kept.{settled}
use Rattle.walk_laws.specs.Closing.{final_kept}
use Rattle.walk_laws.specs.Cuts as Cuts
use Rattle.reading.specs.Seen.{seen_of, seen_number, says_of}
use Rattle.reading.specs.SeenLaws.{more_says}
use Rattle.stream_spec.specs.declared.Stream.{Stream}
use Rattle.stream_spec.specs.declared.Tally.{Tally}
use Rattle.stream_spec.specs.Tally.{ledger_right}
use Rattle.stream_spec.specs.State.{last_place, head_of, meant_by, value_of, opened, all_zero, waits_right, sound_of, StreamRules}
use Rattle.stream_spec.specs.StateLaws.{sound_checked, checked_sound}
use Rattle.stream_spec.specs.Calls.{Call, cut_of, closes, feed_of, behind_of, number_for, number_to, next_for, next_of}
use Rattle.stream_spec.specs.CutLaws.{head_front, bounds}
use Rattle.stream_spec.proofs.Walks.{Right, right_facts, right_test, right_of, right_all}

-- ======== The test and the facts

abbrev Rests : Stream → Type 0
Rests x = (x.len ≡ 0) ⊎ ((x.closed ≡ false) × (seen_number (seen_of (head_of x.len x.kept)) ≡ 1))

waits_facts : (x : Stream) → waits_right x ≡ true → Rests x
unfolding waits_right
waits_facts x e =
    ⊎_elim (λ (z : x.len ≡ 0). inl z)
    (λ (ne : x.len ≡ 0 → ⊥).
    let r : or_else false (not x.closed && eqb (seen_number (seen_of (head_of x.len x.kept))) 1) ≡ true = rw (ne_eqb x.len 0 ne) at e in
    let p = both (not x.closed) _ r in
    inr (not-true x.closed p.0, eqb-true _ _ p.1))
    (same x.len 0)

waits_test : (x : Stream) → Rests x → waits_right x ≡ true
unfolding waits_right
waits_test x (inl z) = rw (eq-eqb x.len 0 z)
waits_test x (inr (c, a)) =
    ⊎_elim (λ (z : x.len ≡ 0). rw (eq-eqb x.len 0 z)) (λ (ne : x.len ≡ 0 → ⊥). rw (ne_eqb x.len 0 ne, c, eq-eqb (seen_number (seen_of (head_of x.len x.kept))) 1 a)) (same x.len 0)

pub rules_facts : (x : Stream) → sound_of x ≡ true → StreamRules x
rules_facts x e =
    let c = sound_checked x e in
    let r = right_facts x.tally.ledger c.right in
    record {
      few = c.few;
      blank = c.blank;
      counts = c.counts;
      channel = r.channel;
      ledger = r.rules;
      places = c.places;
      rests = waits_facts x c.waits;
    }

pub rules_test : (x : Stream) → StreamRules x → sound_of x ≡ true
rules_test x r =
    checked_sound x
    (record {
      few = r.few;
      blank = r.blank;
      counts = r.counts;
      right = right_test x.tally.ledger (record { channel = r.channel; rules = r.ledger });
      places = r.places;
      waits = waits_test x r.rests;
    })

-- so a closed stream that keeps them keeps no byte at all
pub closed_store : (x : Stream) → StreamRules x → x.closed ≡ true → (x.len ≡ 0) × (all_zero x.kept ≡ true)
closed_store x r c =
    ⊎_elim (λ (z : x.len ≡ 0). (z, rw z at r.blank))
    (λ (p : (x.closed ≡ false) × (seen_number (seen_of (head_of x.len x.kept)) ≡ 1)). absurd (clash c p.0))
    r.rests

-- ======== Opening and calls keep them

zeros : (n : ℕ) → all_zero (replicate n 0) ≡ true
unfolding all_zero
zeros zero = refl
zeros (suc n) = zeros n

-- a value has zeros behind its kept bytes
value_blank : (closed : Bool) (y : Cuts.Stream Tally) → all_zero (drop (value_of closed y).len (value_of closed y).kept) ≡ true
unfolding value_of
value_blank closed y = rw (drop_at y.kept (replicate (8191 - length y.kept) 0) (length y.kept) refl) (zeros (8191 - length y.kept))

-- what a cut leaves is nothing, or it waits; at the closing call it is nothing
value_rests : (y : Cuts.Stream Tally) → (y.kept ≡ []) ⊎ (says_of (seen_of y.kept) ≡ more) → Rests (value_of false y)
unfolding value_of
value_rests y (inl e) = inl (ap length e)
value_rests y (inr e) = inr (refl, ap (λ (l : List ℕ). seen_number (seen_of l)) (head_front y.kept (replicate (8191 - length y.kept) 0)) ∙ more_says (seen_of y.kept) e)

fed_rests : (x : Stream) (cut : List ℕ) → ((feed_of false (meant_by x) cut).stream.kept ≡ []) ⊎ (says_of (seen_of (feed_of false (meant_by x) cut).stream.kept) ≡ more)
unfolding meant_by Cuts.feed_of
fed_rests x cut = (settled seen_of says_of (mode_of x.seeking) x.place (x.place + length (head_of x.len x.kept ++ cut)) (head_of x.len x.kept ++ cut) refl).rests

fed_none : (x : Stream) (cut : List ℕ) → (feed_of true (meant_by x) cut).stream.kept ≡ []
unfolding meant_by Cuts.feed_of
fed_none x cut = final_kept seen_of says_of (mode_of x.seeking) x.place (head_of x.len x.kept ++ cut)

len_is : (closed : Bool) (y : Cuts.Stream Tally) → (value_of closed y).len ≡ length y.kept
unfolding value_of
len_is closed y = refl

pushed_rests : (x : Stream) (closing : Bool) (cut : List ℕ) → Rests (behind_of x closing cut)
unfolding behind_of
pushed_rests x true cut = inl (len_is true (feed_of true (meant_by x) cut).stream ∙ ap length (fed_none x cut))
pushed_rests x false cut = value_rests (feed_of false (meant_by x) cut).stream (fed_rests x cut)

pushed_right : (x : Stream) (closing : Bool) (cut : List ℕ) → Right x.tally.ledger → Right (behind_of x closing cut).tally.ledger
unfolding behind_of meant_by Cuts.feed_of value_of
pushed_right x closing cut r = right_all x.tally _ r

pushed_blank : (x : Stream) (closing : Bool) (cut : List ℕ) → all_zero (drop (behind_of x closing cut).len (behind_of x closing cut).kept) ≡ true
unfolding behind_of
pushed_blank x closing cut = value_blank closing (feed_of closing (meant_by x) cut).stream

pub pushed_sound : (x : Stream) (closing : Bool) (cut : List ℕ) → sound_of x ≡ true → x.place + (x.len + length cut) ≤ last_place → sound_of (behind_of x closing cut) ≡ true
pushed_sound x closing cut s h =
    let c = sound_checked x s in
    let b = bounds x closing cut in
    checked_sound (behind_of x closing cut)
    (record {
      few = b.few;
      blank = pushed_blank x closing cut;
      counts = b.counts c.counts;
      right = right_test _ (pushed_right x closing cut (right_facts x.tally.ledger c.right));
      places = omega (arith, b.place);
      waits = waits_test _ (pushed_rests x closing cut);
    })

-- an answer 0: every check passed
pub record Passed (x : Stream) (closing : Bool) (cut : List ℕ) (room : ℕ) : Type 0 where
  pub sound : sound_of x ≡ true
  pub «open» : x.closed ≡ false
  pub fits : x.place + (x.len + length cut) ≤ last_place

pub passed : (x : Stream) (closing : Bool) (cut : List ℕ) (room : ℕ) → number_for x closing cut room ≡ 0 → Passed x closing cut room
unfolding number_for
passed x closing cut room e =
    let a = skip (not (sound_of x)) 13 _ e (λ q. omega arith) in
    let b = skip x.closed 19 _ a.1 (λ q. omega arith) in
    let c = skip (not (leb (x.place + (x.len + length cut)) last_place)) 29 _ b.1 (λ q. omega arith) in
    record { sound = not-false _ a.0; «open» = b.0; fits = leb-true _ _ (not-false _ c.0) }

next_done : (x : Stream) (closing : Bool) (cut : List ℕ) (room : ℕ) → eqb (number_for x closing cut room) 0 ≡ true → next_for x closing cut room ≡ behind_of x closing cut
unfolding next_for
next_done x closing cut room e = rw e

next_same : (x : Stream) (closing : Bool) (cut : List ℕ) (room : ℕ) → eqb (number_for x closing cut room) 0 ≡ false → next_for x closing cut room ≡ x
unfolding next_for
next_same x closing cut room e = rw e

-- a call on a stream that keeps the rules, whatever its answer, gives one that keeps them
pub rules_kept : (x : Stream) (call : Call) (room : ℕ) → sound_of x ≡ true → sound_of (next_of x call room) ≡ true
rules_kept x call room s =
    ⊎_elim
    (λ (t : eqb (number_to x call room) 0 ≡ true).
    rw (next_done x (closes call) (cut_of call) room t) (pushed_sound x (closes call) (cut_of call) s (passed x (closes call) (cut_of call) room (eqb-true _ _ t)).fits))
    (λ (f : eqb (number_to x call room) 0 ≡ false). rw (next_same x (closes call) (cut_of call) room f) s)
    (two (eqb (number_to x call room) 0))

opened_channel : (fresh 100).channel ≡ 100
unfolding fresh
opened_channel = refl

opened_few : opened.len ≤ 8191
unfolding opened value_of
opened_few = omega arith

opened_counts : opened.tally.frames + opened.tally.refused ≤ opened.place
unfolding opened value_of
opened_counts = omega arith

opened_places : opened.place + opened.len ≤ last_place
unfolding opened value_of
opened_places = omega arith

opened_right : ledger_right opened.tally.ledger ≡ true
unfolding opened value_of
opened_right = right_test _ (right_of (fresh 100) opened_channel (fresh_rules 100 (omega arith)))

opened_blank : all_zero (drop opened.len opened.kept) ≡ true
unfolding opened
opened_blank = value_blank false _

opened_rests : Rests opened
unfolding opened
opened_rests = value_rests _ (inl refl)

-- opening keeps them
pub opening_sound : sound_of opened ≡ true
opening_sound =
    checked_sound opened
    (record {
      few = opened_few;
      blank = opened_blank;
      counts = opened_counts;
      right = opened_right;
      places = opened_places;
      waits = waits_test opened opened_rests;
    })
