-- CR 1 of what a host has from the C functions: the buffers of all calls, joined, are the records
-- decided, after the closing call those of document 01's walk over the bytes taken; and rk_listing
-- of them, with the stream's counts and ledger, writes document 01's listing. `Followed calls k`
-- says that k, words and bytes, comes of the calls on what rk_stream_open wrote, each meeting
-- its promise.
use Rattle.std.specs.Prelude.{ℕ, zero, suc, ◌*◌, ◌^◌, ◌≤◌, ◌<◌, ◌≡◌, refl, Bool, eqb, take, drop}
use Rattle.std.proofs.Common.{sym, ap₂, ◌∙◌, arith}
use Rattle.std.proofs.Math.Path.{ap}
use Rattle.std.proofs.Math.Bool.{true, false}
use mathlib.Core.List.{List, [], ◌∷◌, ◌++◌, append-nil}
use contract.Lifetimes.{Lfts}
use borrow.Fn.Kinds.{Dens, ended_of, res_t}
use denote.Triple.Clauses.{AtExit}
use Rattle.std.proofs.Math.ListN.{length, get_or}
use borrow.Author.Tests.{eqb-true, eqb-false, eq-eqb, ne_eqb}
use Rattle.terms.specs.Paper.{pick}
use Rattle.octets.specs.Octets.{laid}
use Rattle.octets.specs.Overlays.{take_front, laid_front}
use Rattle.ledger.specs.State.{ledger_of}
use Rattle.record.specs.Record.{record_of}
use Rattle.record.specs.RecordLaws.{length_record}
use Rattle.record.specs.declared.Record.{Record}
use Rattle.walk_laws.specs.Frames.{joined, each_of, each_joined, each_long}
use Rattle.walk_spec.specs.Walk.{walk_of, table_of, frames_of, sights}
use Rattle.walk_spec.specs.Literal.{Walk, literal_walk}
use Rattle.walk_spec.proofs.LiteralLaws.{literal_walk_lem}
use Rattle.listing_text.specs.Listed.{listed_of}
use Rattle.stream_spec.specs.State.{last_place}
use Rattle.stream_spec.specs.Calls.{Call, share, number_to}
use Rattle.stream_spec.specs.Trace.{Calls, ◌▸◌, after, given, taken, ended}
use Rattle.stream_spec.specs.Words.{decided}
use Rattle.stream_spec.proofs.Rules.{rules_facts}
use Rattle.stream_spec.proofs.Cuttings.{every_cutting}
use Rattle.host_words.specs.Told.{seen}
use Rattle.host_stream_spec.specs.Lent.{Lent}
use Rattle.host_stream_spec.specs.Calls.{Called}
use Rattle.host_stream_spec.specs.Rows.{Followed, opening, one_more, Gives}
use Rattle.host_stream_spec.proofs.Cuttings.{every_host_cutting, followed_bytes}
use Rattle.host_captures.specs.Listed.{text_of, HostWalked, Lends, HostListed}
use Rattle.host_captures.proofs.Listed.{text_listed, rk_listing_lists}
use Rattle.host_captures.proofs.rk_listing.Reads as listing
use Rattle.host_captures.proofs.rk_listing.Kinds as listing-kinds

-- what a host then has, if behind each call answered 0 it sets aside 64 bytes for each record told
abbrev pub heard_by : {calls : Calls} {k : Lent} → Followed calls k → List ℕ
heard_by (opening e) = []
heard_by (one_more call was d n k' row d' f b p) = heard_by f ++ take (64 * get_or (seen n row).values 0 0) d'

-- one call's part of it
module _ {calls : Calls} {k : Lent} (f : Followed calls k) (call : Call) (was d : List ℕ) (n : ℕ) (k' : Lent) (row d' : List ℕ) (p : Called k call was d n k' row d') where
  number_is : n ≡ number_to (after calls) call (length d)
  number_is = (every_host_cutting f).number call was d n k' row d' p ∙ sym ((every_cutting calls).numbers call (length d))

  part_by : (t : Bool) → eqb (number_to (after calls) call (length d)) 0 ≡ t → take (64 * get_or (seen n row).values 0 0) d' ≡ table_of (pick t (share (after calls) call) [])
  unfolding joined each_of
  part_by true e =
      let z : n ≡ 0 = number_is ∙ eqb-true _ 0 e in
      let g = (every_host_cutting f).gives call was d n k' row d' p z in
      let r : get_or row 0 0 ≡ length (share (after calls) call) = ap (λ (l : List ℕ). get_or l 0 0) g.told in
      rw (z, r, g.written) (take_front (64 * length (share (after calls) call)) (table_of (share (after calls) call)) d (each_long record_of 64 length_record (share (after calls) call)))
  part_by false e = rw (ne_eqb n 0 (λ (z : n ≡ 0). eqb-false _ 0 e (sym number_is ∙ z)))

-- so far
pub host_given : {calls : Calls} {k : Lent} (f : Followed calls k) → heard_by f ≡ table_of (given calls)
unfolding given joined each_of
host_given (opening e) = refl
host_given (one_more {calls} {k} call was d n k' row d' f b p) =
    ap₂ (λ (a b : List ℕ). a ++ b) (host_given f) (part_by f call was d n k' row d' p _ refl) ∙ sym (each_joined record_of (given calls) _)

pub host_so_far : {calls : Calls} {k : Lent} (f : Followed calls k) → heard_by f ≡ table_of (decided (ended calls) (taken calls))
host_so_far {calls} f = host_given f ∙ ap table_of (every_cutting calls).records

drop_none : (n : ℕ) → ◌≡◌ {A = List ℕ} (drop n []) []
drop_none zero = refl
drop_none (suc n) = refl

none_behind : (l : List ℕ) → laid 0 l [] ≡ l
none_behind l = laid_front l [] ∙ ap (λ (r : List ℕ). l ++ r) (drop_none (length l)) ∙ append-nil l

-- AFTER THE CLOSING CALL
module _ {calls : Calls} {k : Lent} (f : Followed calls k) (e : ended calls ≡ true) where
  abbrev walk : Walk
  walk = literal_walk (taken calls)

  -- the joined buffers are the records of document 01's walk
  pub host_heard : heard_by f ≡ table_of walk.records
  host_heard = host_given f ∙ ap table_of (((every_host_cutting f).closing e).0 ∙ sym (ap (λ (w : Walk). w.records) (literal_walk_lem (taken calls))))

  -- words, counts and buffers are those that a host has after rk_walk of the bytes taken
  pub host_walked : HostWalked walk [] 0 (heard_by f) k.ledger (length walk.records ∷ get_or k.state 4 0 ∷ get_or k.state 5 0 ∷ [])
  host_walked =
      let c = ((every_host_cutting f).closing e).1 in
      let w = literal_walk_lem (taken calls) in
      record {
        number = refl;
        told = ap₂ (λ (i j : ℕ). length walk.records ∷ i ∷ j ∷ []) (c.frames ∙ sym (ap (λ (x : Walk). x.frames) w)) (c.refused ∙ sym (ap (λ (x : Walk). x.refused) w));
        words = c.ledger ∙ rw w;
        buffer = host_heard ∙ sym (none_behind (table_of walk.records));
      }

  -- the listing of that walk is document 01's of the bytes taken
  taken_fits : length (taken calls) < 256 ^ 8
  taken_fits = omega (arith, (every_cutting calls).places, (rules_facts (after calls) (every_cutting calls).rules).places)

  pub host_text : text_of walk ≡ listed_of (taken calls)
  host_text = text_listed (taken calls) (followed_bytes f) taken_fits

  -- so rk_listing, lent these, writes it
  pub host_lists : (κs : Lfts 4) (a : Dens κs listing-kinds.ps) (y : (res_t listing-kinds.r κs).Denot) (s : AtExit (ended_of 4 listing-kinds.ps listing-kinds.r) κs) → listing.Post κs a y s
      → Lends (heard_by f) k.ledger (length walk.records ∷ get_or k.state 4 0 ∷ get_or k.state 5 0 ∷ []) a.0.now a.1.0 a.1.1.0 a.1.1.1.0.now
      → length (listed_of (taken calls)) ≤ length a.1.1.1.1.0.now → HostListed (listed_of (taken calls)) a.1.1.1.1.0.now y s.1.1.1.1.0.now s.1.1.1.1.1.0.now
  host_lists κs a y s p l room = rw (← host_text) (rk_listing_lists (taken calls) host_walked κs a y s p l (rw host_text room))
