-- What a call on frames comes to, from the promises that the checker makes of the `ensures`.
-- Assumes nothing.
use Prim.Native.Nat.{ℕ, ◌+◌, ◌≤◌}
use mathlib.Core.Path.{◌≡◌, refl, sym, ap, ap₂, ◌∙◌}
use mathlib.Core.Bool.{true}
use mathlib.Core.Logic.{⊎_elim, ◌↔◌}
use mathlib.Core.List.{List, [], ◌∷◌}
use native.Mathlib.Omega.{arith}
use contract.Lifetimes.{Lfts}
use borrow.Author.Tests.{ne_eqb, eqb-true, leb-true}
use borrow.Fn.Kinds.{Dens, ended_of, res_t}
use denote.Triple.Clauses.{AtExit}
use lib.ListN.{length, get_or, take, drop}
use Rattle.terms.specs.Paper.{Paper, answer, refusal, one_number}
use Rattle.terms.specs.Cases.{same}
use Rattle.octets.specs.Octets.{be}
use Rattle.octets.specs.Numerals.{numeral_drop, numeral_take}
use Rattle.rules.specs.declared.Kind.{Kind}
use Rattle.rules.specs.declared.Kind.TheVariants.{S001, S002, S003, P001, P002, M101, M102, M201, Unknown}
use Rattle.rules.specs.Rules.{short, long}
use Rattle.rules.specs.Meaning.{size_one}
use Rattle.rules.specs.Table.{kind_of, suits, measure_of}
use Rattle.std.specs.Prelude.{Option, Some, None, MatchOption}
use Rattle.broken.specs.declared.Broken.{Broken}
use Rattle.broken.specs.Broken.{broken_of}
use Rattle.broken.specs.Meaning.{broken_none, broken_lowest, broken_within}
use Rattle.frame_spec.specs.Frame.{body_length, body, read_of}
use Rattle.frame_spec.specs.GivenRead.{read_given}
use Rattle.frame_spec.specs.GivenWrite.{write_given}
use Rattle.frame_spec.specs.Lowest.{ReadsAt, LowestPlace, Lowest, l_at, l_none, lowest, search_given_9, search_given_place, search_given_none}
use Rattle.frame_spec.specs.Measures.{fits}
use Rattle.frame_spec.specs.Outcomes.{Reading, r_short, r_measure, r_cut, r_sum, r_judged, r_frame, reading, good, good_reads}
use Rattle.frame_spec.specs.Places.{body_of}
use Rattle.frame_spec.specs.Search.{search_of}
use Rattle.frame_spec.specs.Write.{Message, message, write_of}
use Rattle.frame_spec.specs.WriteLaws.{Writing, w_measured, w_judged, w_room, w_done, writing}
use Rattle.frame_view.specs.View.{view_of}
use Rattle.entries.specs.Exactly.{open_given, step_given_0, step_given_20, step_moves}
use Rattle.entries.specs.Given.{Stands}
use Rattle.entries.specs.Outcomes.{step_done, entry_short, entry_long}
use Rattle.entries.specs.Places.{stands_says}
use Rattle.entries.specs.Reader.{step_of}
use Rattle.private.specs.Laws.{answer_refused}
use Rattle.private.proofs.Laws.{scrub_number}
use Rattle.private.specs.Private.{private_of, span_at}
use Rattle.private.specs.Cover.{Covers}
use Rattle.private.proofs.Cover.{spans_cover}
use Rattle.private.specs.Parts.{SpanGiven}
use Rattle.private.specs.PartsLaws.{span_number, span_told_lem, span_given}
use Rattle.private.specs.Scrub.{scrub_answer}
use Rattle.walk_spec.specs.Literal.{type_in}
use Rattle.host_words.specs.Told.{told_by, Tells, seen}
use Rattle.host_frames.specs.Frames.{view_numbers, read_told, search_told, broken_numbers, broken_told, entries_told, entry_numbers, entry_told}
use Rattle.host_frames.specs.Means.{body_numbers, HostRead, HostWrote, HostFound, HostScrubbed, HostBroken, HostOpened, HostStepped}
use Rattle.host_frames.proofs.rk_read.Reads as read
use Rattle.host_frames.proofs.rk_read.Kinds as read-kinds
use Rattle.host_frames.proofs.rk_write.Reads as write
use Rattle.host_frames.proofs.rk_write.Kinds as write-kinds
use Rattle.host_frames.proofs.rk_search.Reads as find
use Rattle.host_frames.proofs.rk_search.Kinds as find-kinds
use Rattle.host_frames.proofs.rk_scrub.Reads as scrub
use Rattle.host_frames.proofs.rk_scrub.Kinds as scrub-kinds
use Rattle.host_frames.proofs.rk_private.Reads as private
use Rattle.host_frames.proofs.rk_private.Kinds as private-kinds
use Rattle.host_frames.proofs.rk_broken_field.Reads as broken
use Rattle.host_frames.proofs.rk_broken_field.Kinds as broken-kinds
use Rattle.host_frames.proofs.rk_entries.Reads as entries
use Rattle.host_frames.proofs.rk_entries.Kinds as entries-kinds
use Rattle.host_frames.proofs.rk_entry.Reads as entry
use Rattle.host_frames.proofs.rk_entry.Kinds as entry-kinds

-- ======== What a told row shows

-- a paper that has no value beside a refusal
abbrev Bare : Paper → Type 0
Bare p = (p.number ≡ 0 → ⊥) → p ≡ refusal p.number

bare_as : {p : Paper} {n : ℕ} → p ≡ refusal n → p ≡ refusal p.number
bare_as e = e ∙ ap (λ (q : Paper). refusal q.number) (sym e)

-- beside a refusal such a paper is what the caller sees, whatever the row holds
sees_refused : {p : Paper} {x : ℕ} (row : List ℕ) → Bare p → x ≡ p.number → (x ≡ 0 → ⊥) → seen x row ≡ p
sees_refused {p} {x} row bare e n = rw (ne_eqb x 0 n) (ap refusal e ∙ sym (bare (λ (z : p.number ≡ 0). n (e ∙ z))))

module _ {p : Paper} {was row : List ℕ} {x : ℕ} (t : Tells p was x row) where
  told_0 : x ≡ 0 → row ≡ p.values
  unfolding told_by
  told_0 z = t.told ∙ rw (← t.answered, z)

  -- beside 0 too
  sees : Bare p → seen x row ≡ p
  sees bare =
      ⊎_elim (λ (z : x ≡ 0). let e : answer x row ≡ p = ap₂ answer t.answered (told_0 z) in rw z (rw z at e))
      (λ (n : x ≡ 0 → ⊥). sees_refused row bare t.answered n)
      (same x 0)

  -- its number is given exactly when the paper's is
  given_as : {G : ℕ → Type 0} → ((n : ℕ) → (p.number ≡ n) ↔ G n) → (n : ℕ) → (x ≡ n) ↔ G n
  given_as g n = (λ (e : x ≡ n). (g n).0 (sym t.answered ∙ e), λ h. t.answered ∙ (g n).1 h)

read_bare_of : (s : List ℕ) (p : Paper) → Reading s p → Bare p
read_bare_of s p (r_short e h) n = bare_as e
read_bare_of s p (r_measure e h m) n = bare_as e
read_bare_of s p (r_cut e h m l) n = bare_as e
read_bare_of s p (r_sum e w m) n = bare_as e
read_bare_of s p (r_judged e w f m) n = bare_as e
read_bare_of s p (r_frame e g) n = absurd (n (one_number e))

read_bare : (s : List ℕ) → Bare (read_of s)
read_bare s = read_bare_of s (read_of s) (reading s)

write_bare_of : (m : Message) (room : ℕ) (p : Paper) → Writing m room p → Bare p
write_bare_of m room p (w_measured e h) n = bare_as e
write_bare_of m room p (w_judged e h j) n = bare_as e
write_bare_of m room p (w_room e s l) n = bare_as e
write_bare_of m room p (w_done e f) n = absurd (n (one_number e))

write_bare : (m : Message) (room : ℕ) → Bare (write_of m room)
write_bare m room = write_bare_of m room (write_of m room) (writing m room)

scrub_bare : (s : List ℕ) → Bare (scrub_answer s)
scrub_bare s n =
    let m : (read_of s).number ≡ 0 → ⊥ = λ (z : (read_of s).number ≡ 0). n (scrub_number s ∙ z) in
    bare_as (sym (answer_refused s m) ∙ read_bare s m)

-- ======== Scrubbing and writing

pub rk_scrub_scrubs : (κs : Lfts 2) (a : Dens κs scrub-kinds.ps) (x : (res_t scrub-kinds.r κs).Denot) (s : AtExit (ended_of 2 scrub-kinds.ps scrub-kinds.r) κs) → scrub.Post κs a x s
    → HostScrubbed a.0.now x s.1.0.now s.0.now
rk_scrub_scrubs κs a x s p = record { scrubbing = sees p.0 (scrub_bare a.0.now); buffer = p.1 }

pub rk_write_writes : (κs : Lfts 3) (a : Dens κs write-kinds.ps) (x : (res_t write-kinds.r κs).Denot) (s : AtExit (ended_of 3 write-kinds.ps write-kinds.r) κs) → write.Post κs a x s
    → HostWrote (message a.0 a.1.0 a.1.1.0 a.1.1.1.0.now) a.1.1.1.1.0.now x s.1.1.1.1.1.0.now s.1.1.1.1.0.now
rk_write_writes κs a x s p =
    let m = message a.0 a.1.0 a.1.1.0 a.1.1.1.0.now in
    let room = length a.1.1.1.1.0.now in
    record {
      given = given_as p.0 (λ (n : ℕ). write_given n m room);
      writing = sees p.0 (write_bare m room);
      buffer = p.1;
    }

-- ======== Reading

-- a number within the body, by its place in the frame
module _ (f : List ℕ) where
  in_body : (w at : ℕ) → at + w ≤ body_length f → be w at (body f) ≡ be w (24 + at) f
  in_body w at h = numeral_take 256 w at (body_length f) (drop 24 f) h ∙ numeral_drop 256 w 24 at f

  view_is : (k : Kind) → suits k (body_length f) ≡ true → view_numbers (view_of k (body f)) ≡ body_numbers k f
  unfolding view_of suits
  view_is S001 h = refl
  view_is S002 h = refl
  view_is S003 h = refl
  view_is P001 h = let e = eqb-true (body_length f) 12 h in rw (in_body 2 1 (omega arith), in_body 8 3 (omega arith))
  view_is P002 h = let e = eqb-true (body_length f) 52 h in rw (in_body 2 0 (omega arith), in_body 8 3 (omega arith), in_body 8 11 (omega arith), in_body 1 19 (omega arith))
  view_is M101 h = refl
  view_is M102 h = refl
  view_is M201 h = let e = leb-true 45 (body_length f) h in rw (in_body 2 1 (omega arith), in_body 8 3 (omega arith))
  view_is Unknown h = refl

  module _ {was row : List ℕ} {x : ℕ} (t : Tells (read_told f) was x row) where
    number_is : x ≡ (read_of f).number
    unfolding read_told
    number_is = t.answered

    read_row : x ≡ 0 → row ≡ be 4 0 f ∷ be 8 4 f ∷ be 8 12 f ∷ be 4 20 f ∷ body_numbers (type_in f) f
    unfolding read_told
    read_row z =
        let r : (read_of f).number ≡ 0 = sym number_is ∙ z in
        told_0 t z ∙ rw (good_reads f (good f r), body_of f r, view_is (type_in f) (fits _ _ (good f r).whole.measured).suit)

    read_seen : seen x (take 4 row) ≡ read_of f
    read_seen =
        ⊎_elim (λ (z : x ≡ 0). rw (z, read_row z) (sym (good_reads f (good f (sym number_is ∙ z)))))
        (λ (n : x ≡ 0 → ⊥). sees_refused (take 4 row) (read_bare f) number_is n)
        (same x 0)

    host_read : HostRead f x row
    unfolding read_told
    host_read = record { given = given_as t (λ (n : ℕ). read_given n f); reading = read_seen; told = read_row }

pub rk_read_reads : (κs : Lfts 2) (a : Dens κs read-kinds.ps) (x : (res_t read-kinds.r κs).Denot) (s : AtExit (ended_of 2 read-kinds.ps read-kinds.r) κs) → read.Post κs a x s
    → HostRead (drop a.1.0 a.0.now) x s.1.1.0.now
rk_read_reads κs a x s p = host_read (drop a.1.0 a.0.now) p

-- ======== The search

module _ (s : List ℕ) (from : ℕ) {was row : List ℕ} {x : ℕ} (t : Tells (search_told s from) was x row) where
  tells_place : (p : ℕ) → search_of s from ≡ answer 0 (p ∷ []) → (x ≡ 0) × (row ≡ 1 ∷ p ∷ [])
  unfolding search_told told_by
  tells_place p e = (t.answered ∙ rw e, t.told ∙ rw e)

  tells_none : search_of s from ≡ answer 0 [] → (x ≡ 0) × (row ≡ 0 ∷ 0 ∷ [])
  unfolding search_told told_by
  tells_none e = (t.answered ∙ rw e, t.told ∙ rw e)

  -- and the row shows which of them it is
  place_shown : (a : Paper) → Lowest s from a → search_of s from ≡ a → (p : ℕ) → row ≡ 1 ∷ p ∷ [] → a ≡ answer 0 (p ∷ [])
  place_shown a (l_at q e after inside here before) f p r = e ∙ ap (λ (l : List ℕ). answer 0 (get_or l 1 0 ∷ [])) (sym (tells_place q (f ∙ e)).1 ∙ r)
  place_shown a (l_none e never) f p r = absurd (omega (arith, ap (λ (l : List ℕ). get_or l 0 0) (sym (tells_none (f ∙ e)).1 ∙ r)))

  none_shown : (a : Paper) → Lowest s from a → search_of s from ≡ a → row ≡ 0 ∷ 0 ∷ [] → a ≡ answer 0 []
  none_shown a (l_at q e after inside here before) f r = absurd (omega (arith, ap (λ (l : List ℕ). get_or l 0 0) (sym (tells_place q (f ∙ e)).1 ∙ r)))
  none_shown a (l_none e never) f r = e

  host_found : HostFound s from x row
  unfolding search_told
  host_found =
      record {
        place = λ (h : from ≤ length s) (p : ℕ). (
          λ (r : (x ≡ 0) × (row ≡ 1 ∷ p ∷ [])). (search_given_place s from p h).0 (place_shown (search_of s from) (lowest s from h) refl p r.1),
          λ (l : LowestPlace s from p). tells_place p ((search_given_place s from p h).1 l),
        );
        none = λ (h : from ≤ length s). (
          λ (r : (x ≡ 0) × (row ≡ 0 ∷ 0 ∷ [])). (search_given_none s from h).0 (none_shown (search_of s from) (lowest s from h) refl r.1),
          λ (n : (j : ℕ) → from ≤ j → ReadsAt s j → ⊥). tells_none ((search_given_none s from h).1 n),
        );
        beyond = rw t.answered (search_given_9 s from);
      }

pub rk_search_finds : (κs : Lfts 2) (a : Dens κs find-kinds.ps) (x : (res_t find-kinds.r κs).Denot) (s : AtExit (ended_of 2 find-kinds.ps find-kinds.r) κs) → find.Post κs a x s
    → HostFound a.0.now a.1.0 x s.1.1.0.now
rk_search_finds κs a x s p = host_found a.0.now a.1.0 p

-- ======== Private spans

-- 0 exactly where reading's checks of type and length pass, and then place, length and filling byte
-- of span number i; else the number of the check
pub rk_private_span : (κs : Lfts 2) (a : Dens κs private-kinds.ps) (x : (res_t private-kinds.r κs).Denot) (s : AtExit (ended_of 2 private-kinds.ps private-kinds.r) κs) → private.Post κs a x s
    → let span = span_at a.1.1.0 (private_of (kind_of a.0) a.1.0.now) in
    (x ≡ measure_of (kind_of a.0) (length a.1.0.now)) × (x ≡ 0 → s.1.1.1.0.now ≡ span.place ∷ span.len ∷ span.fill ∷ [])
rk_private_span κs a x s p =
    let e : x ≡ measure_of (kind_of a.0) (length a.1.0.now) = p.answered ∙ span_number a.0 a.1.0.now a.1.1.0 in
    (e, λ (z : x ≡ 0). told_0 p z ∙ ap (λ (q : Paper). q.values) (span_told_lem a.0 a.1.0.now a.1.1.0 (sym e ∙ z)))

-- each number exactly when document 01's checks of type and length give it
pub rk_private_given : (κs : Lfts 2) (a : Dens κs private-kinds.ps) (x : (res_t private-kinds.r κs).Denot) (s : AtExit (ended_of 2 private-kinds.ps private-kinds.r) κs) → private.Post κs a x s
    → (n : ℕ) → (x ≡ n) ↔ SpanGiven n a.0 (length a.1.0.now)
rk_private_given κs a x s p = given_as p (λ (n : ℕ). span_given n a.0 a.1.0.now a.1.1.0)

-- so each span that is told lies within the body
pub rk_private_within : (κs : Lfts 2) (a : Dens κs private-kinds.ps) (x : (res_t private-kinds.r κs).Denot) (s : AtExit (ended_of 2 private-kinds.ps private-kinds.r) κs) → private.Post κs a x s
    → x ≡ 0 → Covers (kind_of a.0) a.1.0.now × (get_or s.1.1.1.0.now 0 0 + get_or s.1.1.1.0.now 1 0 ≤ length a.1.0.now)
rk_private_within κs a x s p z =
    let r = rk_private_span κs a x s p in
    let covers = spans_cover (kind_of a.0) a.1.0.now (fits _ _ (sym r.0 ∙ z)).suit in
    (covers, rw (r.1 z) (covers.within a.1.1.0))

-- ======== The field that breaks a rule

field_shown : (f : Option Broken) (row : List ℕ) → row ≡ broken_numbers f → MatchOption f (row ≡ 0 ∷ 0 ∷ 0 ∷ 0 ∷ 0 ∷ []) (λ (g : Broken). row ≡ 1 ∷ g.place ∷ g.len ∷ g.index ∷ g.entry ∷ [])
field_shown (Some f) row e = e
field_shown None row e = e

pub rk_broken_field_tells : (κs : Lfts 2) (a : Dens κs broken-kinds.ps) (x : (res_t broken-kinds.r κs).Denot) (s : AtExit (ended_of 2 broken-kinds.ps broken-kinds.r) κs) → broken.Post κs a x s
    → HostBroken (kind_of a.0) a.1.0.now x s.1.1.0.now
unfolding broken_told told_by
rk_broken_field_tells κs a x s p =
    let k = kind_of a.0 in
    let b = a.1.0.now in
    record {
      field = broken_of k b;
      given = p.answered;
      told = λ (z : x ≡ 0). field_shown (broken_of k b) s.1.1.0.now (p.told ∙ rw (sym p.answered ∙ z));
      holds = λ (z : x ≡ 0). broken_none k b (fits k (length b) (sym p.answered ∙ z)).is;
      lowest_field = broken_lowest k b;
      within = λ (z : x ≡ 0). broken_within k b (sym p.answered ∙ z);
    }

-- ======== Entries

pub rk_entries_opens : (κs : Lfts 2) (a : Dens κs entries-kinds.ps) (x : (res_t entries-kinds.r κs).Denot) (s : AtExit (ended_of 2 entries-kinds.ps entries-kinds.r) κs) → entries.Post κs a x s
    → HostOpened a.0.now x s.1.0.now
unfolding entries_told
rk_entries_opens κs a x s p =
    record {
      given = given_as p (λ (n : ℕ). open_given n a.0.now);
      first = λ (z : x ≡ 0). ap (λ (l : List ℕ). get_or l 0 0) (told_0 p z);
    }

module _ (b : List ℕ) (place : ℕ) {was row : List ℕ} {x : ℕ} (t : Tells (entry_told b place) was x row) where
  step_number : x ≡ (step_of b place).number
  unfolding entry_told
  step_number = t.answered

  module _ (z : x ≡ 0) where
    stands_there : Stands b place
    stands_there = (step_given_0 b place).0 (sym step_number ∙ z)

    short_row : be 5 10 b ≡ 0x4D44303031 → row ≡ 1 ∷ be 2 place b ∷ be 8 (place + 2) b ∷ 0 ∷ 0 ∷ (place + 10) ∷ []
    unfolding entry_told entry_numbers
    short_row e =
        let w = size_one (be 5 10 b) stands_there.w 10 stands_there.kth.size (short e refl) in
        told_0 t z ∙ rw (step_done b place ((stands_says b place).1 stands_there), entry_short b place e, step_moves b place stands_there, w)

    long_row : (be 5 10 b ≡ 0x4D44303031 → ⊥) → row ≡ 0 ∷ be 2 place b ∷ be 8 (place + 2) b ∷ be 8 (place + 10) b ∷ be 1 (place + 18) b ∷ (place + 19) ∷ []
    unfolding entry_told entry_numbers
    long_row e =
        let w = size_one (be 5 10 b) stands_there.w 19 stands_there.kth.size (long e refl) in
        told_0 t z ∙ rw (step_done b place ((stands_says b place).1 stands_there), entry_long b place e, step_moves b place stands_there, w)

  host_stepped : HostStepped b place x row
  host_stepped =
      record {
        given_0 = rw step_number (step_given_0 b place);
        given_20 = rw step_number (step_given_20 b place);
        short = short_row;
        long = long_row;
      }

pub rk_entry_steps : (κs : Lfts 2) (a : Dens κs entry-kinds.ps) (x : (res_t entry-kinds.r κs).Denot) (s : AtExit (ended_of 2 entry-kinds.ps entry-kinds.r) κs) → entry.Post κs a x s
    → HostStepped a.0.now a.1.0 x s.1.1.0.now
rk_entry_steps κs a x s p = host_stepped a.0.now a.1.0 p
