-- A capture that is cleaned while it arrives: each call's bytes up to the place that it tells, from
-- the place told before. The cleaned pieces are, one behind the other, the cleaned capture: no
-- frame is lost, doubled or moved at a cut.
use Rattle.std.specs.Prelude.{ℕ, zero, ◌+◌, ◌-◌, ◌≤◌, ◌≡◌, refl, Bool, true, false, ◌&&◌, eqb, length, take, drop}
use Rattle.std.proofs.Math.Path.{sym, ap, ap₂}
use Rattle.std.proofs.Common.{◌∙◌, ⊎_elim, arith, length-drop, take_all, eqb-true}
use mathlib.Core.List.{List, [], ◌∷◌, ◌++◌, append_assoc, append-nil}
use Rattle.terms.specs.Paper.{pick}
use Rattle.terms.specs.Cases.{two, clash}
use Rattle.ledger_spec.specs.State.{or_else}
use Rattle.private.specs.Scrub.{scrubbed}
use Rattle.walk_laws.specs.Walk.{within}
use Rattle.walk_laws.specs.Frames.{joined, each_of, accepted_of, each_joined}
use Rattle.promises.specs.Parts.{piece_accepts}
use Rattle.reading.specs.Seen.{seen_of, says_of}
use Rattle.reading.proofs.SeenLaws.{seen_kept, seen_fits}
use Rattle.clean_spec.specs.Clean.{clean_of}
use Rattle.clean_spec.specs.Accepted.{accepted_in, clean_is}
use Rattle.clean_spec.specs.Own.{seen_own}
use Rattle.stream_spec.specs.declared.Stream.{Stream}
use Rattle.stream_spec.specs.State.{value_of, opened}
use Rattle.stream_spec.specs.Calls.{Call, Feed, Close, cut_of, closes, number_for, number_to, next_for, next_of}
use Rattle.stream_spec.specs.Trace.{Calls, none, ◌▸◌, Asked, after, accepted, taken, ended, Row}
use Rattle.stream_spec.specs.Words.{wait_at, number_told}
use Rattle.stream_spec.proofs.Cuttings.{every_cutting, closing_call}

-- what one more call decides
abbrev pub piece_of : Calls → Asked → List ℕ
piece_of calls a = take ((after (calls ▸ a)).place - (after calls).place) (drop (after calls).place (taken (calls ▸ a)))

-- the pieces so far, each cleaned, one behind the other
unfoldable pub cleaned_by : Calls → List ℕ
cleaned_by none = []
cleaned_by (calls ▸ a) = cleaned_by calls ++ clean_of (piece_of calls a)

-- ONE CUT MORE

clean_piece : (s c u : List ℕ) → clean_of (drop (wait_at s) ((s ++ c) ++ u)) ≡ clean_of (take (wait_at (s ++ c) - wait_at s) (drop (wait_at s) (s ++ c))) ++ clean_of (drop (wait_at (s ++ c)) ((s ++ c) ++ u))
clean_piece s c u =
    let piece = take (wait_at (s ++ c) - wait_at s) (drop (wait_at s) (s ++ c)) in
    let rest = drop (wait_at (s ++ c)) ((s ++ c) ++ u) in
    clean_is (drop (wait_at s) ((s ++ c) ++ u))
    ∙ ap (λ (fs : List (List ℕ)). joined (each_of scrubbed fs)) (piece_accepts seen_of says_of seen_kept seen_own (λ t n e. (seen_fits t n e).1) s c u)
    ∙ each_joined scrubbed (accepted_in piece) (accepted_in rest)
    ∙ sym (ap₂ (λ (a b : List ℕ). a ++ b) (clean_is piece) (clean_is rest))

-- so far the cleaned pieces, and the bytes that wait with whatever follows, cleaned, are the whole,
-- cleaned; after the closing call the pieces alone are
pub record Cleans (calls : Calls) : Type 0 where
  pub so_far : ended calls ≡ false → (u : List ℕ) → cleaned_by calls ++ clean_of (drop (after calls).place (taken calls ++ u)) ≡ clean_of (taken calls ++ u)
  pub at_end : ended calls ≡ true → cleaned_by calls ≡ clean_of (taken calls)

cleans_none : Cleans none
unfolding cleaned_by taken ended opened value_of
cleans_none = record { so_far = λ e u. refl; at_end = λ e. absurd (clash e refl) }

clean_nothing : clean_of [] ≡ []
unfolding accepted_of each_of joined
clean_nothing = clean_is []

or_none : (b : Bool) → or_else b false ≡ b
or_none true = refl
or_none false = refl

module _ (calls : Calls) (a : Asked) (ih : Cleans calls) where
  abbrev before : Stream
  before = after calls

  abbrev behind : Stream
  behind = after (calls ▸ a)

  abbrev s : List ℕ
  s = taken calls

  -- a refused call decides nothing
  module _ (f : accepted calls a ≡ false) where
    same_after : behind ≡ before
    unfolding next_for
    same_after = rw f

    same_taken : taken (calls ▸ a) ≡ s
    unfolding taken
    same_taken = rw f (append-nil s)

    same_ended : ended (calls ▸ a) ≡ ended calls
    unfolding ended
    same_ended = rw f (or_none (ended calls))

    no_piece : clean_of (piece_of calls a) ≡ []
    no_piece =
        let z : before.place - before.place ≡ 0 = omega arith in
        ap (λ (x : Stream). clean_of (take (x.place - before.place) (drop before.place (taken (calls ▸ a))))) same_after
        ∙ ap (λ (n : ℕ). clean_of (take n (drop before.place (taken (calls ▸ a))))) z
        ∙ clean_nothing

    same_cleaned : cleaned_by (calls ▸ a) ≡ cleaned_by calls
    unfolding cleaned_by
    same_cleaned = ap (λ (l : List ℕ). cleaned_by calls ++ l) no_piece ∙ append-nil (cleaned_by calls)

    refused : Cleans (calls ▸ a)
    refused =
        record {
          so_far = λ e u.
              ap₂ (λ (x y : List ℕ). x ++ y) same_cleaned (ap₂ (λ (x : Stream) (l : List ℕ). clean_of (drop x.place (l ++ u))) same_after same_taken)
              ∙ ih.so_far (sym same_ended ∙ e) u
              ∙ ap (λ (l : List ℕ). clean_of (l ++ u)) (sym same_taken);
          at_end = λ e. same_cleaned ∙ ih.at_end (sym same_ended ∙ e) ∙ ap clean_of (sym same_taken);
        }

  module _ (t : accepted calls a ≡ true) where
    number_0 : number_told calls a.call a.room ≡ 0
    number_0 = sym ((every_cutting calls).numbers a.call a.room) ∙ eqb-true _ 0 t

    late : ended calls ≡ true → number_told calls a.call a.room ≡ 19
    unfolding number_told
    late e = rw e

    unended : ended calls ≡ false
    unended = ⊎_elim (λ (e : ended calls ≡ true). absurd (omega (arith, number_0, late e))) (λ (e : ended calls ≡ false). e) (two (ended calls))

    -- a cut that is taken
    module _ (cut : List ℕ) (e : a.call ≡ Feed cut) where
      more_taken : taken (calls ▸ a) ≡ s ++ cut
      unfolding taken
      more_taken = rw (t, e)

      still_open : ended (calls ▸ a) ≡ false
      unfolding ended
      still_open = rw (unended, t, e)

      stood : before.place ≡ wait_at s
      stood = (every_cutting calls).stands_there unended

      stands : behind.place ≡ wait_at (s ++ cut)
      stands = (every_cutting (calls ▸ a)).stands_there still_open ∙ ap wait_at more_taken

      piece_is : piece_of calls a ≡ take (wait_at (s ++ cut) - wait_at s) (drop (wait_at s) (s ++ cut))
      piece_is = ap₂ take (ap₂ (λ (m n : ℕ). m - n) stands stood) (ap₂ drop stood more_taken)

      fed : Cleans (calls ▸ a)
      unfolding cleaned_by
      fed =
          record {
            so_far = λ z u.
                ap₂ (λ (x y : List ℕ). (cleaned_by calls ++ x) ++ y) (ap clean_of piece_is) (ap₂ (λ (n : ℕ) (l : List ℕ). clean_of (drop n (l ++ u))) stands more_taken)
                ∙ append_assoc (cleaned_by calls) _ _
                ∙ ap (λ (l : List ℕ). cleaned_by calls ++ l) (sym (clean_piece s cut u) ∙ ap₂ (λ (n : ℕ) (l : List ℕ). clean_of (drop n l)) (sym stood) (append_assoc s cut u))
                ∙ ih.so_far unended (cut ++ u)
                ∙ ap clean_of (sym (append_assoc s cut u) ∙ ap (λ (l : List ℕ). l ++ u) (sym more_taken));
            at_end = λ z. absurd (clash z still_open);
          }

    -- the closing call
    module _ (e : a.call ≡ Close) where
      all_taken : taken (calls ▸ a) ≡ s
      unfolding taken
      all_taken = rw (t, e) (append-nil s)

      over : ended (calls ▸ a) ≡ true
      unfolding ended
      over = rw (unended, t, e)

      end : behind.place ≡ length s
      end = omega (arith, (every_cutting (calls ▸ a)).places, (closing_call (calls ▸ a) over).1.none, ap length all_taken)

      rest_is : piece_of calls a ≡ drop before.place s
      rest_is =
          ap₂ (λ (n : ℕ) (l : List ℕ). take (n - before.place) (drop before.place l)) end all_taken
          ∙ take_all (length s - before.place) (drop before.place s) (omega (arith, length-drop before.place s))

      closed : Cleans (calls ▸ a)
      unfolding cleaned_by
      closed =
          record {
            so_far = λ z u. absurd (clash over z);
            at_end = λ z.
                ap (λ (l : List ℕ). cleaned_by calls ++ clean_of l) (rest_is ∙ ap (drop before.place) (sym (append-nil s)))
                ∙ ih.so_far unended []
                ∙ ap clean_of (append-nil s ∙ sym all_taken);
          }

    taken_by : (call : Call) → a.call ≡ call → Cleans (calls ▸ a)
    taken_by (Feed cut) e = fed cut e
    taken_by Close e = closed e

  cleans_more : Cleans (calls ▸ a)
  cleans_more = ⊎_elim (λ (t : accepted calls a ≡ true). taken_by t a.call refl) refused (two (accepted calls a))

-- EVERY ROW OF CALLS
pub cleaned_in_pieces : (calls : Calls) → Cleans calls
cleaned_in_pieces none = cleans_none
cleaned_in_pieces (calls ▸ a) = cleans_more calls a (cleaned_in_pieces calls)

-- of the code's own calls: after the closing one the pieces, each cleaned, are the cleaned capture;
-- and what is between them is told by the places
pub cleaned_whole : {calls : Calls} {x : Stream} → Row calls x → ended calls ≡ true → cleaned_by calls ≡ clean_of (taken calls)
cleaned_whole {calls} row e = (cleaned_in_pieces calls).at_end e
