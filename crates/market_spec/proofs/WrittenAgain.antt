-- CR 10, both round trips over bytes: what is written from the values of a sound file is that file;
-- and the values of a file that was
-- written are those that it was written from.
use Rattle.std.specs.Prelude.{ℕ, ◌<◌, ◌≤◌, ◌≡◌, refl, ◌&&◌, List, leb, length}
use Rattle.std.proofs.Common.{sym, ap, ◌∙◌, ⊎_elim, arith}
use borrow.Author.Tests.{leb-true}
use Rattle.terms.specs.Paper.{Paper}
use Rattle.terms.specs.Cases.{less}
use Rattle.digits.specs.Laws.{both}
use Rattle.market_columns.specs.Columns.{header}
use Rattle.market_spec.specs.File.{fine, place_of, fault_of}
use Rattle.market_spec.specs.Told.{Told, at_place, refused, not_fine}
use Rattle.market_spec.specs.LineValues.{line_fits}
use Rattle.market_spec.specs.LinesValues.{lines_fit}
use Rattle.market_spec.specs.Sound.{head_values, file_of, values_fit, values_of, Sound}
use Rattle.market_spec.specs.Walk.{Finding, finding_told}
use Rattle.market_spec.specs.FileBytes.{values_bytes, values_answer, values_given, written_answer}
use Rattle.market_spec.proofs.Sound.{sound_exactly, sound_made}
use Rattle.market_spec.proofs.Walk.{found}
use Rattle.market_spec.specs.WrittenAgain.{Again, written_fine, values_read, own_fits, Back, given_bytes, given_fits, made, values_wrong, values_lack, values_fine}

pub written_again : (room : ℕ) (s : List ℕ) → Sound s → length s ≤ room → Again room s
unfolding values_fit
written_again room s g h =
    let v = values_of s in
    let m = sound_exactly s g in
    let p = both (leb (length (file_of v)) 65536) (line_fits header (head_values v) && lines_fit v.lines) m.0 in
    let q = both (line_fits header (head_values v)) (lines_fit v.lines) p.1 in
    let r = values_read v (own_fits v q.0) q.1 in
    let e : file_of (values_given (values_bytes v)) ≡ s = ap file_of r.same_values ∙ sym m.1 in
    let l : length (file_of v) ≡ length s = ap length (sym m.1) in
    record {
      answered = written_fine room (values_bytes v) r.answered (rw e (omega (arith, leb-true (length (file_of v)) 65536 p.0, l))) (rw e h) ∙ ap (λ (i : List ℕ). fine (length i)) e;
      same_bytes = e;
    }

pub values_again : (room n : ℕ) (x : List ℕ) → written_answer room x ≡ fine n → Back room n x
values_again room n x p =
    let m = made room n x p in
    let f = given_fits x m.taken m.few in
    let s = sound_made (values_given x) f in
    record {
      sound = (length (values_given x).lines, s.answered);
      same_values = s.same_values;
      same_bytes = λ b. ap values_bytes s.same_values ∙ given_bytes x b m.taken;
    }

-- values are given of sound files alone, with their size
pub taken_out : (room n : ℕ) (s : List ℕ) → values_answer room s ≡ fine n → Sound s × (length (values_bytes (values_of s)) ≡ n)
taken_out room n s p = by (found s) refl
  where
    end : (q : Paper) → Told q → fault_of s ≡ q → Sound s × (length (values_bytes (values_of s)) ≡ n)
    end q (refused m i z e) f = absurd (not_fine m i n z (sym (values_wrong room s m i z (f ∙ e)) ∙ p))
    end q (at_place k e) f =
        ⊎_elim (λ (b : room < length (values_bytes (values_of s))). absurd (not_fine 8 0 n (λ z. omega arith) (sym (values_lack room s k (f ∙ e) b) ∙ p)))
        (λ (b : length (values_bytes (values_of s)) ≤ room). ((k, f ∙ e), ap place_of (sym (values_fine room s k (f ∙ e) b) ∙ p)))
        (less room (length (values_bytes (values_of s))))

    by : {q : Paper} → Finding s q → fault_of s ≡ q → Sound s × (length (values_bytes (values_of s)) ≡ n)
    by {q} d f = end q (finding_told d) f
