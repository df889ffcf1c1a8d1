-- One frame read and laid scrubbed: what is laid is the frame that is seen, scrubbed, and it has as
-- many bytes.
use Rattle.std.specs.Prelude.{ℕ, ◌+◌, ◌≡◌, refl, true, false, List, [], ◌∷◌, leb, length, get_or, take}
use Rattle.std.proofs.Common.{sym, ap, ◌∙◌, ⊎_elim, arith}
use Rattle.terms.specs.Paper.{Paper, answer, one_number}
use Rattle.terms.specs.Cases.{two, same}
use Rattle.octets.specs.Papers.{laid_if_room, room_there, room_lacks, laid_there, laid_kept}
use Rattle.octets.specs.Overlays.{laid_nil}
use Rattle.frame_spec.specs.Frame.{body_length, read_of}
use Rattle.frame_spec.specs.GivenRead.{read_given}
use Rattle.private.specs.Scrub.{scrubbed}
use Rattle.private.specs.Into.{into_answer, into_leaves}
use Rattle.private.specs.IntoLaws.{into_kept}
use Rattle.private.proofs.IntoLaws.{into_room, into_laid, into_given_0}
use Rattle.reading.specs.declared.Seen.{Seen}
use Rattle.reading.specs.Seen.{seen_of}
use Rattle.reading.proofs.SeenLaws.{seen_size, seen_blank}
use Rattle.clean_spec.specs.Turns.{scrubbed_none}

pub nothing_laid : (n : ℕ) (d : List ℕ) → d ≡ laid_if_room n [] d
nothing_laid n d =
    ⊎_elim (λ (t : leb (n + 0) (length d) ≡ true). sym (laid_there n 0 [] d refl t ∙ laid_nil n d))
    (λ (f : leb (n + 0) (length d) ≡ false). sym (laid_kept n 0 [] d refl f))
    (two (leb (n + 0) (length d)))

-- what is left, by what is seen: the frame's bytes scrubbed, or none
pub into_seen : (s : List ℕ) (n : ℕ) (d : List ℕ) → into_leaves s n d ≡ laid_if_room n (scrubbed (take (seen_of s).size s)) d
into_seen s n d =
    ⊎_elim (λ (z : (read_of s).number ≡ 0). into_laid s z n d ∙ ap (λ (m : ℕ). laid_if_room n (scrubbed (take m s)) d) (sym (seen_size s z)))
    (λ (ne : (read_of s).number ≡ 0 → ⊥).
    let none : (seen_of s).size ≡ 0 = ap (λ (y : Seen). y.size) (seen_blank s ne) in
    into_kept s ne n d ∙ nothing_laid n d ∙ ap (λ (l : List ℕ). laid_if_room n l d) (sym scrubbed_none) ∙ ap (λ (m : ℕ). laid_if_room n (scrubbed (take m s)) d) (sym none))
    (same (read_of s).number 0)

-- a frame that was laid reads, and has as many bytes as were laid
module _ (s : List ℕ) (n len size : ℕ) (e : answer 0 (size ∷ []) ≡ into_answer s n len) where
  pub laid_reads : (read_of s).number ≡ 0
  laid_reads = (read_given 0 s).1 ((into_given_0 s n len).0 (sym (one_number e))).0

  pub laid_long : size ≡ 28 + body_length s
  laid_long =
      let r = e ∙ into_room s laid_reads n len in
      ⊎_elim (λ (t : leb (n + (28 + body_length s)) len ≡ true). ap (λ (p : Paper). get_or p.values 0 0) (r ∙ room_there n (28 + body_length s) len t))
      (λ (f : leb (n + (28 + body_length s)) len ≡ false). absurd (omega (arith, one_number (r ∙ room_lacks n (28 + body_length s) len f))))
      (two (leb (n + (28 + body_length s)) len))
