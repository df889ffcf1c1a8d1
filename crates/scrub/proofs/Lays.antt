-- A frame laid into a buffer and scrubbed there, of `lay_scrubbed`: where the parts lie, and what
-- then stands. Assumes nothing.
use Prim.Native.Nat.{ℕ, ◌+◌, ◌-◌, ◌≤◌}
use mathlib.Core.Path.{◌≡◌, refl, sym, ap, ◌∙◌}
use mathlib.Core.Bool.{true, false}
use mathlib.Core.Logic.{⊎_elim}
use mathlib.Core.List.{List, [], ◌∷◌}
use native.Mathlib.Omega.{arith}
use lib.Dec.{leb}
use lib.ListN.{length, get_or, take, drop, length-drop}
use lib.Seq.{take-take}
use borrow.Author.Tests.{leb-true, le-leb}
use Rattle.terms.specs.Paper.{Paper, answer, one_number}
use Rattle.std.specs.Prelude.{Result}
use Rattle.terms.specs.declared.Refusal.{Refusal}
use Rattle.terms.specs.Cases.{two}
use Rattle.octets.specs.Octets.{be, sum8, laid}
use Rattle.octets.specs.Numerals.{numeral_drop}
use Rattle.octets.specs.Overlays.{length_laid, mid_laid, laid_again}
use Rattle.octets.specs.Papers.{written_paper, Refuses, room_for, laid_if_room, room_there, room_lacks, laid_there, refused_kept}
use Rattle.rules.specs.declared.Kind.{Kind}
use Rattle.rules.specs.Table.{kind_of, suits}
use Rattle.frame_spec.specs.Frame.{msg_type, body_length, read_of}
use Rattle.private.specs.Scrub.{scrubbed}
use Rattle.private.specs.Within.{scrubbed_as, SmallSum}
use Rattle.private.proofs.Laws.{read_there, read_suits, read_sum, read_small, read_scrubs}
use Rattle.private.specs.Into.{frame_in, into_answer, into_leaves}
use Rattle.private.proofs.IntoLaws.{own_long, own_reads, own_type, own_length, into_long, into_room, into_laid, into_refused_keeps}

-- an answer that bytes were laid: how many, and that there was room
room_told : (to n len size : ℕ) → answer 0 (size ∷ []) ≡ room_for to n len → (size ≡ n) × (to + n ≤ len)
room_told to n len size e =
    ⊎_elim (λ (t : leb (to + n) len ≡ true). (ap (λ (p : Paper). get_or p.values 0 0) (e ∙ room_there to n len t), leb-true (to + n) len t))
    (λ (f : leb (to + n) len ≡ false). absurd (omega (arith, one_number (e ∙ room_lacks to n len f))))
    (two (leb (to + n) len))

module _ (bytes : List ℕ) (at : ℕ) (k : Kind) (n : ℕ) (z : (read_of (drop at bytes)).number ≡ 0) (p : k ≡ kind_of (msg_type (drop at bytes))) (q : n ≡ body_length (drop at bytes)) where
  pub inside : at + 28 + n ≤ length bytes
  inside = omega (arith, read_there (drop at bytes) z k n p q, length-drop at bytes)

  pub suits_there : suits k n ≡ true
  suits_there = read_suits (drop at bytes) z k n p q

  pub part_is : (m : ℕ) → m ≡ 28 + n → take m (drop at bytes) ≡ frame_in (drop at bytes)
  part_is m e = ap (λ (x : ℕ). take x (drop at bytes)) (e ∙ ap (λ (x : ℕ). 28 + x) q)

  own_done : (read_of (frame_in (drop at bytes))).number ≡ 0
  own_done = one_number (own_reads (drop at bytes) z) ∙ z

  -- its last byte is the sum of header and body
  pub last_is : be 1 (at + 28 + n - 1) bytes ≡ sum8 (take (24 + n) (frame_in (drop at bytes)))
  last_is =
      let e : at + 28 + n - 1 ≡ at + (27 + n) = omega arith in
      ap (λ (x : ℕ). be 1 x bytes) e
      ∙ sym (numeral_drop 256 1 at (27 + n) bytes)
      ∙ read_sum (drop at bytes) z k n p q
      ∙ ap sum8 (sym (take-take (24 + n) (28 + body_length (drop at bytes)) (drop at bytes) (omega (arith, q))))

  own_kind : k ≡ kind_of (msg_type (frame_in (drop at bytes)))
  own_kind = p ∙ ap kind_of (sym (own_type (drop at bytes) z))

  own_len : n ≡ body_length (frame_in (drop at bytes))
  own_len = q ∙ sym (own_length (drop at bytes) z)

  -- and the three before it are 0
  pub small_is : SmallSum (24 + n) (frame_in (drop at bytes))
  small_is = read_small (frame_in (drop at bytes)) own_done k n own_kind own_len

  module _ (d : List ℕ) (to : ℕ) (part d₁ : List ℕ) (t : part ≡ frame_in (drop at bytes)) (g : d₁ ≡ laid_if_room to part d) where
    long : length part ≡ 28 + body_length (drop at bytes)
    long = ap length t ∙ own_long (drop at bytes) z

    answered : (x : Result ℕ Refusal) → written_paper x ≡ room_for to (length part) (length d) → written_paper x ≡ into_answer (drop at bytes) to (length d)
    answered x e = e ∙ ap (λ (m : ℕ). room_for to m (length d)) long ∙ sym (into_room (drop at bytes) z to (length d))

    -- without room nothing is laid
    pub lacks : (x : Result ℕ Refusal) → Refuses x → written_paper x ≡ room_for to (length part) (length d)
        → (written_paper x ≡ into_answer (drop at bytes) to (length d)) × (d₁ ≡ into_leaves (drop at bytes) to d)
    lacks x r e = (
      answered x e,
      refused_kept to (length part) part d d₁ x refl r e g
          ∙ sym (into_refused_keeps (drop at bytes) to d (into_leaves (drop at bytes) to d) x r (answered x e) refl),
    )

    -- with room the frame lies there
    module _ (size : ℕ) (e : answer 0 (size ∷ []) ≡ room_for to (length part) (length d)) where
      pub size_is : size ≡ 28 + n
      size_is = (room_told to (length part) (length d) size e).0 ∙ long ∙ ap (λ (x : ℕ). 28 + x) (sym q)

      fits : to + length part ≤ length d
      fits = (room_told to (length part) (length d) size e).1

      pub room : to + size ≤ length d
      room = omega (arith, fits, (room_told to (length part) (length d) size e).0)

      is_laid : d₁ ≡ laid to part d
      is_laid = g ∙ laid_there to (length part) part d refl (le-leb (to + length part) (length d) fits)

      pub now_long : length d₁ ≡ length d
      now_long = ap length is_laid ∙ length_laid to part d fits

      pub there : (m : ℕ) → m ≡ size → take m (drop to d₁) ≡ frame_in (drop at bytes)
      there m f =
          ap (λ (x : ℕ). take x (drop to d₁)) (f ∙ (room_told to (length part) (length d) size e).0)
          ∙ ap (λ (l : List ℕ). take (length part) (drop to l)) is_laid
          ∙ mid_laid to part d fits
          ∙ t

      -- and scrubbed there it is what is promised
      scrubs : scrubbed_as k n (frame_in (drop at bytes)) ≡ scrubbed (frame_in (drop at bytes))
      scrubs = read_scrubs (frame_in (drop at bytes)) own_done k n own_kind own_len

      pub lays : (d₂ : List ℕ) (m : ℕ) → m ≡ size → d₂ ≡ laid to (scrubbed_as k n (take m (drop to d₁))) d₁
          → (answer 0 (size ∷ []) ≡ into_answer (drop at bytes) to (length d)) × (d₂ ≡ into_leaves (drop at bytes) to d)
      lays d₂ m f h =
          let clean_long : length (scrubbed (frame_in (drop at bytes))) ≡ length part = into_long (drop at bytes) z ∙ sym long in (
            e ∙ ap (λ (x : ℕ). room_for to x (length d)) long ∙ sym (into_room (drop at bytes) z to (length d)),
            h
                ∙ ap (λ (l : List ℕ). laid to (scrubbed_as k n l) d₁) (there m f)
                ∙ ap (λ (l : List ℕ). laid to l d₁) scrubs
                ∙ ap (laid to (scrubbed (frame_in (drop at bytes)))) is_laid
                ∙ laid_again to part d fits (scrubbed (frame_in (drop at bytes))) clean_long
                ∙ sym (laid_there to (length part) (scrubbed (frame_in (drop at bytes))) d clean_long (le-leb (to + length part) (length d) fits))
                ∙ sym (into_laid (drop at bytes) z to d),
          )
