-- Nothing private is told of a frame: of frames that agree in all but private fields and checksum,
-- rk_read tells the same; and of such bodies rk_broken_field.
use Rattle.std.specs.Prelude.{ℕ, ◌+◌, ◌≤◌, ◌≡◌, refl, List, ◌∷◌, length}
use Rattle.std.proofs.Common.{sym, ap, ◌∙◌, inl, inr, arith}
use Rattle.terms.specs.Paper.{answer}
use Rattle.octets.specs.Octets.{be}
use Rattle.octets.specs.Numerals.{numeral_take}
use Rattle.rules.specs.declared.Kind.{Kind}
use Rattle.rules.specs.declared.Kind.TheVariants.{S001, S002, S003, P001, P002, M101, M102, M201, Unknown}
use Rattle.rules.specs.Fields.{tail_ok}
use Rattle.rules.specs.Table.{kind_of}
use Rattle.broken.specs.Broken.{broken_of}
use Rattle.frame_spec.specs.Frame.{msg_type, sending_time, msg_seq_num, body_length, body, read_of}
use Rattle.frame_spec.specs.Outcomes.{good, good_reads}
use Rattle.frame_spec.specs.Places.{body_of}
use Rattle.frame_view.specs.View.{view_of}
use Rattle.private.specs.Laws.{Alike}
use Rattle.private.specs.Paint.{Agree, number_same}
use Rattle.private.specs.Private.{tail_of, private_of}
use Rattle.private.specs.PrivateLaws.{view_same, agree_all, tail_clear}
use Rattle.host_frames.specs.Frames.{view_numbers, read_told, broken_told}

-- all that is told of a frame that reads
told_frame : (s : List ℕ) → (read_of s).number ≡ 0
    → read_told s ≡ answer 0 (msg_type s ∷ sending_time s ∷ msg_seq_num s ∷ body_length s ∷ view_numbers (view_of (kind_of (msg_type s)) (body s)))
unfolding read_told
told_frame s z = rw (good_reads s (good s z), body_of s z)

module _ (f g : List ℕ) (a : Alike f g) where
  header_same : (w at : ℕ) → at + w ≤ 24 → be w at f ≡ be w at g
  header_same w at h = sym (numeral_take 256 w at 24 f h) ∙ ap (be w at) a.header ∙ numeral_take 256 w at 24 g h

  pub told_alike : (read_of f).number ≡ 0 → (read_of g).number ≡ 0 → read_told f ≡ read_told g
  told_alike y z =
      told_frame f y
      ∙ rw (view_same (kind_of (msg_type f)) (body f) (body g) a.bodies, header_same 4 0 (omega arith), header_same 8 4 (omega arith), header_same 8 12 (omega arith), header_same 4 20 (omega arith))
      (sym (told_frame g z))

-- WHICH FIELD BREAKS A RULE is told from public bytes alone

module _ (a b : List ℕ) (g : Agree (private_of M201 a) a b) where
  fixed_same : (w at : ℕ) → at + w ≤ 45 → be w at a ≡ be w at b
  fixed_same w at h = number_same (private_of M201 a) a b g w at (tail_clear (tail_of a) (length a) w at h)

  tail_ok_same : tail_ok a ≡ tail_ok b
  unfolding tail_ok
  tail_ok_same = rw (fixed_same 5 11 (omega arith), fixed_same 1 28 (omega arith), g.long)

  tick_same : broken_of M201 a ≡ broken_of M201 b
  unfolding broken_of
  tick_same =
      rw (
        fixed_same 1 0 (omega arith),
        fixed_same 2 1 (omega arith),
        fixed_same 8 3 (omega arith),
        fixed_same 4 24 (omega arith),
        fixed_same 1 28 (omega arith),
        fixed_same 8 29 (omega arith),
        fixed_same 8 37 (omega arith),
        tail_ok_same,
        g.long,
      )

pub broken_same : (k : Kind) (a b : List ℕ) → Agree (private_of k a) a b → broken_of k a ≡ broken_of k b
unfolding broken_of
broken_same S001 a b g = rw (number_same (private_of S001 a) a b g 2 64 (inr (omega arith), (inr (omega arith), refl)))
broken_same S002 a b g = rw (number_same (private_of S002 a) a b g 4 0 (inl (omega arith), refl))
broken_same S003 a b g = refl
broken_same P001 a b g = rw (agree_all a b g)
broken_same P002 a b g =
    rw (
      number_same (private_of P002 a) a b g 2 0 (inl (omega arith), refl),
      number_same (private_of P002 a) a b g 1 2 (inl (omega arith), refl),
      number_same (private_of P002 a) a b g 8 3 (inl (omega arith), refl),
      number_same (private_of P002 a) a b g 8 11 (inl (omega arith), refl),
      number_same (private_of P002 a) a b g 1 19 (inl (omega arith), refl),
    )
broken_same M101 a b g = refl
broken_same M102 a b g = rw (agree_all a b g)
broken_same M201 a b g = tick_same a b g
broken_same Unknown a b g = refl

pub broken_alike : (type : ℕ) (a b : List ℕ) → Agree (private_of (kind_of type) a) a b → broken_told type a ≡ broken_told type b
unfolding broken_told
broken_alike type a b g = rw (g.long, broken_same (kind_of type) a b g)
