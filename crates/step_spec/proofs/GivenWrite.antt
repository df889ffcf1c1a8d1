-- `write_given`: writing gives a number exactly if its condition holds.
use Rattle.std.specs.Prelude.{ℕ, ◌<◌, ◌≤◌, ◌≡◌, true, false, List, ◌↔◌, length}
use Rattle.std.proofs.Common.{sym, ◌∙◌, ⊎_elim, arith}
use Rattle.terms.specs.Paper.{one_number}
use Rattle.terms.specs.Cases.{two, less}
use Rattle.step_tags.specs.Table.{among, types}
use Rattle.step_spec.specs.Written.{frame_of, step_write_of}
use Rattle.step_spec.specs.WriteLaws.{frame_over, write_long, write_type, write_judged, write_room, write_fine}
use Rattle.step_spec.specs.Given.{size_of, Writes, w_long, w_type, w_time, w_fields, w_room, w_frame}
use Rattle.step_spec.specs.GivenRead.{Judged, time, unsound, fine}
use Rattle.step_spec.proofs.GivenRead.{judged_all, judged_fields, judged_time, judged}
use Rattle.step_spec.proofs.WriteLaws.{frame_size}

module _ (type : ℕ) (fs : List ℕ) (room : ℕ) where
  -- the frame is that long, wherever either is at most 8,192
  size_is : length fs ≤ 8192 → length (frame_of type fs) ≡ size_of fs
  size_is h = frame_size type fs h ∙ omega arith

  small_to : size_of fs ≤ 8192 → length (frame_of type fs) ≤ 8192
  small_to h = omega (arith, size_is (omega arith))

  long_to : 8192 < size_of fs → 8192 < length (frame_of type fs)
  long_to h = ⊎_elim (λ (l : 8192 < length fs). omega (arith, frame_over type fs)) (λ (l : length fs ≤ 8192). omega (arith, size_is l)) (less 8192 (length fs))

  -- FROM THE CONDITION TO THE NUMBER

  from : (r : ℕ) → Writes r type fs room → (step_write_of type fs room).number ≡ r
  from r (w_long e l) = one_number (write_long type fs room (long_to l)) ∙ sym e
  from r (w_type e s t) = one_number (write_type type fs room (small_to s) t) ∙ sym e
  from r (w_time e s t u) = one_number (write_judged type fs room (small_to s) t 7 (judged_time type fs u) (λ (z : 7 ≡ 0). omega arith)) ∙ sym e
  from r (w_fields e s t u f) = one_number (write_judged type fs room (small_to s) t 26 (judged_fields type fs u f) (λ (z : 26 ≡ 0). omega arith)) ∙ sym e
  from r (w_room e s t u w l) = one_number (write_room type fs room (small_to s) t (judged_all type fs u w) (omega (arith, size_is (omega arith)))) ∙ sym e
  from r (w_frame e s t u w l) = one_number (write_fine type fs room (small_to s) t (judged_all type fs u w) (omega (arith, size_is (omega arith)))) ∙ sym e

  -- FROM THE NUMBER TO THE CONDITION

  told_7 : size_of fs ≤ 8192 → among type types ≡ true → Judged type fs → Writes (step_write_of type fs room).number type fs room
  told_7 s t (time u) = w_time (one_number (write_judged type fs room (small_to s) t 7 (judged_time type fs u) (λ (z : 7 ≡ 0). omega arith))) s t u
  told_7 s t (unsound u f) = w_fields (one_number (write_judged type fs room (small_to s) t 26 (judged_fields type fs u f) (λ (z : 26 ≡ 0). omega arith))) s t u f
  told_7 s t (fine u w) =
      ⊎_elim (λ (l : room < size_of fs). w_room (one_number (write_room type fs room (small_to s) t (judged_all type fs u w) (omega (arith, size_is (omega arith))))) s t u w l)
      (λ (l : size_of fs ≤ room). w_frame (one_number (write_fine type fs room (small_to s) t (judged_all type fs u w) (omega (arith, size_is (omega arith))))) s t u w l)
      (less room (size_of fs))

  told : Writes (step_write_of type fs room).number type fs room
  told =
      ⊎_elim (λ (l : 8192 < size_of fs). w_long (one_number (write_long type fs room (long_to l))) l) (λ (s : size_of fs ≤ 8192).
      ⊎_elim (λ (t : among type types ≡ true). told_7 s t (judged type fs)) (λ (t : among type types ≡ false). w_type (one_number (write_type type fs room (small_to s) t)) s t) (two (among type types)))
      (less 8192 (size_of fs))

-- WRITING GIVES A NUMBER EXACTLY IF ITS CONDITION HOLDS
pub write_given : (r type : ℕ) (fs : List ℕ) (room : ℕ) → ((step_write_of type fs room).number ≡ r) ↔ Writes r type fs room
write_given r type fs room = (λ (e : (step_write_of type fs room).number ≡ r). rw e at (told type fs room), λ (w : Writes r type fs room). from type fs room r w)
