-- A frame is seen by its own bytes alone, and scrubbing changes nothing that is seen.
use Rattle.std.specs.Prelude.{ℕ, ◌+◌, ◌≡◌, List, [], ◌∷◌, get_or, take, drop}
use Rattle.std.proofs.Common.{sym, ap, ◌∙◌, ⊎_elim, take-append-drop}
use Rattle.terms.specs.Paper.{Paper}
use Rattle.terms.specs.Cases.{same}
use Rattle.rules.specs.Table.{kind_of}
use Rattle.frame_spec.specs.Frame.{msg_type, sending_time, msg_seq_num, body_length, body, read_of}
use Rattle.frame_spec.specs.Outcomes.{good, good_reads}
use Rattle.frame_view.specs.declared.View.{View}
use Rattle.frame_view.specs.View.{view_of}
use Rattle.private.specs.Scrub.{scrubbed}
use Rattle.private.specs.Laws.{refused_same}
use Rattle.private.proofs.Laws.{scrub_reads, scrub_done, scrub_view}
use Rattle.private.proofs.IntoLaws.{own_not_more}
use Rattle.walk_laws.specs.Walk.{frame}
use Rattle.reading.specs.Seen.{shown, seen_of, says_of}
use Rattle.reading.specs.SeenLaws.{frame_says, more_says}
use Rattle.reading.proofs.SeenLaws.{seen_frame, seen_answer, seen_size, seen_kept}

-- AN ACCEPTED FRAME, CUT TO ITS OWN BYTES

own_seen : (s : List ℕ) → (read_of s).number ≡ 0 → seen_of (take (28 + body_length s) s) ≡ seen_of s
own_seen s z =
    let own = take (28 + body_length s) s in
    sym (seen_kept own (drop (28 + body_length s) s) (λ m. own_not_more s z (sym (seen_answer own) ∙ more_says (seen_of own) m)))
    ∙ ap seen_of (take-append-drop (28 + body_length s) s)

-- it is seen as it stands in its capture
pub seen_own : (s : List ℕ) (n : ℕ) → says_of (seen_of s) ≡ frame n → seen_of (take n s) ≡ seen_of s
seen_own s n e =
    let f = frame_says (seen_of s) n e in
    let z : (read_of s).number ≡ 0 = sym (seen_answer s) ∙ f.0 in
    let l : n ≡ 28 + body_length s = sym f.1 ∙ seen_size s z in
    ap (λ (k : ℕ). seen_of (take k s)) l ∙ own_seen s z

-- A SCRUBBED FRAME

module _ (s : List ℕ) (z : (read_of s).number ≡ 0) where
  value : (i : ℕ) → get_or (read_of (scrubbed s)).values i 0 ≡ get_or (read_of s).values i 0
  value i = ap (λ (p : Paper). get_or p.values i 0) (scrub_reads s z)

  value_of_lem : (t : List ℕ) → (read_of t).number ≡ 0 → (i : ℕ) → get_or (read_of t).values i 0 ≡ get_or (msg_type t ∷ sending_time t ∷ msg_seq_num t ∷ body_length t ∷ []) i 0
  value_of_lem t y i = ap (λ (p : Paper). get_or p.values i 0) (good_reads t (good t y))

  scrubbed_value : (i : ℕ) → get_or (msg_type (scrubbed s) ∷ sending_time (scrubbed s) ∷ msg_seq_num (scrubbed s) ∷ body_length (scrubbed s) ∷ []) i 0
      ≡ get_or (msg_type s ∷ sending_time s ∷ msg_seq_num s ∷ body_length s ∷ []) i 0
  scrubbed_value i = sym (value_of_lem (scrubbed s) (scrub_done s z) i) ∙ value i ∙ value_of_lem s z i

  shown_same : (v : View) → shown (scrubbed s) v ≡ shown s v
  shown_same v = rw (scrubbed_value 0, scrubbed_value 2, scrubbed_value 3)

  frame_same : seen_of (scrubbed s) ≡ seen_of s
  frame_same =
      seen_frame (scrubbed s) (scrub_done s z)
      ∙ ap (shown (scrubbed s)) (scrub_view s z)
      ∙ shown_same (view_of (kind_of (msg_type s)) (body s))
      ∙ sym (seen_frame s z)

-- is seen as it was
pub seen_scrubbed : (s : List ℕ) → seen_of (scrubbed s) ≡ seen_of s
seen_scrubbed s =
    ⊎_elim (λ (z : (read_of s).number ≡ 0). frame_same s z) (λ (ne : (read_of s).number ≡ 0 → ⊥). ap seen_of (refused_same s ne)) (same (read_of s).number 0)
