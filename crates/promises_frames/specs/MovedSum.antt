-- CR 4: the new checksum comes of the old one, less the bytes that were painted over and with those
-- that stand there now. `moved_right` says it of any spans, and here it is said of the frame that
-- scrubbing leaves.
use Rattle.std.specs.Prelude.{ℕ, ◌+◌, ◌≤◌, ◌≡◌, List, get_or, take}
use Rattle.std.proofs.Common.{sym, ◌∙◌, arith}
use Rattle.std.proofs.Math.Path.{ap}
use Rattle.std.proofs.Math.ListN.{length}
use Rattle.terms.specs.Paper.{Paper}
use Rattle.octets.specs.Octets.{be, laid, sum8}
use Rattle.octets.specs.Sums.{sum8_below}
use Rattle.octets.specs.Overlays.{length_laid, laid_same, be_laid}
use Rattle.frame_spec.specs.Frame.{body_length, body, check_sum, read_of}
use Rattle.frame_spec.specs.Outcomes.{good, good_reads}
use Rattle.frame_spec.specs.Places.{body_length_lem}
use Rattle.private.specs.Scrub.{spans_of, clean_body, summed, scrubbed}
use Rattle.private.specs.Paint.{length_painted}
use Rattle.private.specs.Laws.{scrubs}
use Rattle.private.proofs.Laws.{scrub_reads, scrub_done, spans_within}
use Rattle.private.specs.Moved.{painted_in, moved_sum, painted_there}
use Rattle.private.proofs.Moved.{moved_right}

-- THE FRAME: its new CheckSum is the old one, moved along its private spans
module _ (s : List ℕ) (z : (read_of s).number ≡ 0) where
  there : 28 + body_length s ≤ length s
  there = (good s z).whole.there

  long : length (body s) ≡ body_length s
  long = body_length_lem s there

  same_length : body_length (scrubbed s) ≡ body_length s
  same_length =
      let e = sym (good_reads (scrubbed s) (good (scrubbed s) (scrub_done s z))) ∙ scrub_reads s z ∙ good_reads s (good s z) in
      ap (λ (p : Paper). get_or p.values 3 0) e

  over_there : painted_in (spans_of s) s ≡ laid 24 (clean_body s) s
  over_there =
      ap (painted_in (spans_of s)) (sym (laid_same 24 (body_length s) s (omega (arith, there))))
      ∙ painted_there (spans_of s) (body s) s (spans_within s z) (rw long (omega (arith, there)))

  stored : check_sum (scrubbed s) ≡ sum8 (take (24 + body_length s) (laid 24 (clean_body s) s))
  unfolding summed
  stored =
      let clean_long : length (clean_body s) ≡ body_length s = length_painted (spans_of s) (body s) (spans_within s z) ∙ long in
      let room : 24 + length (clean_body s) ≤ length s = rw clean_long (omega (arith, there)) in
      let d = laid 24 (clean_body s) s in
      ap (λ (n : ℕ). be 4 (24 + n) (scrubbed s)) same_length
      ∙ ap (be 4 (24 + body_length s)) (scrubs s z)
      ∙ be_laid (24 + body_length s) 4 (sum8 (take (24 + body_length s) d)) d (rw (length_laid 24 (clean_body s) s room) (omega (arith, there))) (omega (arith, sum8_below (take (24 + body_length s) d)))

  pub checksum_moved : check_sum (scrubbed s) ≡ moved_sum (spans_of s) (check_sum s) s
  checksum_moved =
      stored
      ∙ ap (λ (d : List ℕ). sum8 (take (24 + body_length s) d)) (sym over_there)
      ∙ sym (moved_right (body_length s) (spans_of s) (check_sum s) s (omega (arith, there)) (rw long at (spans_within s z)) (good s z).sum)
