-- The converse: a scrubbed frame tells its type, its public bytes and so its private places.
use Rattle.std.specs.Prelude.{ℕ, ◌+◌, ◌-◌, ◌/◌, ◌<◌, ◌≤◌, ◌≡◌, refl, ◌⊎◌, List, [], ◌∷◌, ◌++◌, length, take, drop}
use Rattle.std.proofs.Common.{sym, ap₂, ◌∙◌, inl, inr, ⊎_elim, arith, length-append, take_all, length-take-le, get_or-take, get_or-drop, ext_get_or}
use Rattle.std.proofs.Math.Path.{ap}
use Rattle.std.proofs.Math.Dec.{leb}
use Rattle.std.proofs.Math.ListN.{get_or, get_or-eq_default}
use Rattle.terms.specs.Cases.{less}
use Rattle.terms.specs.Paper.{answer}
use Rattle.octets.specs.Octets.{be}
use Rattle.octets.specs.Numerals.{numeral_take}
use Rattle.rules.specs.Table.{kind_of}
use Rattle.frame_spec.specs.Frame.{msg_type, body_length, body, read_of}
use Rattle.frame_spec.specs.Outcomes.{good}
use Rattle.frame_spec.specs.Places.{body_length_lem}
use Rattle.frame_spec.specs.Write.{Message, message_of}
use Rattle.private.specs.Private.{private_of}
use Rattle.private.specs.Scrub.{spans_of, clean_body, scrubbed, scrub_answer}
use Rattle.private.specs.Paint.{Inside, painted_agrees}
use Rattle.private.specs.PrivateLaws.{PrivateByte, private_few, private_same}
use Rattle.private.proofs.PrivateLaws.{private_is}
use Rattle.private.specs.Laws as scrubs
use Rattle.private.specs.Laws.{Alike}
use Rattle.private.proofs.Laws.{spans_within, scrub_message, scrub_keeps, scrub_alike, length_always, answer_as}
use Rattle.walk_laws.specs.Walk.{frame}
use Rattle.walk_laws.specs.Account as Account
use Rattle.walk_laws.specs.Account.{account_of}
use Rattle.walk_laws.specs.Frames.{joined, each_of, Frames, f_nil, f_cons, ReadAlike as SeenAlike, a_nil, a_cons, alike as seen-joined}
use Rattle.reading.specs.Seen.{seen_of, says_of}
use Rattle.reading.specs.SeenLaws.{says_frame}
use Rattle.reading.proofs.SeenLaws.{seen_answer, seen_size, seen_kept, seen_fits}
use Rattle.reading.proofs.Private.{seen_alike}
use Rattle.ledger_spec.specs.Calls.{Request, answer_to, fresh}
use Rattle.ledger_spec.specs.Trace.{none}
use Rattle.walk_spec.specs.Walk as walk
use Rattle.walk_spec.specs.Walk.{sights, record_by, book_by, walk_of, calls_from, calls_of, walk_answer, walk_book, walk_leaves}
use Rattle.walk_spec.specs.Literal.{Walk, literal_walk}
use Rattle.walk_spec.proofs.LiteralLaws.{literal_walk_lem}
use Rattle.listing_text.specs.Listed.{listed_of}
use Rattle.listing_text.specs.Output.{output_of}
use Rattle.month_spec.specs.Figures.{figures_of, figure_of}
use Rattle.month_spec.specs.Page.{Page, figures_in_all, highest}
use Rattle.month_spec.proofs.Lists.{tabled_same, all_same}
use Rattle.month_spec.specs.Calls as month
use Rattle.month_spec.specs.Calls.{figure_at, sum_fits, number_to, figures_told, counted}
use Rattle.month_spec.specs.Trace.{page_after}
use Rattle.clean_spec.specs.Clean as clean
use Rattle.clean_spec.specs.Clean.{clean_of, clean_answer, clean_leaves}
use Rattle.clean_spec.specs.Laws.{AllFrames, joined_sights, clean_joined}
use Rattle.promises_private.specs.TwoCaptures.{PrivateAt, SameButPrivate, Pairwise, no_pair, one_pair, TwoCaptures, SameOutside, AllPairs, no_more, and_more, SamePages, OnlyPrivateHidden}

module _ (f g : List ℕ) (y : (read_of f).number ≡ 0) (z : (read_of g).number ≡ 0) (e : scrubbed f ≡ scrubbed g) where
  same_message : scrubs.clean f ≡ scrubs.clean g
  same_message = sym (scrub_message f y) ∙ ap message_of e ∙ scrub_message g z

  same_type : msg_type f ≡ msg_type g
  same_type = ap (λ (m : Message). m.type) same_message

  -- the spans of a frame are those of its scrubbed body
  spans_left : (a : List ℕ) → (read_of a).number ≡ 0 → spans_of a ≡ private_of (kind_of (msg_type a)) (clean_body a)
  spans_left a r =
      private_same (kind_of (msg_type a)) (body a) (clean_body a)
      (rw (private_few (kind_of (msg_type a)) (body a)) at (painted_agrees 4 (spans_of a) (body a) (spans_within a r)))

  same_spans : spans_of f ≡ spans_of g
  same_spans =
      spans_left f y
      ∙ ap₂ (λ (n : ℕ) (b : List ℕ). private_of (kind_of n) b) same_type (ap (λ (m : Message). m.content) same_message)
      ∙ sym (spans_left g z)

  module _ (v : length f ≡ 28 + body_length f) (w : length g ≡ 28 + body_length g) where
    as_long : length f ≡ length g
    as_long = sym (length_always f) ∙ ap length e ∙ length_always g

    -- a place that is neither private nor of the checksum is kept, in either frame
    kept_in : (a : List ℕ) (r : (read_of a).number ≡ 0) → length a ≡ 28 + body_length a → spans_of a ≡ spans_of f → (p : ℕ) → p + 4 < length a → (PrivateAt f p → ⊥)
        → get_or (scrubbed a) p 0 ≡ get_or a p 0
    kept_in a r n q p l out =
        scrub_keeps a r p
        (⊎_elim
        (λ (h : (24 ≤ p) × Inside (spans_of a) (p - 24)). out (h.0, (private_is (kind_of (msg_type f)) (body f) (p - 24)).0 (rw q at h.1)))
        (λ (h : (24 + body_length a ≤ p) × (p < 28 + body_length a)). omega (arith, n)))

    pub hidden : SameButPrivate f g
    hidden =
        record {
          first_reads = y;
          second_reads = z;
          no_stray = v;
          as_long = as_long;
          elsewhere = λ p l out.
              sym (kept_in f y v refl p l out) ∙ ap (λ (d : List ℕ). get_or d p 0) e ∙ kept_in g z w (sym same_spans) p (rw as_long at l) out;
        }

pub only_private_hidden : OnlyPrivateHidden
only_private_hidden f g y z v w e = hidden f g y z e v w

-- and so frames that are alike, as `private` has it, meet the premise
pub alike_back : (f g : List ℕ) → (read_of f).number ≡ 0 → (read_of g).number ≡ 0 → length f ≡ 28 + body_length f → length g ≡ 28 + body_length g → Alike f g → SameButPrivate f g
alike_back f g y z v w a =
    let all : (h : List ℕ) → length h ≡ 28 + body_length h → take (28 + body_length h) (scrubbed h) ≡ scrubbed h = λ h n. take_all (28 + body_length h) (scrubbed h) (rw (length_always h) (omega (arith, n))) in
    only_private_hidden f g y z v w (sym (all f v) ∙ scrub_alike f g y z a ∙ all g w)
