-- Document 02, CR 2, sentence by sentence, over the scrubbed frame: what stays of a tick's
-- extension, and what is gone.
use Rattle.std.specs.Prelude.{ℕ, ◌+◌, ◌-◌, ◌<◌, ◌≤◌, ◌≡◌, refl, ◌⊎◌, List, length, get_or}
use Rattle.std.proofs.Common.{sym, ap, ◌∙◌, inl, inr, ⊎_elim, arith}
use Rattle.terms.specs.Letters.{spelled}
use Rattle.octets.specs.Octets.{be}
use Rattle.rules.specs.declared.Kind.{Kind}
use Rattle.rules.specs.declared.Kind.TheVariants.{M201}
use Rattle.rules.specs.declared.Layout.{Layout}
use Rattle.rules.specs.declared.Layout.TheVariants.{Order, Trade, Other}
use Rattle.rules.specs.Rules.{LayoutRule, TailRule, FieldRules, M201Rules}
use Rattle.rules.specs.Meaning.{type_is}
use Rattle.rules.specs.Table.{kind_of}
use Rattle.frame_spec.specs.Frame.{msg_type, body_length, body, read_of}
use Rattle.frame_spec.specs.Given.{Meets}
use Rattle.frame_spec.specs.GivenRead.{read_given_0}
use Rattle.frame_spec.specs.Outcomes.{good}
use Rattle.frame_spec.specs.Places.{body_length_lem}
use Rattle.private.specs.Private.{tail_of, tail_spans, private_of}
use Rattle.private.specs.Scrub.{scrubbed, spans_of}
use Rattle.private.specs.Paint.{Inside}
use Rattle.private.specs.PrivateLaws.{TailByte, tail_is}
use Rattle.private.proofs.PrivateLaws.{private_is}
use Rattle.private.proofs.Laws.{scrub_keeps, scrub_fills}

-- A TICK THAT READS, of a layout: "Read the extension by 2.5.4.1 and 2.5.4.2 of source document
-- 000"
module _ (s : List ℕ) (z : (read_of s).number ≡ 0) (t : msg_type s ≡ spelled "M201") (l : Layout) (r : LayoutRule (be 5 11 (body s)) (be 1 28 (body s)) l) where
  long : length (body s) ≡ body_length s
  long = body_length_lem s (good s z).whole.there

  kind_is : kind_of (msg_type s) ≡ M201
  kind_is = type_is M201 (msg_type s) t

  rules_of : (k : Kind) → Meets k s → M201Rules (body s)
  rules_of k m =
      let same : k ≡ M201 = sym (type_is k (msg_type s) m.before.before.before.before.before.before.type) ∙ kind_is in
      rw same at m.fields

  -- "a tail length that doesn't suit its layout is 6": so one that reads has its length
  pub tail_suits : TailRule l (body_length s)
  tail_suits = rw long at (let q = (read_given_0 s).0 z in (rules_of q.0 q.1).tail l r)

  is_read_so : tail_of (body s) ≡ l
  is_read_so = tail_is (body s) l r (rw long tail_suits)

  private_so : (i : ℕ) → Inside (spans_of s) i → TailByte l (body_length s) i
  private_so i h = rw (is_read_so, long) at ((private_is M201 (body s) i).0 (rw kind_is at h))

  so_private : (i : ℕ) → TailByte l (body_length s) i → Inside (spans_of s) i
  so_private i h = rw kind_is ((private_is M201 (body s) i).1 (rw (is_read_so, long) h))

  -- "the rest stays as sent"
  pub rest_stays : (i : ℕ) → i < body_length s → (TailByte l (body_length s) i → ⊥) → get_or (scrubbed s) (24 + i) 0 ≡ get_or s (24 + i) 0
  rest_stays i h out =
      let e : 24 + i - 24 ≡ i = omega arith in
      scrub_keeps s z (24 + i) (λ c. ⊎_elim (λ (q : (24 ≤ 24 + i) × Inside (spans_of s) (24 + i - 24)). out (private_so i (rw e at q.1))) (λ (q : (24 + body_length s ≤ 24 + i) × (24 + i < 28 + body_length s)). omega arith) c)

  pub private_gone : (i : ℕ) → i < body_length s → TailByte l (body_length s) i → get_or (scrubbed s) (24 + i) 0 ≡ 0x20
  private_gone i h p = scrub_fills s z i h (so_private i p)

-- AN ORDER: Side is body byte 45, QuoteID 46 to 63; in the frame 69 and 70 to 87
module _ (s : List ℕ) (z : (read_of s).number ≡ 0) (t : msg_type s ≡ spelled "M201") (r : LayoutRule (be 5 11 (body s)) (be 1 28 (body s)) Order) where
  -- "the support desk can't see side or order number": now it can
  pub side_and_order_number_stay : (i : ℕ) → 45 ≤ i → i < 64 → get_or (scrubbed s) (24 + i) 0 ≡ get_or s (24 + i) 0
  side_and_order_number_stay i a b = rest_stays s z t Order r i (omega (arith, tail_suits s z t Order r)) (not_private i b)
    where
      not_private : (i : ℕ) → i < 64 → TailByte Order (body_length s) i → ⊥
      not_private i b (inl h) = omega arith
      not_private i b (inr (inl h)) = omega arith
      not_private i b (inr (inr h)) = omega arith

  -- "Member and trader codes and free text stay private": MemberID, TraderCode, InvestorName
  pub codes_and_names_gone : (i : ℕ) → ((64 ≤ i) × (i < 76)) ⊎ (((76 ≤ i) × (i < 88)) ⊎ ((120 ≤ i) × (i < 152))) → get_or (scrubbed s) (24 + i) 0 ≡ 0x20
  codes_and_names_gone i h = private_gone s z t Order r i (inside i h) h
    where
      inside : (i : ℕ) → TailByte Order (body_length s) i → i < body_length s
      inside i (inl h) = omega (arith, tail_suits s z t Order r)
      inside i (inr (inl h)) = omega (arith, tail_suits s z t Order r)
      inside i (inr (inr h)) = omega (arith, tail_suits s z t Order r)

-- A TRADE has nothing private: all of its body stays, both order numbers among it
pub trade_stays : (s : List ℕ) → (read_of s).number ≡ 0 → msg_type s ≡ spelled "M201" → LayoutRule (be 5 11 (body s)) (be 1 28 (body s)) Trade
    → (i : ℕ) → i < body_length s → get_or (scrubbed s) (24 + i) 0 ≡ get_or s (24 + i) 0
trade_stays s z t r i h = rest_stays s z t Trade r i h (λ p. p)

-- "AN EXTENSION OF A STREAM NOT NAMED THERE IS WHOLLY PRIVATE and still painted with spaces"
pub not_named_all_gone : (s : List ℕ) → (read_of s).number ≡ 0 → msg_type s ≡ spelled "M201" → LayoutRule (be 5 11 (body s)) (be 1 28 (body s)) Other
    → (i : ℕ) → 45 ≤ i → i < body_length s → get_or (scrubbed s) (24 + i) 0 ≡ 0x20
not_named_all_gone s z t r i a h = private_gone s z t Other r i h (a, h)
