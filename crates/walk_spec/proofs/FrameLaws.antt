-- What the walk sees and offers of an accepted frame, by document 01's offsets; and of a
-- refused reading.
use Rattle.std.specs.Prelude.{ℕ, ◌+◌, ◌≤◌, ◌≡◌, true, Ok, List, drop}
use Rattle.std.proofs.Math.Path.{refl, ap, ap₂}
use Rattle.std.proofs.Common.{sym, ◌∙◌, arith}
use borrow.Author.Tests.{eqb-true, leb-true}
use Rattle.terms.specs.Counters.{tick_of, channel_of}
use Rattle.octets.specs.Octets.{be}
use Rattle.octets.specs.Numerals.{numeral_drop, numeral_take}
use Rattle.rules.specs.Table.{kind_of, suits}
use Rattle.rules.specs.declared.Kind.{Kind}
use Rattle.rules.specs.declared.Kind.TheVariants.{S001, S002, S003, P001, P002, M101, M102, M201, Unknown}
use Rattle.frame_spec.specs.Frame.{body_length, body, read_of}
use Rattle.frame_view.specs.View.{view_of}
use Rattle.frame_spec.specs.Measures.{fits}
use Rattle.frame_spec.specs.Outcomes.{good}
use Rattle.ledger_spec.specs.State.{Book}
use Rattle.terms.specs.declared.ChannelNumber.{ChannelNumber}
use Rattle.terms.specs.declared.TickNumber.{TickNumber}
use Rattle.reading.specs.declared.Seen.{Seen}
use Rattle.reading.specs.Seen.{seen_of}
use Rattle.reading.proofs.SeenLaws.{seen_frame, seen_answer}
use Rattle.walk_spec.specs.Offers.{calls_for, calls_by, Offer, offering, offer_of}
use Rattle.walk_spec.specs.OfferLaws.{calls_of_lem}
use Rattle.walk_spec.specs.Walk.{made_of, record_by}
use Rattle.walk_spec.specs.Literal.{type_in, tick_in, channel_in, answer_in, ledger_in, ledger_after, frame_record}

-- a number within the body, by its place in the frame
module _ (s : List ℕ) where
  in_body : (w at : ℕ) → at + w ≤ body_length s → be w at (body s) ≡ be w (24 + at) s
  in_body w at h = numeral_take 256 w at (body_length s) (drop 24 s) h ∙ numeral_drop 256 w 24 at s

  view_channel : (k : Kind) → suits k (body_length s) ≡ true → (view_of k (body s)).channel ≡ channel_of (channel_in k s)
  unfolding view_of suits
  view_channel S001 h = refl
  view_channel S002 h = refl
  view_channel S003 h = refl
  view_channel P001 h = let e = eqb-true (body_length s) 12 h in ap channel_of (in_body 2 1 (omega arith))
  view_channel P002 h = let e = eqb-true (body_length s) 52 h in ap channel_of (in_body 2 0 (omega arith))
  view_channel M101 h = refl
  view_channel M102 h = refl
  view_channel M201 h = let e = leb-true 45 (body_length s) h in ap channel_of (in_body 2 1 (omega arith))
  view_channel Unknown h = refl

  view_tick : (k : Kind) → suits k (body_length s) ≡ true → (view_of k (body s)).tick ≡ tick_of (tick_in k s)
  unfolding view_of suits
  view_tick S001 h = refl
  view_tick S002 h = refl
  view_tick S003 h = refl
  view_tick P001 h = let e = eqb-true (body_length s) 12 h in ap tick_of (in_body 8 3 (omega arith))
  view_tick P002 h = let e = eqb-true (body_length s) 52 h in ap tick_of (in_body 8 3 (omega arith))
  view_tick M101 h = refl
  view_tick M102 h = refl
  view_tick M201 h = let e = leb-true 45 (body_length s) h in ap tick_of (in_body 8 3 (omega arith))
  view_tick Unknown h = refl

-- the calls of a type come to its answer and ledger
answer_in_lem : (k : Kind) (b : Book) (f : List ℕ) → (offering b 0 (calls_for k (channel_in k f) (tick_in k f))).number ≡ answer_in k b f
unfolding offering
answer_in_lem S001 b f = refl
answer_in_lem S002 b f = refl
answer_in_lem S003 b f = refl
answer_in_lem P001 b f = refl
answer_in_lem P002 b f = refl
answer_in_lem M101 b f = refl
answer_in_lem M102 b f = refl
answer_in_lem M201 b f = refl
answer_in_lem Unknown b f = refl

ledger_in_lem : (k : Kind) (b : Book) (f : List ℕ) → (offering b 0 (calls_for k (channel_in k f) (tick_in k f))).book ≡ ledger_in k b f
unfolding offering
ledger_in_lem S001 b f = refl
ledger_in_lem S002 b f = refl
ledger_in_lem S003 b f = refl
ledger_in_lem P001 b f = refl
ledger_in_lem P002 b f = refl
ledger_in_lem M101 b f = refl
ledger_in_lem M102 b f = refl
ledger_in_lem M201 b f = refl
ledger_in_lem Unknown b f = refl

-- AN ACCEPTED FRAME

module _ (s : List ℕ) (z : (read_of s).number ≡ 0) where
  suited : suits (type_in s) (body_length s) ≡ true
  suited = (fits _ _ (good s z).whole.measured).suit

  -- what is seen of it are its numbers
  seen_type : (seen_of s).msg_type ≡ be 4 0 s
  seen_type = ap (λ (x : Seen). x.msg_type) (seen_frame s z)

  seen_channel : (seen_of s).channel ≡ channel_of (channel_in (type_in s) s)
  seen_channel = ap (λ (x : Seen). x.channel) (seen_frame s z) ∙ view_channel s (type_in s) suited

  seen_tick : (seen_of s).tick ≡ tick_of (tick_in (type_in s) s)
  seen_tick = ap (λ (x : Seen). x.tick) (seen_frame s z) ∙ view_tick s (type_in s) suited

  frame_calls : calls_by (seen_of s) ≡ calls_for (type_in s) (channel_in (type_in s) s) (tick_in (type_in s) s)
  frame_calls =
      calls_of_lem (seen_of s) (type_in s) (seen_answer s ∙ z) (sym (ap kind_of seen_type))
      ∙ ap₂ (λ (c : ChannelNumber) (t : TickNumber). calls_for (type_in s) c.0 t.0) seen_channel seen_tick

  module _ (b : Book) where
    offer_frame : offer_of b (seen_of s) ≡ offering b 0 (calls_for (type_in s) (channel_in (type_in s) s) (tick_in (type_in s) s))
    unfolding offer_of
    offer_frame = ap₂ (offering b) (seen_answer s ∙ z) frame_calls

    offer_number : (offer_of b (seen_of s)).number ≡ answer_in (type_in s) b s
    offer_number = ap (λ (o : Offer). o.number) offer_frame ∙ answer_in_lem (type_in s) b s

    pub offer_book : (offer_of b (seen_of s)).book ≡ ledger_after b s
    offer_book = ap (λ (o : Offer). o.book) offer_frame ∙ ledger_in_lem (type_in s) b s

    -- its record has them, and the ledger's answer, floor and top after the call
    pub frame_record_lem : (p : ℕ) → record_by b (record { place = p; read = seen_of s }) ≡ frame_record p b s
    unfolding record_by made_of
    frame_record_lem p =
        rw (offer_number, offer_book, seen_channel, seen_tick)
        (ap (λ (x : Seen). made_of p (record { answer = Ok tt; msg_type = x.msg_type; seq = x.seq; channel = channel_of (channel_in (type_in s) s); tick = tick_of (tick_in (type_in s) s); status = 0; body_len = x.body_len; size = 0 }) (answer_in (type_in s) b s) (tick_of (ledger_after b s).floor) (tick_of (ledger_after b s).top)) (seen_frame s z))
