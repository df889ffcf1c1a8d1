-- For each public function: wrong answers that its promise rules out, as tables of what is given
-- and what is then wrong. Assumes nothing.
use Prim.Native.Nat.{ℕ}
use mathlib.Core.Path.{refl, ap}
use mathlib.Core.List.{List, [], ◌∷◌}
use lib.ListN.{drop}
use Rattle.terms.specs.Letters.{spelled}
use Rattle.terms.specs.RuledOut.{Row, ◌never◌, ◌only◌, Kept, RulesOut, ruled, lists}
use Rattle.terms.specs.Refusals.{refusal_of}
use Rattle.terms.specs.declared.Refusal.{Refusal}
use Rattle.terms.specs.declared.Refusal.TheVariants.{Sum, Field}
use Rattle.octets.specs.Octets.{numeral, digits_of, sum8, sum_of}
use Rattle.calendar.specs.Calendar.{leap, days_in, real_parts, real_time}
use Rattle.rules.specs.Table.{kind_of, suits, measure_of}
use Rattle.rules.specs.Fields.{p002_ok, fields_ok, judge_of}
use Rattle.frame_spec.specs.Frame.{checked, read_of, body_read}
use Rattle.frame_spec.specs.Write.{plain_of, frame_of}
use Rattle.frame_spec.specs.Examples.{resend}
use Rattle.frame_view.specs.View.{view_of}
use Rattle.reading.specs.declared.Seen.{Seen}
use Rattle.reading.specs.Seen.{blank, seen_of, seen_number}
use Rattle.reading.proofs.blank.Reads as blanked
use Rattle.reading.proofs.blank.Kinds as blanked-kinds
use Rattle.reading.proofs.see.Reads as see
use Rattle.reading.proofs.see.Kinds as see-kinds

-- all that is seen: answer, MsgType, MsgSeqNum, channel, tick number, resend status,
-- BodyLength, length
abbrev pub shown : Seen → List ℕ
shown x = seen_number x ∷ x.msg_type ∷ x.seq.0 ∷ x.channel.0 ∷ x.tick.0 ∷ x.status ∷ x.body_len ∷ x.size ∷ []

-- a refusal
abbrev pub blank_wrong : List (Row Refusal (List ℕ))
blank_wrong =
    Sum only (5 ∷ 0x20202020 ∷ 0 ∷ 0 ∷ 0 ∷ 0 ∷ 0 ∷ 0 ∷ [])
    ∷ Field never (5 ∷ 0x20202020 ∷ 0 ∷ 0 ∷ 0 ∷ 0 ∷ 0 ∷ 0 ∷ [])  -- one number for every refusal
    ∷ Field never (6 ∷ 0 ∷ 0 ∷ 0 ∷ 0 ∷ 0 ∷ 0 ∷ 0 ∷ [])  -- no spaces for the type
    ∷ []

pub blank_rules_out : RulesOut (Kept _ blanked-kinds.ps blanked-kinds.r blanked.Post) (λ c. c.args.0) (λ c. shown c.result) blank_wrong
blank_rules_out = ruled lists (λ (w : Refusal). shown (blank w)) (λ c p. ap shown p) _ refl

-- bytes and a place
abbrev pub see_wrong : List (Row (List ℕ × ℕ) (List ℕ))
see_wrong =
    (resend 1 0x41, 0) only (0 ∷ spelled "P002" ∷ 1 ∷ 100 ∷ 3 ∷ 1 ∷ 52 ∷ 80 ∷ [])  -- nothing of its RejectText
    ∷ (0xFF ∷ resend 1 0x41, 0) never (2 ∷ 0xFF503030 ∷ 0 ∷ 0 ∷ 0 ∷ 0 ∷ 0 ∷ 0 ∷ [])  -- a refused frame's first bytes copied
    ∷ (0xFF ∷ resend 1 0x41, 0) only (2 ∷ spelled "    " ∷ 0 ∷ 0 ∷ 0 ∷ 0 ∷ 0 ∷ 0 ∷ [])
    ∷ []

pub see_rules_out : RulesOut (Kept _ see-kinds.ps see-kinds.r see.Post) (λ c. (c.args.0.now, c.args.1.0)) (λ c. shown c.result) see_wrong
unfolding plain_of frame_of checked read_of body_read numeral digits_of sum8 sum_of kind_of suits measure_of p002_ok fields_ok real_time real_parts days_in leap judge_of view_of refusal_of seen_of
see_rules_out = ruled lists (λ (i : List ℕ × ℕ). shown (seen_of (drop i.1 i.0))) (λ c p. ap shown p) _ refl
