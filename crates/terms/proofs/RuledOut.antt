-- For each public function: wrong answers that its promise rules out, as tables of what is given
-- and what is then wrong. Assumes nothing.
use Prim.Native.Nat.{ℕ}
use mathlib.Core.Path.{refl, ap}
use denote.RattleType.{RattleType}
use denote.Param.Laws.{Laws}
use mir.Syntax.{Dict}
use Rattle.std.specs.Prelude.{Result, Ok, Err}
use mathlib.Core.List.{List, [], ◌∷◌}
use Rattle.terms.specs.RuledOut.{Row, ◌never◌, ◌only◌, Kept, RulesOut, ruled, numbers}
use Rattle.terms.specs.Refusals.{number_of}
use Rattle.terms.specs.Verdicts.{verdict_number}
use Rattle.terms.specs.declared.SessionNumber.{SessionNumber}
use Rattle.terms.specs.declared.TickNumber.{TickNumber}
use Rattle.terms.specs.declared.ChannelNumber.{ChannelNumber}
use Rattle.terms.specs.declared.Refusal.{Refusal}
use Rattle.terms.specs.declared.Refusal.TheVariants.{Sum, Field, Time, Far, Closed, Entries, Full, Open, Captures, Sums, Places, Early, Sequence, Over, Again}
use Rattle.terms.proofs.SessionNumber.new.Reads as session-new
use Rattle.terms.proofs.SessionNumber.new.Kinds as session-new-kinds
use Rattle.terms.proofs.SessionNumber.value.Reads as session-value
use Rattle.terms.proofs.SessionNumber.value.Kinds as session-value-kinds
use Rattle.terms.proofs.TickNumber.new.Reads as tick-new
use Rattle.terms.proofs.TickNumber.new.Kinds as tick-new-kinds
use Rattle.terms.proofs.TickNumber.value.Reads as tick-value
use Rattle.terms.proofs.TickNumber.value.Kinds as tick-value-kinds
use Rattle.terms.proofs.ChannelNumber.new.Reads as channel-new
use Rattle.terms.proofs.ChannelNumber.new.Kinds as channel-new-kinds
use Rattle.terms.proofs.ChannelNumber.value.Reads as channel-value
use Rattle.terms.proofs.ChannelNumber.value.Kinds as channel-value-kinds
use Rattle.terms.proofs.U32FromRefusal.from.Reads as number
use Rattle.terms.proofs.U32FromRefusal.from.Kinds as number-kinds
use Rattle.terms.proofs.number_of.Reads as answer-number
use Rattle.terms.proofs.number_of.Kinds as answer-number-kinds

-- THE COUNTERS: a number, and the counter that is made of it; a counter, and its number. All are
-- wrong in the same ways.
abbrev pub counter_wrong : List (Row ℕ ℕ)
counter_wrong =
    7 only 7  -- not one more, not halved, no fixed number
    ∷ 40001 never 1  -- only some of its digits
    ∷ 0 only 0
    ∷ []

pub SessionNumber-new-rules-out : RulesOut (Kept _ session-new-kinds.ps session-new-kinds.r session-new.Post) (λ c. c.args.0) (λ c. c.result.0) counter_wrong
SessionNumber-new-rules-out = ruled numbers (λ n. n) (λ c p. ap (λ (y : SessionNumber). y.0) p) _ refl

pub SessionNumber-value-rules-out : RulesOut (Kept _ session-value-kinds.ps session-value-kinds.r session-value.Post) (λ c. c.args.0.0) (λ c. c.result) counter_wrong
SessionNumber-value-rules-out = ruled numbers (λ n. n) (λ c p. p) _ refl

pub TickNumber-new-rules-out : RulesOut (Kept _ tick-new-kinds.ps tick-new-kinds.r tick-new.Post) (λ c. c.args.0) (λ c. c.result.0) counter_wrong
TickNumber-new-rules-out = ruled numbers (λ n. n) (λ c p. ap (λ (y : TickNumber). y.0) p) _ refl

pub TickNumber-value-rules-out : RulesOut (Kept _ tick-value-kinds.ps tick-value-kinds.r tick-value.Post) (λ c. c.args.0.0) (λ c. c.result) counter_wrong
TickNumber-value-rules-out = ruled numbers (λ n. n) (λ c p. p) _ refl

pub ChannelNumber-new-rules-out : RulesOut (Kept _ channel-new-kinds.ps channel-new-kinds.r channel-new.Post) (λ c. c.args.0) (λ c. c.result.0) counter_wrong
ChannelNumber-new-rules-out = ruled numbers (λ n. n) (λ c p. ap (λ (y : ChannelNumber). y.0) p) _ refl

pub ChannelNumber-value-rules-out : RulesOut (Kept _ channel-value-kinds.ps channel-value-kinds.r channel-value.Post) (λ c. c.args.0.0) (λ c. c.result) counter_wrong
ChannelNumber-value-rules-out = ruled numbers (λ n. n) (λ c p. p) _ refl

-- REFUSALS: a refusal, and a number
abbrev pub U32FromRefusal_from_wrong : List (Row Refusal ℕ)
U32FromRefusal_from_wrong =
    Sum only 5  -- not counted from 0
    ∷ Field never 5  -- two refusals with one number
    ∷ Time only 7  -- not 6 or 8, which are others'
    ∷ Entries never 18  -- counted on, without the gaps of the table
    ∷ Closed only 19  -- not 20, which is another's
    ∷ Full only 21  -- told from an open channel
    ∷ Open never 21
    ∷ Captures only 27
    ∷ Sums only 28
    ∷ Places only 29  -- not counted on behind 20
    ∷ Early only 30
    ∷ Sequence never 30  -- a wrong number told as too early
    ∷ Over only 32  -- not 33, which is another's
    ∷ Again never 32  -- a second logon told as the end
    ∷ []

pub U32FromRefusal_from_rules_out : RulesOut (Kept _ number-kinds.ps number-kinds.r number.Post) (λ c. c.args.0) (λ c. c.result) U32FromRefusal_from_wrong
U32FromRefusal_from_rules_out = ruled numbers number_of (λ c p. p) _ refl

-- an answer, whatever it holds, and its number
module _ (T : RattleType) (laws : Laws T) (drops : Dict) (held : T.Denot) where
  abbrev pub number_of_wrong : List (Row (Result T.Denot Refusal) ℕ)
  number_of_wrong =
      Ok held only 0
      ∷ Err Sum never 0  -- a refusal told as fine
      ∷ Err Sum only 5
      ∷ Err Far never 0  -- a refusal taken for an answer
      ∷ Err Far only 12
      ∷ []

  pub number_of_rules_out : RulesOut (Kept _ (answer-number-kinds.ps T laws) (answer-number-kinds.r T laws) (answer-number.Post T laws drops)) (λ c. c.args.0) (λ c. c.result) number_of_wrong
  number_of_rules_out = ruled numbers verdict_number (λ c p. p) _ refl
