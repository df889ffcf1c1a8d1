-- Wrong answers that the promise of `view_of` rules out, as a table of what is given and what is
-- then wrong. Assumes nothing.
use Prim.Native.Nat.{ℕ}
use mathlib.Core.Path.{refl, ap}
use mathlib.Core.List.{List, [], ◌∷◌}
use Rattle.terms.specs.RuledOut.{Row, ◌never◌, ◌only◌, Kept, RulesOut, ruled, lists}
use Rattle.octets.specs.Octets.{numeral, digits_of}
use Rattle.rules.specs.Bodies.{logon_body, channel_body, resend_body, tick_body}
use Rattle.rules.specs.declared.Kind.{Kind}
use Rattle.rules.specs.declared.Kind.TheVariants.{S001, P001, P002, M201}
use Rattle.frame_view.specs.declared.View.{View}
use Rattle.frame_view.specs.View.{view_of}
use Rattle.frame_view.proofs.view_of.Reads as view_of
use Rattle.frame_view.proofs.view_of.Kinds as view-of-kinds

-- channel, tick number, first and last resend number, resend status
abbrev shown : View → List ℕ
shown v = v.channel.0 ∷ v.tick.0 ∷ v.first.0 ∷ v.last.0 ∷ v.status ∷ []

-- a type and a body
abbrev pub view_of_wrong : List (Row (Kind × List ℕ) (List ℕ))
view_of_wrong =
    (P001, channel_body 13 0x4E) never (3 ∷ 100 ∷ 0 ∷ 0 ∷ 0 ∷ [])  -- channel and tick number swapped
    ∷ (P001, channel_body 13 0x4E) only (100 ∷ 3 ∷ 0 ∷ 0 ∷ 0 ∷ [])
    ∷ (P002, resend_body 3 5 99 0x41) only (100 ∷ 3 ∷ 3 ∷ 5 ∷ 99 ∷ [])  -- nothing of RejectText
    ∷ (M201, tick_body (0x41 ∷ [])) only (100 ∷ 3 ∷ 0 ∷ 0 ∷ 0 ∷ [])  -- nothing of the tail
    ∷ (S001, logon_body 0x41 0x42 30) only (0 ∷ 0 ∷ 0 ∷ 0 ∷ 0 ∷ [])  -- nothing of a CompID
    ∷ []

pub view_of_rules_out : RulesOut (Kept _ view-of-kinds.ps view-of-kinds.r view_of.Post) (λ c. (c.args.0, c.args.1.0.now)) (λ c. shown c.result) view_of_wrong
unfolding numeral digits_of view_of
view_of_rules_out = ruled lists (λ (i : Kind × List ℕ). shown (view_of i.0 i.1)) (λ c p. ap shown p) _ refl
