-- `paint_all`: the spans are those of the body as it was; after i of them the body is painted with
-- the first i, and the sum is that of header and body as they are then. Assumes nothing.
use native.Mathlib.Omega.{arith}
use Prim.Native.Nat.{ℕ, ◌+◌, ◌-◌, ◌≤◌}
use mathlib.Core.Path.{◌≡◌, sym, ap, ◌∙◌}
use mathlib.Core.List.{List, [], ◌∷◌}
use lib.ListN.{length, take, drop}
use Rattle.octets.specs.Octets.{sum_after}
use Rattle.private.specs.declared.Span.{Span}
use Rattle.private.specs.Private.{private_of, span_at}
use Rattle.private.specs.Parts.{parts_spans, suited_spans}
use Rattle.private.specs.Within.{body_in, span_painted}
use Rattle.scrub.proofs.Painted.{Painted, told_all, at_start, room_for, painted_on, painted_all}
use Rattle.scrub.proofs.paint_all.Goals as goal
use Rattle.scrub.proofs.paint_all.Goals.{After-parts_in, In-Nothing, In-One, In-Three, In-Two, Start}

-- all private spans of the body, as a list
abbrev spans : goal.Start → List Span
spans s = private_of s.args.kind (body_in s.args.n s.args.buf.now)

-- the part that was lent is the body
listed : (c : goal.After-parts_in) → parts_spans c.parts_in.result ≡ spans (goal.at.After-parts_in c).Start
listed c =
    let s = c in
    let n = s.args.n in
    let e : 24 + n - 24 ≡ n = omega arith in
    told_all s.args.kind n s.args.buf.now s.requires.0 s.requires.1.0 _ (c.parts_in.ensures ∙ ap (λ (x : ℕ). suited_spans s.args.kind (take x (drop 24 s.args.buf.now))) e)

-- from the function's start: the buffer after i spans, and its sum
module _ (s : goal.Start) where
  abbrev After : ℕ → List ℕ → ℕ → Type 0
  After i e w = Painted s.args.kind s.args.n s.args.buf.now s.requires.0 s.requires.1.0 i e w

  so : After 0 s.args.buf.now s.args.v
  so = at_start s.args.kind s.args.n s.args.buf.now s.requires.0 s.requires.1.0 s.args.v s.requires.1.1

  module _ (i : ℕ) (ps : List Span) (e : List ℕ) (w : ℕ) (r : ps ≡ spans s) (a : After i e w) where
    room : 24 + ((span_at i ps).place + (span_at i ps).len) ≤ length e
    room = room_for s.args.kind s.args.n s.args.buf.now s.requires.0 s.requires.1.0 i (span_at i ps) e w (ap (λ (qs : List Span). span_at i qs) r) a

    on : (e' : List ℕ) (w' : ℕ) → (e' ≡ span_painted (span_at i ps) e) × (w' ≡ sum_after w (take (span_at i ps).len (drop (24 + (span_at i ps).place) e)) (span_at i ps).fill) → After (i + 1) e' w'
    on e' w' x = painted_on s.args.kind s.args.n s.args.buf.now s.requires.0 s.requires.1.0 i (span_at i ps) e w (ap (λ (qs : List Span). span_at i qs) r) a e' w' x.0 x.1

none : (c : goal.In-Nothing) → [] ≡ spans (goal.at.In-Nothing c).Start
none c = sym (ap parts_spans c.in-Nothing.is) ∙ listed (goal.at.In-Nothing c).After-parts_in

one : (c : goal.In-One) → c.in-One.first ∷ [] ≡ spans (goal.at.In-One c).Start
one c = sym (ap parts_spans c.in-One.is) ∙ listed (goal.at.In-One c).After-parts_in

two : (c : goal.In-Two) → c.in-Two.first ∷ c.in-Two.second ∷ [] ≡ spans (goal.at.In-Two c).Start
two c = sym (ap parts_spans c.in-Two.is) ∙ listed (goal.at.In-Two c).After-parts_in

three : (c : goal.In-Three) → c.in-Three.first ∷ c.in-Three.second ∷ c.in-Three.third ∷ [] ≡ spans (goal.at.In-Three c).Start
three c = sym (ap parts_spans c.in-Three.is) ∙ listed (goal.at.In-Three c).After-parts_in

pub paint_span-requires : goal.paint_span-requires
paint_span-requires c =
    let f = c in
    let s = (goal.at.paint_span-requires c).Start in
    room s 0 _ _ _ (one (goal.at.paint_span-requires c).In-One) (so s)

pub paint_span-w-requires : goal.paint_span-w-requires
paint_span-w-requires c =
    let f = c in
    let s = (goal.at.paint_span-w-requires c).Start in
    room s 0 _ _ _ (two (goal.at.paint_span-w-requires c).In-Two) (so s)

pub paint_span-requires-in-Two : goal.paint_span-requires-in-Two
paint_span-requires-in-Two c =
    let f = c in
    let s = (goal.at.paint_span-requires-in-Two c).Start in
    let a = on s 0 _ _ _ (two (goal.at.paint_span-requires-in-Two c).In-Two) (so s) _ _ c.paint_span-w.ensures in
    room s 1 _ _ _ (two (goal.at.paint_span-requires-in-Two c).In-Two) a

pub paint_span-w-requires-in-Three : goal.paint_span-w-requires-in-Three
paint_span-w-requires-in-Three c =
    let f = c in
    let s = (goal.at.paint_span-w-requires-in-Three c).Start in
    room s 0 _ _ _ (three (goal.at.paint_span-w-requires-in-Three c).In-Three) (so s)

pub paint_span-x-requires : goal.paint_span-x-requires
paint_span-x-requires c =
    let f = c in
    let s = (goal.at.paint_span-x-requires c).Start in
    let a = on s 0 _ _ _ (three (goal.at.paint_span-x-requires c).In-Three) (so s) _ _ c.paint_span-w-in-Three.ensures in
    room s 1 _ _ _ (three (goal.at.paint_span-x-requires c).In-Three) a

pub paint_span-requires-in-Three : goal.paint_span-requires-in-Three
paint_span-requires-in-Three c =
    let f = c in
    let s = (goal.at.paint_span-requires-in-Three c).Start in
    let a = on s 0 _ _ _ (three (goal.at.paint_span-requires-in-Three c).In-Three) (so s) _ _ c.paint_span-w-in-Three.ensures in
    let b = on s 1 _ _ _ (three (goal.at.paint_span-requires-in-Three c).In-Three) a _ _ c.paint_span-x.ensures in
    room s 2 _ _ _ (three (goal.at.paint_span-requires-in-Three c).In-Three) b

pub returns-in-Nothing : goal.returns-in-Nothing
returns-in-Nothing c =
    let f = c in
    let s = (goal.at.returns-in-Nothing c).Start in
    painted_all s.args.kind s.args.n s.args.buf.now s.requires.0 s.requires.1.0 0 _ _ [] (none (goal.at.returns-in-Nothing c).In-Nothing) (omega arith) (so s)

pub returns-in-One : goal.returns-in-One
returns-in-One c =
    let f = c in
    let s = (goal.at.returns-in-One c).Start in
    let a = on s 0 _ _ _ (one (goal.at.returns-in-One c).In-One) (so s) _ _ c.paint_span.ensures in
    painted_all s.args.kind s.args.n s.args.buf.now s.requires.0 s.requires.1.0 1 _ _ _ (one (goal.at.returns-in-One c).In-One) (omega arith) a

pub returns-in-Two : goal.returns-in-Two
returns-in-Two c =
    let f = c in
    let s = (goal.at.returns-in-Two c).Start in
    let a = on s 0 _ _ _ (two (goal.at.returns-in-Two c).In-Two) (so s) _ _ c.paint_span-w.ensures in
    let b = on s 1 _ _ _ (two (goal.at.returns-in-Two c).In-Two) a _ _ c.paint_span-in-Two.ensures in
    painted_all s.args.kind s.args.n s.args.buf.now s.requires.0 s.requires.1.0 2 _ _ _ (two (goal.at.returns-in-Two c).In-Two) (omega arith) b

pub returns-in-Three : goal.returns-in-Three
returns-in-Three c =
    let f = c in
    let s = (goal.at.returns-in-Three c).Start in
    let a = on s 0 _ _ _ (three (goal.at.returns-in-Three c).In-Three) (so s) _ _ c.paint_span-w-in-Three.ensures in
    let b = on s 1 _ _ _ (three (goal.at.returns-in-Three c).In-Three) a _ _ c.paint_span-x.ensures in
    let e = on s 2 _ _ _ (three (goal.at.returns-in-Three c).In-Three) b _ _ c.paint_span-in-Three.ensures in
    painted_all s.args.kind s.args.n s.args.buf.now s.requires.0 s.requires.1.0 3 _ _ _ (three (goal.at.returns-in-Three c).In-Three) (omega arith) e
