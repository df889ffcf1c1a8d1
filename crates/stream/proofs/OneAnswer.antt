-- For each public function: two answers that its promise allows are equal, so are two later
-- contents of the store and of the buffer lent, and a refusal leaves both as they were. Assumes
-- nothing.
use Prim.Native.Nat.{ℕ}
use mathlib.Core.Path.{◌≡◌, refl, sym, ap, ap₂, ◌∙◌}
use mathlib.Core.Bool.{Bool, true, false}
use mathlib.Core.List.{List, [], ◌++◌}
use denote.RattleType.{RattleType}
use denote.Param.Laws.{Laws}
use mir.Syntax.{Dict}
use Rattle.terms.specs.OneAnswer.{OneAnswer}
use Rattle.terms.specs.OneBuffer.{OneBuffer, RefusedKeeps}
use Rattle.terms.proofs.Verdicts.{verdict_one}
use Rattle.stream_spec.specs.declared.Stream.{Stream}
use Rattle.stream_spec.specs.Calls.{fed_paper}
use Rattle.stream_spec.specs.CallLaws.{Promised}
use Rattle.stream_spec.specs.Answers.{fed_one, Refuses, refused_leaves, refused_stream}
use Rattle.stream.specs.declared.Standing.{Standing}
use Rattle.stream.specs.declared.Answered.{Answered}
use Rattle.stream.specs.Standing.{whole, fed_of, answered_of}
use Rattle.stream.proofs.waits.Reads as waits
use Rattle.stream.proofs.waits.Kinds as waits-kinds
use Rattle.stream.proofs.passes.Reads as passes
use Rattle.stream.proofs.passes.Kinds as passes-kinds
use Rattle.stream.proofs.keep_rest.Reads as keep-rest
use Rattle.stream.proofs.keep_rest.Kinds as keep-rest-kinds
use Rattle.stream.proofs.may_take.Reads as may-take
use Rattle.stream.proofs.may_take.Kinds as may-take-kinds
use Rattle.stream.proofs.feed.Reads as feed
use Rattle.stream.proofs.feed.Kinds as feed-kinds
use Rattle.stream.proofs.close.Reads as close
use Rattle.stream.proofs.close.Kinds as close-kinds

pub keep_rest_one_answer : OneAnswer _ keep-rest-kinds.ps keep-rest-kinds.r keep-rest.Post
keep_rest_one_answer κs a x y s t p q = refl

pub keep_rest_one_buffer : OneBuffer _ keep-rest-kinds.ps keep-rest-kinds.r keep-rest.Post (λ κs s. s.0.now)
keep_rest_one_buffer κs a x y s t p q = p ∙ sym q

pub may_take_one_answer : OneAnswer _ may-take-kinds.ps may-take-kinds.r may-take.Post
may_take_one_answer κs a x y s t p q = verdict_one x y (p ∙ sym q)

-- whatever the answer holds
module _ (T : RattleType) (laws : Laws T) (drops : Dict) where
  pub waits_one_answer : OneAnswer _ (waits-kinds.ps T laws) (waits-kinds.r T laws) (waits.Post T laws drops)
  waits_one_answer κs a x y s t p q = p ∙ sym q

  pub passes_one_answer : OneAnswer _ (passes-kinds.ps T laws) (passes-kinds.r T laws) (passes.Post T laws drops)
  passes_one_answer κs a x y s t p q = p ∙ sym q

-- two answers of one paper and one stream are one
answered_one : (x y : Answered ℕ) (k l : List ℕ) → fed_paper (fed_of x k) ≡ fed_paper (fed_of y l) → (fed_of x k).stream ≡ (fed_of y l).stream → x ≡ y
answered_one x y k l e s = ap answered_of (fed_one (fed_of x k) (fed_of y l) e s)

-- a refusal leaves store and buffer as they were
refused_both : (st : Standing) (kept store : List ℕ) (closing : Bool) (cut d d' : List ℕ) (r : Answered ℕ) → Promised (whole st kept) closing cut d d' (fed_of r store) → Refuses (fed_of r store) → store ++ d' ≡ kept ++ d
refused_both st kept store closing cut d d' r p w =
    ap₂ ◌++◌ (ap (λ (z : Stream). z.kept) (refused_stream (whole st kept) closing cut d d' (fed_of r store) p w)) (refused_leaves (whole st kept) closing cut d d' (fed_of r store) p w)

-- what is lent: the store, of 8,191 bytes, and the buffer behind it

pub feed_one_answer : OneAnswer _ feed-kinds.ps feed-kinds.r feed.Post
feed_one_answer κs a x y s t p q = answered_one x y _ _ (p.0.0 ∙ sym q.0.0) (p.0.1.0 ∙ sym q.0.1.0)

pub feed_one_buffer : OneBuffer _ feed-kinds.ps feed-kinds.r feed.Post (λ κs s. s.1.0.now ++ s.1.1.1.0.now)
feed_one_buffer κs a x y s t p q = ap₂ ◌++◌ (ap (λ (z : Stream). z.kept) (p.0.1.0 ∙ sym q.0.1.0)) (p.0.1.1 ∙ sym q.0.1.1)

pub feed_refused_keeps : RefusedKeeps _ feed-kinds.ps feed-kinds.r feed.Post (λ κs x. Refuses (fed_of x [])) (λ κs a. a.1.0.now ++ a.1.1.1.0.now) (λ κs s. s.1.0.now ++ s.1.1.1.0.now)
feed_refused_keeps κs a x s p w = refused_both a.0 _ _ false a.1.1.0.now _ _ x p.0 w

pub close_one_answer : OneAnswer _ close-kinds.ps close-kinds.r close.Post
close_one_answer κs a x y s t p q = answered_one x y _ _ (p.0 ∙ sym q.0) (p.1.0 ∙ sym q.1.0)

pub close_one_buffer : OneBuffer _ close-kinds.ps close-kinds.r close.Post (λ κs s. s.1.0.now ++ s.1.1.0.now)
close_one_buffer κs a x y s t p q = ap₂ ◌++◌ (ap (λ (z : Stream). z.kept) (p.1.0 ∙ sym q.1.0)) (p.1.1 ∙ sym q.1.1)

pub close_refused_keeps : RefusedKeeps _ close-kinds.ps close-kinds.r close.Post (λ κs x. Refuses (fed_of x [])) (λ κs a. a.1.0.now ++ a.1.1.0.now) (λ κs s. s.1.0.now ++ s.1.1.0.now)
close_refused_keeps κs a x s p w = refused_both a.0 _ _ true [] _ _ x p w
