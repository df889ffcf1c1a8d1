-- For each public function: two answers that its promise allows are equal, so are two later
-- contents of the store and of the buffer lent, and a refusal leaves both as they were. Assumes
-- nothing.
use Prim.Native.Nat.{ℕ}
use mathlib.Core.Path.{◌≡◌, sym, ap, ap₂, ◌∙◌}
use mathlib.Core.Bool.{Bool, true, false}
use mathlib.Core.List.{List, [], ◌++◌}
use Rattle.terms.specs.OneAnswer.{OneAnswer}
use Rattle.terms.specs.OneBuffer.{OneBuffer, RefusedKeeps}
use Rattle.stream_spec.specs.declared.Stream.{Stream}
use Rattle.stream.specs.declared.Standing.{Standing}
use Rattle.stream.specs.declared.Answered.{Answered}
use Rattle.stream.specs.Standing.{whole, fed_of, answered_of}
use Rattle.stream_spec.specs.Answers.{Refuses}
use Rattle.stream_clean_spec.specs.declared.Sums.{Sums}
use Rattle.stream_clean_spec.specs.Calls.{washed_paper}
use Rattle.stream_clean_spec.specs.CallLaws.{Promised}
use Rattle.stream_clean_spec.specs.Answers.{washed_one, refused_leaves, refused_stream}
use Rattle.stream_clean.proofs.clean_cut.Reads as clean-cut
use Rattle.stream_clean.proofs.clean_cut.Kinds as clean-cut-kinds
use Rattle.stream_clean.proofs.clean_end.Reads as clean_End
use Rattle.stream_clean.proofs.clean_end.Kinds as clean-end-kinds

-- two answers of one paper and one stream are one
cleaned_one : (x y : Answered Sums) (k l : List ℕ) → washed_paper (fed_of x k) ≡ washed_paper (fed_of y l) → (fed_of x k).stream ≡ (fed_of y l).stream → x ≡ y
cleaned_one x y k l e s = ap answered_of (washed_one (fed_of x k) (fed_of y l) e s)

-- a refusal leaves store and buffer as they were
refused_both : (st : Standing) (kept store : List ℕ) (closing : Bool) (cut d d' : List ℕ) (r : Answered Sums) → Promised (whole st kept) closing cut d d' (fed_of r store) → Refuses (fed_of r store) → store ++ d' ≡ kept ++ d
refused_both st kept store closing cut d d' r p w =
    ap₂ ◌++◌ (ap (λ (z : Stream). z.kept) (refused_stream (whole st kept) closing cut d d' (fed_of r store) p w)) (refused_leaves (whole st kept) closing cut d d' (fed_of r store) p w)

-- what is lent: the store, of 8,191 bytes, and the buffer behind it

pub clean_cut_one_answer : OneAnswer _ clean-cut-kinds.ps clean-cut-kinds.r clean-cut.Post
clean_cut_one_answer κs a x y s t p q = cleaned_one x y _ _ (p.0 ∙ sym q.0) (p.1.0 ∙ sym q.1.0)

pub clean_cut_one_buffer : OneBuffer _ clean-cut-kinds.ps clean-cut-kinds.r clean-cut.Post (λ κs s. s.1.0.now ++ s.1.1.1.0.now)
clean_cut_one_buffer κs a x y s t p q = ap₂ ◌++◌ (ap (λ (z : Stream). z.kept) (p.1.0 ∙ sym q.1.0)) (p.1.1 ∙ sym q.1.1)

pub clean_cut_refused_keeps : RefusedKeeps _ clean-cut-kinds.ps clean-cut-kinds.r clean-cut.Post (λ κs x. Refuses (fed_of x [])) (λ κs a. a.1.0.now ++ a.1.1.1.0.now) (λ κs s. s.1.0.now ++ s.1.1.1.0.now)
clean_cut_refused_keeps κs a x s p w = refused_both a.0 _ _ false a.1.1.0.now _ _ x p w

pub clean_end_one_answer : OneAnswer _ clean-end-kinds.ps clean-end-kinds.r clean_End.Post
clean_end_one_answer κs a x y s t p q = cleaned_one x y _ _ (p.0 ∙ sym q.0) (p.1.0 ∙ sym q.1.0)

pub clean_end_one_buffer : OneBuffer _ clean-end-kinds.ps clean-end-kinds.r clean_End.Post (λ κs s. s.1.0.now ++ s.1.1.0.now)
clean_end_one_buffer κs a x y s t p q = ap₂ ◌++◌ (ap (λ (z : Stream). z.kept) (p.1.0 ∙ sym q.1.0)) (p.1.1 ∙ sym q.1.1)

pub clean_end_refused_keeps : RefusedKeeps _ clean-end-kinds.ps clean-end-kinds.r clean_End.Post (λ κs x. Refuses (fed_of x [])) (λ κs a. a.1.0.now ++ a.1.1.0.now) (λ κs s. s.1.0.now ++ s.1.1.0.now)
clean_end_refused_keeps κs a x s p w = refused_both a.0 _ _ true [] _ _ x p w
