-- Nothing private is told by rk_read and rk_broken_field: from the promises that the checker makes
-- of the `ensures`. Assumes nothing.
use Prim.Native.Nat.{ℕ}
use mathlib.Core.Path.{◌≡◌, sym, ap, ◌∙◌}
use contract.Lifetimes.{Lfts}
use borrow.Fn.Kinds.{Dens, ended_of, res_t}
use denote.Triple.Clauses.{AtExit}
use lib.ListN.{drop}
use Rattle.terms.specs.Paper.{Paper}
use Rattle.rules.specs.Table.{kind_of}
use Rattle.private.specs.Laws.{Alike}
use Rattle.private.specs.Paint.{Agree}
use Rattle.private.specs.Private.{private_of}
use Rattle.host_words.specs.Told.{told_by}
use Rattle.host_frames.specs.Frames.{read_told, broken_told}
use Rattle.host_frames.specs.Private.{told_alike, broken_alike}
use Rattle.host_frames.proofs.rk_broken_field.Reads as broken
use Rattle.host_frames.proofs.rk_broken_field.Kinds as broken-kinds
use Rattle.host_frames.proofs.rk_read.Reads as read
use Rattle.host_frames.proofs.rk_read.Kinds as read-kinds

-- ======== Nothing private is told: of frames that agree in all but private fields and CheckSum,
-- rk_read tells the same

module _ (κs : Lfts 2) (a c : Dens κs read-kinds.ps) (x y : (res_t read-kinds.r κs).Denot) (s t : AtExit (ended_of 2 read-kinds.ps read-kinds.r) κs) (p : read.Post κs a x s) (q : read.Post κs c y t) where
  pub rk_read_tells_alike : Alike (drop a.1.0 a.0.now) (drop c.1.0 c.0.now) → x ≡ 0 → y ≡ 0 → s.1.1.0.now ≡ t.1.1.0.now
  unfolding told_by read_told
  rk_read_tells_alike f z u =
      let e = told_alike (drop a.1.0 a.0.now) (drop c.1.0 c.0.now) f (sym p.answered ∙ z) (sym q.answered ∙ u) in
      p.told ∙ rw (← p.answered, z) (ap (λ (y : Paper). y.values) e ∙ sym (q.told ∙ rw (← q.answered, u)))

-- ======== Of bodies of one type that agree in all but private bytes, rk_broken_field answers and
-- tells the same, whatever its row was before

module _ (κs : Lfts 2) (a c : Dens κs broken-kinds.ps) (x y : (res_t broken-kinds.r κs).Denot) (s t : AtExit (ended_of 2 broken-kinds.ps broken-kinds.r) κs) (p : broken.Post κs a x s) (q : broken.Post κs c y t) where
  pub rk_broken_field_alike : a.0 ≡ c.0 → Agree (private_of (kind_of a.0) a.1.0.now) a.1.0.now c.1.0.now → (x ≡ y) × (x ≡ 0 → s.1.1.0.now ≡ t.1.1.0.now)
  unfolding told_by
  rk_broken_field_alike e g =
      let same = broken_alike a.0 a.1.0.now c.1.0.now g ∙ ap (λ (n : ℕ). broken_told n c.1.0.now) e in
      let one = p.answered ∙ ap (λ (r : Paper). r.number) same ∙ sym q.answered in
      (one, λ (z : x ≡ 0). p.told ∙ rw (← p.answered, z) (ap (λ (r : Paper). r.values) same ∙ sym (q.told ∙ rw (← q.answered, sym one ∙ z))))
