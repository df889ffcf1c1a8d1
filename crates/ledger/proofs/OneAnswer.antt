-- For each public function: two answers that its promise allows are equal. An answer is told from
-- its paper. Assumes nothing.
use mathlib.Core.Path.{◌≡◌, sym, ap₂, ◌∙◌}
use Rattle.std.specs.Prelude.{Result}
use Rattle.terms.specs.declared.Refusal.{Refusal}
use Rattle.terms.specs.OneAnswer.{OneAnswer}
use Rattle.terms.specs.Paper.{Paper}
use Rattle.ledger.specs.Papers.{tick_paper, request_paper, paper_of, count_paper, tick_paper_one, request_paper_one, reply_paper_one, paper_one, count_paper_one}
use Rattle.ledger.specs.declared.Ledger.{Ledger}
use Rattle.ledger.specs.declared.Called.{Called}
use Rattle.ledger.specs.declared.Settled.{Settled}
use Rattle.ledger.proofs.Ledger.opened.Reads as opened
use Rattle.ledger.proofs.Ledger.opened.Kinds as opened-kinds
use Rattle.ledger.proofs.Ledger.tick.Reads as tick
use Rattle.ledger.proofs.Ledger.tick.Kinds as tick-kinds
use Rattle.ledger.proofs.Ledger.announce.Reads as announce
use Rattle.ledger.proofs.Ledger.announce.Kinds as announce-kinds
use Rattle.ledger.proofs.Ledger.request.Reads as request
use Rattle.ledger.proofs.Ledger.request.Kinds as request-kinds
use Rattle.ledger.proofs.Ledger.reply.Reads as reply
use Rattle.ledger.proofs.Ledger.reply.Kinds as reply-kinds
use Rattle.ledger.proofs.Ledger.renewed.Reads as renewed
use Rattle.ledger.proofs.Ledger.renewed.Kinds as renewed-kinds
use Rattle.ledger.proofs.Ledger.missing.Reads as missing
use Rattle.ledger.proofs.Ledger.missing.Kinds as missing-kinds
use Rattle.ledger.proofs.Ledger.held.Reads as held
use Rattle.ledger.proofs.Ledger.held.Kinds as held-kinds
use Rattle.ledger.proofs.Ledger.missing_between.Reads as missing-between
use Rattle.ledger.proofs.Ledger.missing_between.Kinds as missing-between-kinds

-- the ledger beside an answer, and the answer by its paper
called_one : {T : Type 0} (paper : Result T Refusal → Paper) → ((x y : Result T Refusal) → paper x ≡ paper y → x ≡ y) → (x y : Called T) {p : Paper} {n : Ledger}
    → (paper x.answer ≡ p) × (x.next ≡ n) → (paper y.answer ≡ p) × (y.next ≡ n) → x ≡ y
called_one {T} paper one x y p q =
    ap₂ (λ (n : Ledger) (a : Result T Refusal). record { next = n; answer = a }) (p.1 ∙ sym q.1) (one x.answer y.answer (p.0 ∙ sym q.0))

pub Ledger-opened-one-answer : OneAnswer _ opened-kinds.ps opened-kinds.r opened.Post
Ledger-opened-one-answer κs a x y s t p q = called_one paper_of paper_one x y p q

pub Ledger-tick-one-answer : OneAnswer _ tick-kinds.ps tick-kinds.r tick.Post
Ledger-tick-one-answer κs a x y s t p q = called_one tick_paper tick_paper_one x y p q

pub Ledger-announce-one-answer : OneAnswer _ announce-kinds.ps announce-kinds.r announce.Post
Ledger-announce-one-answer κs a x y s t p q = called_one paper_of paper_one x y p q

pub Ledger-request-one-answer : OneAnswer _ request-kinds.ps request-kinds.r request.Post
Ledger-request-one-answer κs a x y s t p q = called_one request_paper request_paper_one x y p q

pub Ledger-reply-one-answer : OneAnswer _ reply-kinds.ps reply-kinds.r reply.Post
Ledger-reply-one-answer κs a x y s t p q =
    ap₂ (λ (n : Ledger) (a : Result Settled Refusal). record { next = n; answer = a }) (p.1 ∙ sym q.1) (reply_paper_one x.answer y.answer (p.0 ∙ sym q.0) p.2 q.2)

pub Ledger-renewed-one-answer : OneAnswer _ renewed-kinds.ps renewed-kinds.r renewed.Post
Ledger-renewed-one-answer κs a x y s t p q = called_one paper_of paper_one x y p q

pub Ledger-missing-one-answer : OneAnswer _ missing-kinds.ps missing-kinds.r missing.Post
Ledger-missing-one-answer κs a x y s t p q = called_one count_paper count_paper_one x y p q

pub Ledger-held-one-answer : OneAnswer _ held-kinds.ps held-kinds.r held.Post
Ledger-held-one-answer κs a x y s t p q = called_one count_paper count_paper_one x y p q

pub Ledger-missing-between-one-answer : OneAnswer _ missing-between-kinds.ps missing-between-kinds.r missing-between.Post
Ledger-missing-between-one-answer κs a x y s t p q = called_one count_paper count_paper_one x y p q
