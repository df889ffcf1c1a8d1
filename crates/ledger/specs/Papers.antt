-- Document 01's number and values for each case of the code's answers; and that each case can be
-- told from its paper.
use Rattle.std.specs.Prelude.{◌≡◌, refl, List, [], ◌∷◌, ℕ, ⊤, Result, Ok, Err, Option, Some, None, get_or}
use Rattle.std.proofs.Common.{sym, ap, ◌∙◌}
use Rattle.terms.specs.Paper.{Paper, answer, refusal}
use Rattle.terms.specs.Counters.{tick_of}
use Rattle.terms.specs.Refusals.{number_of, refusal_not_0, told}
use Rattle.terms.proofs.Refusals.{refusal_back}
use Rattle.terms.specs.declared.Refusal.{Refusal}
use Rattle.tick_map.specs.Bits.{bits_in, map_of}
use Rattle.tick_map.specs.Ring.{rotated, laid}
use Rattle.ledger.specs.declared.Range.{Range}
use Rattle.ledger.specs.declared.Passed.{Passed}
use Rattle.ledger.specs.declared.Settled.{Settled}
use Rattle.ledger_spec.specs.State.{Asked, nothing, range}
use Rattle.ledger.specs.State.{range_of, asked_of, laid_from}

-- ---- the papers, a case a line

abbrev pub tick_paper : Result Passed Refusal → Paper
tick_paper (Ok p) = answer 0 (p.first.0 ∷ p.count ∷ [])
tick_paper (Err why) = refusal (number_of why)

abbrev pub request_paper : Result Range Refusal → Paper
request_paper (Ok r) = answer 0 (r.first.0 ∷ r.last.0 ∷ [])
request_paper (Err why) = refusal (number_of why)

-- a reply's two sets, each read round from the first number; beside a refusal no number, twice none
abbrev pub reply_paper : Result Settled Refusal → Paper
reply_paper (Ok s) = answer 0 (s.first.0 ∷ rotated s.first.0 (bits_in s.given_up) ∷ rotated s.first.0 (bits_in s.passed) ∷ [])
reply_paper (Err why) = answer (number_of why) (0 ∷ 0 ∷ 0 ∷ [])

-- the sets laid back as they are read
abbrev pub laid_reply : Result Settled Refusal → Result Settled Refusal
laid_reply (Ok s) = Ok (record { first = s.first; given_up = laid_from s.first s.given_up; passed = laid_from s.first s.passed })
laid_reply (Err why) = Err why

-- opening, announcing and a new session
abbrev pub paper_of : Result ⊤ Refusal → Paper
paper_of (Ok _) = answer 0 []
paper_of (Err why) = refusal (number_of why)

-- a count, and 0 beside a refusal
abbrev pub count_paper : Result ℕ Refusal → Paper
count_paper (Ok count) = answer 0 (count ∷ [])
count_paper (Err why) = answer (number_of why) (0 ∷ [])

-- the pending request, and none
abbrev pub pending_paper : Option Range → Paper
pending_paper None = answer 0 []
pending_paper (Some r) = answer 0 (r.first.0 ∷ r.last.0 ∷ [])

abbrev pub asked_paper : Asked → Paper
asked_paper nothing = answer 0 []
asked_paper (range first last) = answer 0 (first ∷ last ∷ [])

pub pending_asked : (p : Option Range) → pending_paper p ≡ asked_paper (asked_of p)
pending_asked None = refl
pending_asked (Some r) = refl

-- ---- one paper, one answer: the case is made again from its paper, whatever stands beside a
-- refusal

told_beside : {A : Type 0} (done : List ℕ → A) (refused : Refusal → A) (w : Refusal) (vs : List ℕ) → told done refused (answer (number_of w) vs) ≡ refused w
unfolding told
told_beside done refused w vs = rw (refusal_not_0 w, refusal_back w)

tick_done : List ℕ → Result Passed Refusal
tick_done vs = Ok (record { first = tick_of (get_or vs 0 0); count = get_or vs 1 0 })

tick_back : (a : Result Passed Refusal) → told tick_done Err (tick_paper a) ≡ a
unfolding tick_done told
tick_back (Ok p) = refl
tick_back (Err why) = told_beside tick_done Err why []

pub tick_paper_one : (x y : Result Passed Refusal) → tick_paper x ≡ tick_paper y → x ≡ y
tick_paper_one x y e = sym (tick_back x) ∙ ap (told tick_done Err) e ∙ tick_back y

request_done : List ℕ → Result Range Refusal
request_done vs = Ok (range_of (get_or vs 0 0) (get_or vs 1 0))

request_back : (a : Result Range Refusal) → told request_done Err (request_paper a) ≡ a
unfolding request_done told
request_back (Ok r) = refl
request_back (Err why) = told_beside request_done Err why []

pub request_paper_one : (x y : Result Range Refusal) → request_paper x ≡ request_paper y → x ≡ y
request_paper_one x y e = sym (request_back x) ∙ ap (told request_done Err) e ∙ request_back y

reply_done : List ℕ → Result Settled Refusal
reply_done vs = Ok (record { first = tick_of (get_or vs 0 0); given_up = map_of (laid (get_or vs 0 0) (get_or vs 1 0)); passed = map_of (laid (get_or vs 0 0) (get_or vs 2 0)) })

reply_back : (a : Result Settled Refusal) → told reply_done Err (reply_paper a) ≡ laid_reply a
unfolding reply_done told
reply_back (Ok s) = refl
reply_back (Err why) = told_beside reply_done Err why (0 ∷ 0 ∷ 0 ∷ [])

-- and the sets, where each is laid as it is read
pub reply_paper_one : (x y : Result Settled Refusal) → reply_paper x ≡ reply_paper y → x ≡ laid_reply x → y ≡ laid_reply y → x ≡ y
reply_paper_one x y e p q = p ∙ sym (reply_back x) ∙ ap (told reply_done Err) e ∙ reply_back y ∙ sym q

pending_told : List ℕ → Option Range
pending_told [] = None
pending_told (first ∷ vs) = Some (range_of first (get_or vs 0 0))

pending_told_lem : (p : Option Range) → pending_told (pending_paper p).values ≡ p
unfolding pending_told
pending_told_lem None = refl
pending_told_lem (Some r) = refl

pub pending_paper_one : (x y : Option Range) → pending_paper x ≡ pending_paper y → x ≡ y
pending_paper_one x y e = sym (pending_told_lem x) ∙ ap (λ (p : Paper). pending_told p.values) e ∙ pending_told_lem y

plain_done : List ℕ → Result ⊤ Refusal
plain_done vs = Ok tt

plain_back : (a : Result ⊤ Refusal) → told plain_done Err (paper_of a) ≡ a
unfolding plain_done told
plain_back (Ok tt) = refl
plain_back (Err why) = told_beside plain_done Err why []

pub paper_one : (x y : Result ⊤ Refusal) → paper_of x ≡ paper_of y → x ≡ y
paper_one x y e = sym (plain_back x) ∙ ap (told plain_done Err) e ∙ plain_back y

count_done : List ℕ → Result ℕ Refusal
count_done vs = Ok (get_or vs 0 0)

count_back : (a : Result ℕ Refusal) → told count_done Err (count_paper a) ≡ a
unfolding count_done told
count_back (Ok count) = refl
count_back (Err why) = told_beside count_done Err why (0 ∷ [])

pub count_paper_one : (x y : Result ℕ Refusal) → count_paper x ≡ count_paper y → x ≡ y
count_paper_one x y e = sym (count_back x) ∙ ap (told count_done Err) e ∙ count_back y
