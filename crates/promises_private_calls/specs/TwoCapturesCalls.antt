-- CR 13 of whatever the functions may answer by the promises that the checker makes of their
-- `ensures`: the same call on two captures that meet the premise, with the same bytes in all that
-- is lent beside them, answers the same and leaves the same bytes.
use Rattle.std.specs.Prelude.{ℕ, ◌+◌, ◌≡◌, refl, List, [], ◌∷◌, length, take, get_or, Result}
use Rattle.std.proofs.Common.{sym, ap, ap₂, ◌∙◌}
use contract.Lifetimes.{Lfts}
use borrow.Fn.Kinds.{ParamKind, ResultKind, Dens, res_t, ended_of, Out}
use denote.Triple.Clauses.{AtExit}
use Rattle.terms.specs.Paper.{Paper}
use Rattle.octets.specs.Papers.{written_one}
use Rattle.frame_spec.specs.Frame.{body_length, read_of}
use Rattle.private.specs.Scrub.{scrubbed, scrub_answer}
use Rattle.private.proofs.Laws.{answer_as}
use Rattle.ledger.specs.State.{book_of, ledger_of, next_in}
use Rattle.ledger.specs.declared.Ledger.{Ledger}
use Rattle.ledger.specs.declared.Called.{Called}
use Rattle.ledger.specs.declared.Range.{Range}
use Rattle.terms.specs.declared.Refusal.{Refusal}
use Rattle.ledger_spec.specs.Calls.{Request, answer_to}
use Rattle.clean_spec.specs.Clean.{clean_answer, clean_leaves}
use Rattle.walk_spec.specs.Walk.{sights, walk_answer, walk_book, walk_leaves}
use Rattle.walk.specs.Answers.{walked_one}
use Rattle.clean.specs.Answers.{cleaned_one}
use Rattle.host_words.specs.Told.{told_by, Tells, both, both_one}
use Rattle.host_words.specs.Calls.{call_told, words_after}
use Rattle.host_captures.specs.Captures.{walk_words, listing_told, listing_leaves}
use Rattle.octets.specs.Papers.{room_for, laid_if_room}
use Rattle.listing_text.specs.Whole.{listing_of}
use Rattle.listing_text.specs.declared.Summary.{Summary}
use Rattle.listing_text.proofs.put_listing.Reads as put-listing
use Rattle.listing_text.proofs.put_listing.Kinds as put-listing-kinds
use Rattle.walk.specs.declared.Walked.{Walked}
use Rattle.walk.proofs.walk.Reads as walk
use Rattle.walk.proofs.walk.Kinds as walk-kinds
use Rattle.clean.proofs.clean.Reads as clean
use Rattle.clean.proofs.clean.Kinds as clean-kinds
use Rattle.scrub.proofs.scrub.Reads as scrub
use Rattle.scrub.proofs.scrub.Kinds as scrub-kinds
use Rattle.ledger.proofs.Ledger.request.Reads as request
use Rattle.ledger.proofs.Ledger.request.Kinds as request-kinds
use Rattle.ledger.specs.Papers.{request_paper_one}
use Rattle.month_spec.specs.Calls as month
use Rattle.month.specs.declared.Month.{Month}
use Rattle.month.specs.State.{page_in, month_of, added_paper}
use Rattle.month.proofs.OneAnswer.{added_one}
use Rattle.month.proofs.Month.added.Reads as added
use Rattle.month.proofs.Month.added.Kinds as added-kinds
use Rattle.host_month.specs.Words as month-words
use Rattle.host_month.specs.Words.{page_words}
use Rattle.host_month.proofs.rk_month_add.Reads as rk-month-add
use Rattle.host_month.proofs.rk_month_add.Kinds as rk-month-add-kinds
use Rattle.host_captures.proofs.rk_walk.Reads as rk-walk
use Rattle.host_captures.proofs.rk_walk.Kinds as rk-walk-kinds
use Rattle.host_captures.proofs.rk_listing.Reads as rk-listing
use Rattle.host_captures.proofs.rk_listing.Kinds as rk-listing-kinds
use Rattle.host_captures.proofs.rk_clean.Reads as rk-clean
use Rattle.host_captures.proofs.rk_clean.Kinds as rk-clean-kinds
use Rattle.host_frames.proofs.rk_scrub.Reads as rk-scrub
use Rattle.host_frames.proofs.rk_scrub.Kinds as rk-scrub-kinds
use Rattle.host_ledger.proofs.rk_ledger_request.Reads as rk-ledger-request
use Rattle.host_ledger.proofs.rk_ledger_request.Kinds as rk-ledger-request-kinds
use Rattle.promises_private.specs.TwoCaptures.{SameButPrivate, TwoCaptures, SameOutside}
use Rattle.promises_private.proofs.TwoCapturesHold.{same_frame, same_scrub_answer, same_outside}

-- two calls of one function whose arguments agree: whatever its promise allows, the answers are
-- equal, and so is what is lent, as it is left
abbrev pub CantTell : (n : ℕ) (ps : List (ParamKind n)) (r : ResultKind n) → Out n ps r → ((κs : Lfts n) → Dens κs ps → Dens κs ps → Type 0) → ((κs : Lfts n) → AtExit (ended_of n ps r) κs → List ℕ) → Type 0
CantTell n ps r post agree lent =
    (κs : Lfts n) (a b : Dens κs ps) (x y : (res_t r κs).Denot) (s t : AtExit (ended_of n ps r) κs) → agree κs a b → post κs a x s → post κs b y t
    → (x ≡ y) × (lent κs s ≡ lent κs t)

-- what the two captures are, and that what is lent beside them holds the same bytes
abbrev Asked : List ℕ → List ℕ → List ℕ → List ℕ → Type 0
Asked s t d e = TwoCaptures s t × (d ≡ e)

-- IN RATTLE

-- `walk`: counts, ledger and records
pub walk_cant_tell : CantTell _ walk-kinds.ps walk-kinds.r walk.Post (λ κs a b. Asked a.0.now b.0.now a.1.0.now b.1.0.now) (λ κs s. s.1.0.now)
walk_cant_tell κs a b x y s t g p q =
    let o = same_outside a.0.now b.0.now g.0 in
    let n : length a.1.0.now ≡ length b.1.0.now = ap length g.1 in (
      walked_one x y (p.0 ∙ o.same_answer _ ∙ ap (walk_answer b.0.now) n ∙ sym q.0) (p.1.0 ∙ ap ledger_of (o.same_ledger _ ∙ ap (walk_book b.0.now) n) ∙ sym q.1.0),
      p.1.1 ∙ o.same_table _ ∙ ap (walk_leaves b.0.now) g.1 ∙ sym q.1.1,
    )

-- a request's answer, beside the ledger after it
abbrev called : Ledger → Result Range Refusal → Called Range
called n w = record { next = n; answer = w }

-- `Ledger::request`, asked of the ledger that each walk has left: these are equal, by the theorem
-- above
pub request_cant_tell : CantTell _ request-kinds.ps request-kinds.r request.Post (λ κs a b. (a.0 ≡ b.0) × (a.1.0 ≡ b.1.0)) (λ κs s. [])
request_cant_tell κs a b x y s t g p q =
    let e : answer_to (book_of a.0) (Request a.1.0.0) ≡ answer_to (book_of b.0) (Request b.1.0.0) = rw (g.0, g.1) in
    let f : next_in a.0 (Request a.1.0.0) ≡ next_in b.0 (Request b.1.0.0) = rw (g.0, g.1) in
    (ap₂ called (p.1 ∙ f ∙ sym q.1) (request_paper_one x.answer y.answer (p.0 ∙ e ∙ sym q.0)), refl)

-- the two, one after the other: what a request on the ledger of each walk answers
pub walk_then_request : (κs : Lfts 2) (a b : Dens κs walk-kinds.ps) (x y : (res_t walk-kinds.r κs).Denot) (s t : AtExit (ended_of _ walk-kinds.ps walk-kinds.r) κs)
    → Asked a.0.now b.0.now a.1.0.now b.1.0.now → walk.Post κs a x s → walk.Post κs b y t
    → (ιs : Lfts 0) (c d : Dens ιs request-kinds.ps) (u v : (res_t request-kinds.r ιs).Denot) (k l : AtExit (ended_of _ request-kinds.ps request-kinds.r) ιs)
    → c.0 ≡ x.ledger → d.0 ≡ y.ledger → c.1.0 ≡ d.1.0 → request.Post ιs c u k → request.Post ιs d v l → u ≡ v
walk_then_request κs a b x y s t g p q ιs c d u v k l e f h m n =
    let same : x.ledger ≡ y.ledger = ap (λ (w : Walked). w.ledger) (walk_cant_tell κs a b x y s t g p q).0 in
    (request_cant_tell ιs c d u v k l (e ∙ same ∙ sym f, h) m n).0

-- `put_listing`, given the same records and numbers
pub put_listing_cant_tell : CantTell _ put-listing-kinds.ps put-listing-kinds.r put-listing.Post
    (λ κs a b. (a.0.now ≡ b.0.now) × ((a.1.0.now ≡ b.1.0.now) × (a.1.1.0 ≡ b.1.1.0))) (λ κs s. s.0.now)
put_listing_cant_tell κs a b x y s t g p q =
    let e : listing_of a.1.0.now a.1.1.0 ≡ listing_of b.1.0.now b.1.1.0 = ap₂ listing_of g.1.0 g.1.1 in (
      written_one x y (p.0 ∙ ap₂ (λ (l d : List ℕ). room_for 0 (length l) (length d)) e g.0 ∙ sym q.0),
      p.1 ∙ ap₂ (laid_if_room 0) e g.0 ∙ sym q.1,
    )

-- the two, one after the other: the listing of the first n bytes of each walk's records, with
-- numbers that are made alike of what each walk answered
pub walk_then_listing : (κs : Lfts 2) (a b : Dens κs walk-kinds.ps) (x y : (res_t walk-kinds.r κs).Denot) (s t : AtExit (ended_of _ walk-kinds.ps walk-kinds.r) κs)
    → Asked a.0.now b.0.now a.1.0.now b.1.0.now → walk.Post κs a x s → walk.Post κs b y t
    → (ιs : Lfts 2) (c d : Dens ιs put-listing-kinds.ps) (u v : (res_t put-listing-kinds.r ιs).Denot) (k l : AtExit (ended_of _ put-listing-kinds.ps put-listing-kinds.r) ιs)
    → (n : ℕ) (numbers : Walked → Summary) → c.1.0.now ≡ take n s.1.0.now → d.1.0.now ≡ take n t.1.0.now → c.1.1.0 ≡ numbers x → d.1.1.0 ≡ numbers y
    → c.0.now ≡ d.0.now → put-listing.Post ιs c u k → put-listing.Post ιs d v l → (u ≡ v) × (k.0.now ≡ l.0.now)
walk_then_listing κs a b x y s t g p q ιs c d u v k l n numbers e f i j h m o =
    let w = walk_cant_tell κs a b x y s t g p q in
    put_listing_cant_tell ιs c d u v k l (h, (e ∙ ap (take n) w.1 ∙ sym f, i ∙ ap numbers w.0 ∙ sym j)) m o

-- `scrub`, of two frames
pub scrub_cant_tell : CantTell _ scrub-kinds.ps scrub-kinds.r scrub.Post (λ κs a b. SameButPrivate a.0.now b.0.now) (λ κs s. s.0.now)
scrub_cant_tell κs a b x y s t g p q =
    (written_one x y (p.0 ∙ same_scrub_answer _ _ g ∙ sym q.0), p.1 ∙ same_frame _ _ g ∙ sym q.1)

-- `clean`: counts and scrubbed bytes
pub clean_cant_tell : CantTell _ clean-kinds.ps clean-kinds.r clean.Post (λ κs a b. Asked a.0.now b.0.now a.1.0.now b.1.0.now) (λ κs s. s.1.0.now)
clean_cant_tell κs a b x y s t g p q =
    let o = same_outside a.0.now b.0.now g.0 in (
      cleaned_one x y (p.0 ∙ o.same_cleaned _ ∙ ap (λ (d : List ℕ). clean_answer b.0.now (length d)) g.1 ∙ sym q.0),
      p.1 ∙ o.same_clean _ ∙ ap (clean_leaves b.0.now) g.1 ∙ sym q.1,
    )

-- `Month::added`, on the same page: the figures, and the page after it
pub added_cant_tell : CantTell _ added-kinds.ps added-kinds.r added.Post (λ κs a b. (a.0 ≡ b.0) × TwoCaptures a.1.0.now b.1.0.now) (λ κs s. [])
added_cant_tell κs a b x y s t g p q =
    let o = same_outside a.1.0.now b.1.0.now g.1 in
    let e : added_paper x ≡ added_paper y = p.0 ∙ o.same_added (page_in a.0) ∙ ap (λ (m : Month). month.answer_to (page_in m) b.1.0.now) g.0 ∙ sym q.0 in
    let f : x.page ≡ y.page = p.1 ∙ ap month_of (o.same_page (page_in a.0) ∙ ap (λ (m : Month). month.next_of (page_in m) b.1.0.now) g.0) ∙ sym q.1 in
    (added_one x y e f, refl)

-- THROUGH C: every number told and every byte written. What a function is lent is put in one list.

told_same : {p q : Paper} {was is : List ℕ} {n m : ℕ} {row other : List ℕ} → p ≡ q → was ≡ is → Tells p was n row → Tells q is m other → (n ≡ m) × (row ≡ other)
told_same e f x y =
    (x.answered ∙ ap (λ (r : Paper). r.number) e ∙ sym y.answered, x.told ∙ ap₂ told_by e f ∙ sym y.told)

same_words : (s t : List ℕ) → SameOutside s t → (n m : ℕ) → n ≡ m → (w v : List ℕ) → w ≡ v → walk_words s n w ≡ walk_words t m v
unfolding walk_words
same_words s t o n m e w v f = rw (o.same_answer n, o.same_ledger n, e, f)

-- `rk_walk`: counts, the nine words, the records
pub rk_walk_cant_tell : CantTell _ rk-walk-kinds.ps rk-walk-kinds.r rk-walk.Post (λ κs a b. Asked a.0.now b.0.now a.1.0.now b.1.0.now × ((a.1.1.0.now ≡ b.1.1.0.now) × (a.1.1.1.0.now ≡ b.1.1.1.0.now)))
    (λ κs s. both s.1.1.1.0.now (both s.1.1.0.now s.1.0.now))
rk_walk_cant_tell κs a b x y s t g p q =
    let o = same_outside a.0.now b.0.now g.0.0 in
    let n : length a.1.0.now ≡ length b.1.0.now = ap length g.0.1 in
    let e = told_same (o.same_answer _ ∙ ap (walk_answer b.0.now) n) g.1.1 p.0 q.0 in
    let w : walk_words a.0.now (length a.1.0.now) a.1.1.0.now ≡ walk_words b.0.now (length b.1.0.now) b.1.1.0.now = same_words _ _ o _ _ n _ _ g.1.0 in
    (e.0, ap₂ both e.1 (ap₂ both (p.1.0 ∙ w ∙ sym q.1.0) (p.1.1 ∙ o.same_table _ ∙ ap (walk_leaves b.0.now) g.0.1 ∙ sym q.1.1)))

-- what `rk_listing` is lent of a walk: the first n bytes of its records, and what it told
pub record Lists (n : ℕ) (told state walked lent : List ℕ) (f r : ℕ) (w : List ℕ) : Type 0 where
  pub records : lent ≡ take n walked
  pub frames : f ≡ get_or told 1 0
  pub refused : r ≡ get_or told 2 0
  pub words : w ≡ state

-- `rk_listing`, given what each walk told and left: these are equal, by the theorem above
pub rk_listing_cant_tell : CantTell _ rk-listing-kinds.ps rk-listing-kinds.r rk-listing.Post
    (λ κs a b. ((a.0.now ≡ b.0.now) × ((a.1.0 ≡ b.1.0) × (a.1.1.0 ≡ b.1.1.0))) × ((a.1.1.1.0.now ≡ b.1.1.1.0.now) × ((a.1.1.1.1.0.now ≡ b.1.1.1.1.0.now) × (a.1.1.1.1.1.0.now ≡ b.1.1.1.1.1.0.now))))
    (λ κs s. both (s.1.1.1.1.1.0.now ∷ []) s.1.1.1.1.0.now)
rk_listing_cant_tell κs a b x y s t g p q =
    let e : listing_told a.0.now a.1.0 a.1.1.0 a.1.1.1.0.now (length a.1.1.1.1.0.now) ≡ listing_told b.0.now b.1.0 b.1.1.0 b.1.1.1.0.now (length b.1.1.1.1.0.now) = rw (g.0.0, g.0.1.0, g.0.1.1, g.1.0, g.1.1.0) in
    let f : listing_leaves a.0.now a.1.0 a.1.1.0 a.1.1.1.0.now a.1.1.1.1.0.now ≡ listing_leaves b.0.now b.1.0 b.1.1.0 b.1.1.1.0.now b.1.1.1.1.0.now = rw (g.0.0, g.0.1.0, g.0.1.1, g.1.0, g.1.1.0) in
    let r = told_same e (ap (λ (n : ℕ). n ∷ []) g.1.1.1) p.0 q.0 in
    (r.0, ap₂ both r.1 (p.1 ∙ f ∙ sym q.1))

-- the two, one after the other: the listing of the first n bytes of each walk's records, with the
-- counts and words that it told
pub rk_walk_then_listing : (κs : Lfts 4) (a b : Dens κs rk-walk-kinds.ps) (x y : (res_t rk-walk-kinds.r κs).Denot) (s t : AtExit (ended_of _ rk-walk-kinds.ps rk-walk-kinds.r) κs)
    → Asked a.0.now b.0.now a.1.0.now b.1.0.now × ((a.1.1.0.now ≡ b.1.1.0.now) × (a.1.1.1.0.now ≡ b.1.1.1.0.now))
    → rk-walk.Post κs a x s → rk-walk.Post κs b y t
    → (ιs : Lfts 4) (c d : Dens ιs rk-listing-kinds.ps) (u v : (res_t rk-listing-kinds.r ιs).Denot) (k l : AtExit (ended_of _ rk-listing-kinds.ps rk-listing-kinds.r) ιs)
    → (n : ℕ) → Lists n s.1.1.1.0.now s.1.1.0.now s.1.0.now c.0.now c.1.0 c.1.1.0 c.1.1.1.0.now
    → Lists n t.1.1.1.0.now t.1.1.0.now t.1.0.now d.0.now d.1.0 d.1.1.0 d.1.1.1.0.now
    → c.1.1.1.1.0.now ≡ d.1.1.1.1.0.now → c.1.1.1.1.1.0.now ≡ d.1.1.1.1.1.0.now → rk-listing.Post ιs c u k → rk-listing.Post ιs d v l
    → (u ≡ v) × (both (k.1.1.1.1.1.0.now ∷ []) k.1.1.1.1.0.now ≡ both (l.1.1.1.1.1.0.now ∷ []) l.1.1.1.1.0.now)
rk_walk_then_listing κs a b x y s t g p q ιs c d u v k l n e f h i m o =
    let w = both_one s.1.1.1.0.now (both s.1.1.0.now s.1.0.now) t.1.1.1.0.now (both t.1.1.0.now t.1.0.now) (rk_walk_cant_tell κs a b x y s t g p q).1 in
    let z = both_one s.1.1.0.now s.1.0.now t.1.1.0.now t.1.0.now w.1 in
    rk_listing_cant_tell ιs c d u v k l (
      (e.records ∙ ap (take n) z.1 ∙ sym f.records, (e.frames ∙ ap (λ (r : List ℕ). get_or r 1 0) w.0 ∙ sym f.frames, e.refused ∙ ap (λ (r : List ℕ). get_or r 2 0) w.0 ∙ sym f.refused)),
      (e.words ∙ z.0 ∙ sym f.words, (h, i)),
    )
    m o

-- `rk_ledger_request`, on the words that each walk left
pub rk_ledger_request_cant_tell : CantTell _ rk-ledger-request-kinds.ps rk-ledger-request-kinds.r rk-ledger-request.Post
    (λ κs a b. (a.0.now ≡ b.0.now) × ((a.1.0 ≡ b.1.0) × (a.1.1.0.now ≡ b.1.1.0.now))) (λ κs s. both s.1.1.0.now s.0.now)
rk_ledger_request_cant_tell κs a b x y s t g p q =
    let e : call_told a.0.now (Request a.1.0) ≡ call_told b.0.now (Request b.1.0) = ap₂ (λ (w : List ℕ) (c : ℕ). call_told w (Request c)) g.0 g.1.0 in
    let f : words_after a.0.now (Request a.1.0) ≡ words_after b.0.now (Request b.1.0) = ap₂ (λ (w : List ℕ) (c : ℕ). words_after w (Request c)) g.0 g.1.0 in
    let r = told_same e g.1.1 p.0 q.0 in
    (r.0, ap₂ both r.1 (p.1 ∙ f ∙ sym q.1))

-- the two, one after the other: a request on the words that each walk has left
pub rk_walk_then_request : (κs : Lfts 4) (a b : Dens κs rk-walk-kinds.ps) (x y : (res_t rk-walk-kinds.r κs).Denot) (s t : AtExit (ended_of _ rk-walk-kinds.ps rk-walk-kinds.r) κs)
    → Asked a.0.now b.0.now a.1.0.now b.1.0.now × ((a.1.1.0.now ≡ b.1.1.0.now) × (a.1.1.1.0.now ≡ b.1.1.1.0.now))
    → rk-walk.Post κs a x s → rk-walk.Post κs b y t
    → (ιs : Lfts 2) (c d : Dens ιs rk-ledger-request-kinds.ps) (u v : (res_t rk-ledger-request-kinds.r ιs).Denot) (k l : AtExit (ended_of _ rk-ledger-request-kinds.ps rk-ledger-request-kinds.r) ιs)
    → c.0.now ≡ s.1.1.0.now → d.0.now ≡ t.1.1.0.now → c.1.0 ≡ d.1.0 → c.1.1.0.now ≡ d.1.1.0.now → rk-ledger-request.Post ιs c u k → rk-ledger-request.Post ιs d v l
    → (u ≡ v) × (both k.1.1.0.now k.0.now ≡ both l.1.1.0.now l.0.now)
rk_walk_then_request κs a b x y s t g p q ιs c d u v k l e f h i m o =
    let w = both_one s.1.1.1.0.now (both s.1.1.0.now s.1.0.now) t.1.1.1.0.now (both t.1.1.0.now t.1.0.now) (rk_walk_cant_tell κs a b x y s t g p q).1 in
    let z = both_one s.1.1.0.now s.1.0.now t.1.1.0.now t.1.0.now w.1 in
    rk_ledger_request_cant_tell ιs c d u v k l (e ∙ z.0 ∙ sym f, (h, i)) m o

-- `rk_scrub`, of two frames
pub rk_scrub_cant_tell : CantTell _ rk-scrub-kinds.ps rk-scrub-kinds.r rk-scrub.Post (λ κs a b. SameButPrivate a.0.now b.0.now × (a.1.0.now ≡ b.1.0.now)) (λ κs s. both (s.1.0.now ∷ []) s.0.now)
rk_scrub_cant_tell κs a b x y s t g p q =
    let r = told_same (same_scrub_answer _ _ g.0) (ap (λ (n : ℕ). n ∷ []) g.1) p.0 q.0 in
    (r.0, ap₂ both r.1 (p.1 ∙ same_frame _ _ g.0 ∙ sym q.1))

-- `rk_clean`: counts and scrubbed bytes
pub rk_clean_cant_tell : CantTell _ rk-clean-kinds.ps rk-clean-kinds.r rk-clean.Post (λ κs a b. Asked a.0.now b.0.now a.1.0.now b.1.0.now × (a.1.1.0.now ≡ b.1.1.0.now))
    (λ κs s. both s.1.1.0.now s.1.0.now)
rk_clean_cant_tell κs a b x y s t g p q =
    let o = same_outside a.0.now b.0.now g.0.0 in
    let r = told_same (o.same_cleaned _ ∙ ap (λ (d : List ℕ). clean_answer b.0.now (length d)) g.0.1) g.1 p.0 q.0 in
    (r.0, ap₂ both r.1 (p.1 ∙ o.same_clean _ ∙ ap (clean_leaves b.0.now) g.0.1 ∙ sym q.1))

-- `rk_month_add`, on the same page: the figures told, and the words
same_month : (s t : List ℕ) → SameOutside s t → (w v : List ℕ) → w ≡ v → month-words.words_after w s ≡ month-words.words_after v t
unfolding month-words.words_after month.answer_to
same_month s t o w v e = rw (ap (λ (r : Paper). r.number) (o.same_added (page_words w)), o.same_page (page_words w), e)

pub rk_month_add_cant_tell : CantTell _ rk-month-add-kinds.ps rk-month-add-kinds.r rk-month-add.Post (λ κs a b. (a.0.now ≡ b.0.now) × (TwoCaptures a.1.0.now b.1.0.now × (a.1.1.0.now ≡ b.1.1.0.now)))
    (λ κs s. both s.1.1.0.now s.0.now)
rk_month_add_cant_tell κs a b x y s t g p q =
    let o = same_outside a.1.0.now b.1.0.now g.1.0 in
    let r = told_same (o.same_added (page_words a.0.now) ∙ ap (λ (w : List ℕ). month.answer_to (page_words w) b.1.0.now) g.0) g.1.1 p.0 q.0 in
    (r.0, ap₂ both r.1 (p.1 ∙ same_month _ _ o _ _ g.0 ∙ sym q.1))
