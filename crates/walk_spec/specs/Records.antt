-- What the records of a walk are, all together: each is a frame's, with its numbers, or a
-- refusal's, which shows no byte of it; their places rise; no frame is lost.
use Rattle.std.specs.Prelude.{ℕ, zero, ◌+◌, ◌-◌, ◌≤◌, ◌<◌, ◌≡◌, ◌⊎◌, List, [], ◌∷◌, length, drop}
use Rattle.std.proofs.Common.{◌∙◌, inl, inr, ⊎_elim, arith, length-drop}
use Rattle.frame_spec.specs.Frame.{read_of}
use Rattle.frame_spec.specs.Outcomes.{good}
use Rattle.ledger_spec.specs.State.{Book}
use Rattle.ledger_spec.specs.Calls.{fresh}
use Rattle.record.specs.declared.Record.{Record}
use Rattle.record.specs.Record.{blank_of}
use Rattle.walk_laws.specs.Walk.{Sight, within}
use Rattle.walk_laws.specs.Account as Account
use Rattle.walk_laws.specs.Account.{account_of}
use Rattle.walk_laws.specs.Seen.{Rising, r_nil, r_cons, places_rise, Inside, i_in, i_later, Has, h_at, h_in, h_later, none_lost}
use Rattle.reading.specs.declared.Seen.{Seen}
use Rattle.reading.specs.Seen.{seen_of, seen_number, says_of}
use Rattle.reading.specs.SeenLaws.{says_frame, frame_says}
use Rattle.reading.proofs.SeenLaws.{seen_answer}
use Rattle.walk_spec.specs.Walk.{made_of, record_by, book_by, sights, walk_of}
use Rattle.walk_spec.specs.Literal.{frame_record}

-- ======== What each is

-- a frame's record has its numbers; a refused reading's is blank but for place, answer,
-- floor and top
pub data Tells (s : List ℕ) (r : Record) : Type 0 where
  a_frame : (p : ℕ) (b : Book) → (read_of (drop p s)).number ≡ 0 → r ≡ frame_record p b (drop p s) → Tells s r
  a_refusal : (p : ℕ) (b : Book) → ((read_of (drop p s)).number ≡ 0 → ⊥) → r ≡ blank_of p (read_of (drop p s)).number b.floor b.top → Tells s r

pub data Each (s : List ℕ) : List Record → Type 0 where
  e_nil : Each s []
  e_cons : {r : Record} {rs : List Record} → Tells s r → Each s rs → Each s (r ∷ rs)

-- ======== Places rise

-- each place is at least p, and above the one before it
pub data Rise : ℕ → List Record → Type 0 where
  rise_nil : {p : ℕ} → Rise p []
  rise_cons : {p : ℕ} {r : Record} {rs : List Record} → p ≤ r.place → Rise (r.place + 1) rs → Rise p (r ∷ rs)

rise_from : (b : Book) (p : ℕ) (xs : List (Sight Seen)) → Rising p xs → Rise p (account_of record_by book_by b xs).records
unfolding account_of record_by made_of
rise_from b p xs r_nil = rise_nil
rise_from b p xs (r_cons {x = x} {xs = ys} h r) = rise_cons {r = record_by b x} h (rise_from (book_by b x) (x.place + 1) ys r)

pub records_rise : (s : List ℕ) → Rise 0 (walk_of s).records
unfolding Account.walk_of
records_rise s = rise_from (fresh 100) 0 (sights s) (places_rise seen_of says_of (within zero) 0 s)

-- ======== No frame is lost

-- a record of the place q
pub data At (q : ℕ) : List Record → Type 0 where
  at_here : {r : Record} {rs : List Record} → r.place ≡ q → At q (r ∷ rs)
  at_later : {r : Record} {rs : List Record} → At q rs → At q (r ∷ rs)

-- an accepted reading whose frame has the byte at q, and does not begin there
pub data Covers (q : ℕ) : List (Sight Seen) → Type 0 where
  covers_here : {x : Sight Seen} {xs : List (Sight Seen)} → seen_number x.read ≡ 0 → x.place < q → q < x.place + x.read.size → Covers q (x ∷ xs)
  covers_later : {x : Sight Seen} {xs : List (Sight Seen)} → Covers q xs → Covers q (x ∷ xs)

pub covered : (q : ℕ) (xs : List (Sight Seen)) → Inside says_of q xs → Covers q xs
covered q xs (i_in {x = x} {xs = ys} n e l m) =
    let f = frame_says x.read n e in
    covers_here {x = x} {xs = ys} f.0 l (rw f.1 m)
covered q xs (i_later {x = x} {xs = ys} h) = covers_later (covered q ys h)

either : (q : ℕ) (b : Book) (xs : List (Sight Seen)) → Has says_of q xs → At q (account_of record_by book_by b xs).records ⊎ Covers q xs
unfolding account_of record_by made_of
either q b xs (h_at {x = x} {xs = ys} e) = inl (at_here {r = record_by b x} e)
either q b xs (h_in h) = inr (covered q xs h)
either q b xs (h_later {x = x} {xs = ys} h) = ⊎_elim (λ a. inl (at_later a)) (λ c. inr (covers_later c)) (either q (book_by b x) ys h)

-- a place that reads 0 and lies inside no frame that was read has a record
pub no_frame_lost : (s : List ℕ) (q : ℕ) → (read_of (drop q s)).number ≡ 0 → (Covers q (sights s) → ⊥) → At q (walk_of s).records
unfolding Account.walk_of
no_frame_lost s q z un =
    let h : 24 ≤ length s - q = simp length-drop at (good (drop q s) z).whole.header in
    ⊎_elim (λ a. a) (λ c. absurd (un c))
    (either q (fresh 100) (sights s) (none_lost seen_of says_of s q (omega arith) ((seen_of (drop q s)).size, says_frame (seen_of (drop q s)) (seen_answer (drop q s) ∙ z))))
