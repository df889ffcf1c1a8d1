-- What the records of a walk are, all together: each is a frame's, with its numbers, or a
-- refusal's, which shows no byte of it; their places rise; no frame is lost.
use Rattle.std.specs.Prelude.{ℕ, zero, suc, ◌+◌, ◌≤◌, ◌<◌, ◌≡◌, refl, List, [], ◌∷◌, length, drop}
use Rattle.std.proofs.Common.{ap, ⊎_elim, le-leb, eq-eqb, ne_eqb}
use Rattle.std.proofs.lemmas.Bool.{lt-leb}
use Rattle.terms.specs.Cases.{less, same}
use Rattle.frame_spec.specs.Frame.{read_of}
use Rattle.frame_spec.specs.Search.{search_of}
use Rattle.ledger_spec.specs.State.{Book}
use Rattle.ledger_spec.specs.Calls.{fresh}
use Rattle.walk_spec.specs.Walk.{walk_of}
use Rattle.walk_spec.specs.Literal.{length_in, ledger_after, Walk, stopped, go_on, walk_from, literal_walk}
use Rattle.walk_spec.proofs.LiteralLaws.{literal_walk_lem}
use Rattle.walk_spec.specs.Records.{e_nil, Each, e_cons, a_frame, a_refusal}

-- behind a refusal, wherever the search goes
each_on : (k : ℕ) (s : List ℕ) (b : Book) (vs : List ℕ) → ((q : ℕ) → Each s (walk_from k s q b).records) → Each s (go_on (λ q. walk_from k s q b) (stopped b) vs).records
each_on k s b [] ih = e_nil
each_on k s b (q ∷ vs) ih = ih q

each_from : (k : ℕ) (s : List ℕ) (p : ℕ) (b : Book) → Each s (walk_from k s p b).records
unfolding walk_from
each_from zero s p b = e_nil
each_from (suc k) s p b =
    ⊎_elim (λ (h : p < length s).
    ⊎_elim (λ (z : (read_of (drop p s)).number ≡ 0).
    rw (lt-leb (length s) p h, eq-eqb (read_of (drop p s)).number 0 z) (e_cons (a_frame p b z refl) (each_from k s (p + length_in (drop p s)) (ledger_after b (drop p s)))))
    (λ (ne : (read_of (drop p s)).number ≡ 0 → ⊥).
    rw (lt-leb (length s) p h, ne_eqb (read_of (drop p s)).number 0 ne) (e_cons (a_refusal p b ne refl) (each_on k s b (search_of s (p + 1)).values (λ q. each_from k s q b))))
    (same (read_of (drop p s)).number 0))
    (λ (h : length s ≤ p). rw (le-leb (length s) p h) e_nil)
    (less p (length s))

pub records_tell : (s : List ℕ) → Each s (walk_of s).records
unfolding literal_walk
records_tell s = rw (ap (λ (w : Walk). w.records) (literal_walk_lem s)) at (each_from (length s) s 0 (fresh 100))
