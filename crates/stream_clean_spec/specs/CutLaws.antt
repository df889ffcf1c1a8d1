-- A run with the bytes of its frames is CR 1's run; and how far a cut gets.
use Rattle.std.specs.Prelude.{ℕ, zero, suc, ◌+◌, ◌-◌, ◌≤◌, ◌≡◌, Bool, List, [], ◌∷◌, ◌++◌, length, take}
use Rattle.std.proofs.Math.Path.{refl, sym}
use Rattle.std.proofs.Common.{ap, ap₂, ◌∙◌, arith, length-append, ne_eqb}
use Rattle.std.proofs.Math.Bool.{true, false}
use Rattle.std.proofs.lemmas.List.{take-append-le}
use Rattle.terms.specs.Paper.{pick}
use Rattle.terms.specs.Cases.{clash}
use Rattle.private.specs.Scrub.{scrubbed}
use Rattle.walk_laws.specs.Walk.{Says, frame, more, bad, Sight, Mode, within, seeking, next, found, noted, after, sights_of}
use Rattle.walk_laws.specs.Waits.{waits, Got, halt, behind, ran_of, ran_wait, ran_step}
use Rattle.walk_laws.specs.WaitLaws.{mode_of}
use Rattle.walk_laws.specs.Closing.{final_of, final_frame, final_seen, final_after}
use Rattle.walk_laws.specs.Cuts as Cuts
use Rattle.walk_laws.specs.Frames.{joined, each_of, each_joined, front_of, taken_of, accepted_of}
use Rattle.reading.specs.declared.Seen.{Seen}
use Rattle.reading.specs.Seen.{seen_of, seen_number, says_of}
use Rattle.reading.specs.SeenLaws.{frame_says, more_says, says_frame}
use Rattle.reading.proofs.SeenLaws.{seen_kept}
use Rattle.clean_spec.specs.Clean.{clean_of}
use Rattle.walk_spec.specs.Onward.{refused_size}
use Rattle.clean_spec.specs.Accepted.{accepted_in, clean_is, clean_short}
use Rattle.clean_spec.specs.Turns.{size_inside, scrubbed_none}
use Rattle.stream_spec.specs.declared.Stream.{Stream}
use Rattle.stream_spec.specs.declared.Tally.{Tally}
use Rattle.stream_spec.specs.State.{head_of, is_seeking, meant_by, value_of}
use Rattle.stream_spec.specs.Run.{says_in}
use Rattle.stream_spec.specs.RunLaws.{in_frame}
use Rattle.stream_spec.specs.Calls.{behind_of, feed_of}
use Rattle.stream_spec.specs.Window.{length_head}
use Rattle.stream_spec.specs.CutLaws as PlainLaws
use Rattle.stream_clean_spec.specs.declared.Sums.{Sums}
use Rattle.stream_clean_spec.specs.Wash.{Cut, cut_of, says_by, washed, plus, one_of, seeks_after, sums_of}
use Rattle.stream_clean_spec.specs.Calls.{got_of, reads_for, with_tally, wash_behind}
use Rattle.stream_clean_spec.specs.LayLaws.{plus_assoc, none_plus, washed_append}

-- FRAME LAW 1, with the frame's bytes

size_there : (s : List ℕ) → (seen_of s).size ≤ length s
size_there s = omega (arith, size_inside s 0 (seen_of s) refl (omega arith))

pub cut_kept : (s t : List ℕ) → (says_of (seen_of s) ≡ more → ⊥) → cut_of (s ++ t) ≡ cut_of s
cut_kept s t h =
    let k = seen_kept s t h in
    ap (λ (x : Seen). record { seen = x; own = take x.size (s ++ t) }) k
    ∙ ap (λ (l : List ℕ). record { seen = seen_of s; own = l }) (take-append-le (seen_of s).size s t (size_there s))

-- THE SAME RUN

abbrev pub plain_of : Sight Cut → Sight Seen
plain_of x = record { place = x.place; read = x.read.seen }

abbrev pub plain : List (Sight Cut) → List (Sight Seen)
plain xs = each_of plain_of xs

abbrev plain_got : Got Cut → Got Seen
plain_got g = record { seen = plain g.seen; mode = g.mode; place = g.place; kept = g.kept }

pub plain_append : (a b : List (Sight Cut)) → plain (a ++ b) ≡ plain a ++ plain b
unfolding each_of
plain_append [] b = refl
plain_append (x ∷ a) b = rw (plain_append a b)

plain_found : (w : Says) (p : ℕ) (c : Cut) → plain (found w p c) ≡ found w p c.seen
unfolding found each_of
plain_found (frame n) p c = refl
plain_found more p c = refl
plain_found bad p c = refl

plain_noted : (m : Mode) (w : Says) (p : ℕ) (c : Cut) → plain (noted m w p c) ≡ noted m w p c.seen
unfolding noted each_of
plain_noted (within zero) w p c = refl
plain_noted (within (suc k)) w p c = refl
plain_noted seeking w p c = plain_found w p c

plain_behind : (a : List (Sight Cut)) (b : List (Sight Seen)) (g : Got Cut) → plain a ≡ b → behind b (plain_got g) ≡ plain_got (behind a g)
plain_behind a b g e = rw (← e, plain_append a g.seen)

plain_pick : (t : Bool) (m : Mode) (p : ℕ) (s : List ℕ) (g : Got Cut) → pick t (halt m p s) (plain_got g) ≡ plain_got (pick t (halt m p s) g)
unfolding each_of
plain_pick true m p s g = refl
plain_pick false m p s g = refl

pub same_run : (closing : Bool) (m : Mode) (p : ℕ) (s : List ℕ) → ran_of seen_of (says_in closing) m p s ≡ plain_got (ran_of cut_of (says_by closing) m p s)
unfolding ran_of each_of
same_run closing m p [] = refl
same_run closing m p (b ∷ s) =
    let w = says_in closing (seen_of (b ∷ s)) in
    let g = ran_of cut_of (says_by closing) (next m w) (p + 1) s in
    ap (λ (y : Got Seen). pick (waits m w) (halt m p (b ∷ s)) (behind (noted m w p (seen_of (b ∷ s))) y)) (same_run closing (next m w) (p + 1) s)
    ∙ ap (λ (y : Got Seen). pick (waits m w) (halt m p (b ∷ s)) y) (plain_behind (noted m w p (cut_of (b ∷ s))) (noted m w p (seen_of (b ∷ s))) g (plain_noted m w p (cut_of (b ∷ s))))
    ∙ plain_pick (waits m w) m p (b ∷ s) (behind (noted m w p (cut_of (b ∷ s))) g)

-- THE SEARCH IS UNDER WAY behind a refused reading: what follows a run is counted by its mode

sums_read : (b after : Bool) (p : ℕ) (c : Cut) (ys : List (Sight Cut)) → seeks_after c.seen ≡ after
    → sums_of b (record { place = p; read = c } ∷ ys) ≡ plus (one_of b c) (sums_of after ys)
unfolding sums_of
sums_read b after p c ys e = rw e

abbrev Counted : Mode → Got Cut → Type 0
Counted m g = (ys : List (Sight Cut)) → sums_of (is_seeking m) (g.seen ++ ys) ≡ plus (sums_of (is_seeking m) g.seen) (sums_of (is_seeking g.mode) ys)

counted_read : (b : Bool) (m : Mode) (p : ℕ) (c : Cut) (g : Got Cut) → seeks_after c.seen ≡ is_seeking m → Counted m g → (ys : List (Sight Cut))
    → sums_of b (record { place = p; read = c } ∷ (g.seen ++ ys)) ≡ plus (sums_of b (record { place = p; read = c } ∷ g.seen)) (sums_of (is_seeking g.mode) ys)
counted_read b m p c g e ih ys =
    sums_read b (is_seeking m) p c (g.seen ++ ys) e
    ∙ ap (plus (one_of b c)) (ih ys)
    ∙ sym (plus_assoc (one_of b c) (sums_of (is_seeking m) g.seen) (sums_of (is_seeking g.mode) ys))
    ∙ ap (λ (s : Sums). plus s (sums_of (is_seeking g.mode) ys)) (sym (sums_read b (is_seeking m) p c g.seen e))

in_answer : (closing : Bool) (x : Seen) (n : ℕ) → says_in closing x ≡ frame n → seen_number x ≡ 0
in_answer true x n e = (frame_says x n (final_frame (says_of x) n e)).0
in_answer false x n e = (frame_says x n e).0

frame_bad : (w : Says) (n : ℕ) → w ≡ frame n → w ≡ bad → ⊥
frame_bad w n e f = let z : ◌≡◌ {A = ℕ} 0 1 = cc in omega arith

after_frame : (closing : Bool) (x : Seen) (n : ℕ) → says_in closing x ≡ frame n → seeks_after x ≡ false
after_frame closing x n e = rw (in_answer closing x n e)

after_bad : (closing : Bool) (x : Seen) → says_in closing x ≡ bad → seeks_after x ≡ true
after_bad closing x e = rw (ne_eqb (seen_number x) 0 (λ (z : seen_number x ≡ 0). frame_bad _ _ (in_frame closing x z) e))

module _ (closing : Bool) (p b : ℕ) (s : List ℕ) where
  abbrev c : Cut
  c = cut_of (b ∷ s)

  abbrev on : Mode → Got Cut
  on m = ran_of cut_of (says_by closing) m (p + 1) s

  counted_step : ((m : Mode) → Counted m (on m)) → (m : Mode) (w : Says) → says_in closing c.seen ≡ w → waits m w ≡ false → Counted m (behind (noted m w p c) (on (next m w)))
  unfolding noted found next after waits is_seeking
  counted_step ih (within zero) (frame n) e f = counted_read false (within (n - 1)) p c (on (within (n - 1))) (after_frame closing c.seen n e) (ih (within (n - 1)))
  counted_step ih (within zero) more e f = absurd (clash refl f)
  counted_step ih (within zero) bad e f = counted_read false seeking p c (on seeking) (after_bad closing c.seen e) (ih seeking)
  counted_step ih (within (suc k)) w e f = ih (within k)
  counted_step ih seeking (frame n) e f = counted_read true (within (n - 1)) p c (on (within (n - 1))) (after_frame closing c.seen n e) (ih (within (n - 1)))
  counted_step ih seeking more e f = absurd (clash refl f)
  counted_step ih seeking bad e f = ih seeking

  counted_by : ((m : Mode) → Counted m (on m)) → (m : Mode) (t : Bool) → waits m (says_in closing c.seen) ≡ t → Counted m (ran_of cut_of (says_by closing) m p (b ∷ s))
  unfolding sums_of
  counted_by ih m true e = rw (ran_wait cut_of (says_by closing) m p b s e) (λ ys. sym (none_plus (sums_of (is_seeking m) ys)))
  counted_by ih m false e = rw (ran_step cut_of (says_by closing) m p b s e) (counted_step ih m (says_in closing c.seen) refl e)

counted : (closing : Bool) (m : Mode) (p : ℕ) (s : List ℕ) → Counted m (ran_of cut_of (says_by closing) m p s)
unfolding ran_of sums_of
counted closing m p [] = λ ys. sym (none_plus (sums_of (is_seeking m) ys))
counted closing m p (b ∷ s) = counted_by closing p b s (λ n. counted closing n (p + 1) s) m (waits m (says_in closing (seen_of (b ∷ s)))) refl

pub seeking_is : (b : Bool) → is_seeking (mode_of b) ≡ b
unfolding is_seeking
seeking_is true = refl
seeking_is false = refl

pub sums_run : (closing b : Bool) (p : ℕ) (s : List ℕ) (ys : List (Sight Cut))
    → sums_of b ((got_of p b closing s).seen ++ ys) ≡ plus (sums_of b (got_of p b closing s).seen) (sums_of (is_seeking (got_of p b closing s).mode) ys)
sums_run closing b p s ys = rw (seeking_is b) at (counted closing (mode_of b) p s ys)

-- WHERE A STREAM STANDS behind a cut

pub record Stands (x : Stream) (g : Got Cut) : Type 0 where
  pub mode : mode_of x.seeking ≡ g.mode
  pub place : x.place ≡ g.place
  pub kept : head_of x.len x.kept ≡ g.kept

abbrev pub run_for : Stream → Bool → List ℕ → Got Cut
run_for x closing cut = got_of x.place x.seeking closing (head_of x.len x.kept ++ cut)

pub meant_run : (x : Stream) (closing : Bool) (cut : List ℕ) → ((feed_of closing (meant_by x) cut).stream.mode ≡ (run_for x closing cut).mode)
    × (((feed_of closing (meant_by x) cut).stream.place ≡ (run_for x closing cut).place) × ((feed_of closing (meant_by x) cut).stream.kept ≡ (run_for x closing cut).kept))
unfolding meant_by Cuts.feed_of
meant_run x closing cut =
    let r = same_run closing (mode_of x.seeking) x.place (head_of x.len x.kept ++ cut) in
    (ap (λ (g : Got Seen). g.mode) r, (ap (λ (g : Got Seen). g.place) r, ap (λ (g : Got Seen). g.kept) r))

-- the readings of what comes next, behind a run
pub reads_behind : (x : Stream) (g : Got Cut) → Stands x g → (closing : Bool) (b : List ℕ) → reads_for x closing b ≡ (ran_of cut_of (says_by closing) g.mode g.place (g.kept ++ b)).seen
unfolding reads_for
reads_behind x g z closing b = rw (← z.mode, ← z.place, ← z.kept)

pub seeks_behind : (x : Stream) (g : Got Cut) → Stands x g → is_seeking g.mode ≡ x.seeking
seeks_behind x g z = ap is_seeking (sym z.mode) ∙ seeking_is x.seeking

-- counts and ledger do not matter
pub other_tally : (y : Stream) (t : Tally) (closing : Bool) (b : List ℕ) (u : Tally) → with_tally (behind_of (with_tally y t) closing b) u ≡ with_tally (behind_of y closing b) u
unfolding behind_of value_of meant_by Cuts.feed_of
other_tally y t closing b u = refl

-- HOW FAR A CUT GETS

pub bounds : (x : Stream) (closing : Bool) (a : List ℕ) → ((wash_behind x closing a).len ≤ 8191) × ((wash_behind x closing a).place + (wash_behind x closing a).len ≡ x.place + (x.len + length a))
unfolding wash_behind
bounds x closing a = let b = PlainLaws.bounds x closing a in (b.few, b.place)

-- THE CLOSED WALK: its frames are those of the cleaned capture

module _ (t : List ℕ) where
  none : (seen_number (seen_of t) ≡ 0 → ⊥) → scrubbed (take (seen_of t).size t) ++ [] ≡ []
  none ne = rw (refused_size t 0 (seen_of t) refl ne, scrubbed_none)

  front : (w : Says) (p : ℕ) → says_of (seen_of t) ≡ w → washed (record { place = p; read = cut_of t } ∷ []) ≡ joined (each_of scrubbed (front_of w t))
  unfolding washed joined each_of front_of
  front (frame n) p e = rw (frame_says (seen_of t) n e).1
  front more p e = none (λ (z : seen_number (seen_of t) ≡ 0). absurd (omega (arith, z, more_says (seen_of t) e)))
  front bad p e = none (λ (z : seen_number (seen_of t) ≡ 0). frame_bad _ _ (says_frame (seen_of t) z) e)

  searched : (w : Says) (p : ℕ) → says_of (seen_of t) ≡ w → washed (found w p (cut_of t)) ≡ joined (each_of scrubbed (front_of w t))
  unfolding washed joined each_of front_of found
  searched (frame n) p e = front (frame n) p e
  searched more p e = refl
  searched bad p e = refl

  at_place : (m : Mode) (p : ℕ) → washed (noted m (says_of (seen_of t)) p (cut_of t)) ≡ joined (each_of scrubbed (taken_of m (says_of (seen_of t)) t))
  unfolding noted taken_of washed joined each_of
  at_place (within zero) p = front (says_of (seen_of t)) p refl
  at_place (within (suc k)) p = refl
  at_place seeking p = searched (says_of (seen_of t)) p refl

washed_none : washed [] ≡ joined (each_of scrubbed [])
unfolding washed joined each_of
washed_none = refl

pub washed_sights : (m : Mode) (p : ℕ) (s : List ℕ) → washed (sights_of cut_of (says_by false) m p s) ≡ joined (each_of scrubbed (accepted_of seen_of says_of m s))
unfolding sights_of accepted_of
washed_sights m p [] = washed_none
washed_sights m p (b ∷ s) =
    let w = says_of (seen_of (b ∷ s)) in
    washed_append (noted m w p (cut_of (b ∷ s))) (sights_of cut_of (says_by false) (next m w) (p + 1) s)
    ∙ ap₂ (λ (i j : List ℕ). i ++ j) (at_place (b ∷ s) m p) (washed_sights (next m w) (p + 1) s)
    ∙ sym (each_joined scrubbed (taken_of m w (b ∷ s)) (accepted_of seen_of says_of (next m w) s))

-- whether the walk reads or searches makes no difference to what it accepts
either : (b : Bool) (s : List ℕ) → accepted_of seen_of says_of (mode_of b) s ≡ accepted_in s
unfolding accepted_of taken_of next
either false s = refl
either true [] = refl
either true (b ∷ s) = refl

pub washed_closed : (b : Bool) (p : ℕ) (s : List ℕ) → washed (sights_of cut_of (says_by false) (mode_of b) p s) ≡ clean_of s
washed_closed b p s = washed_sights (mode_of b) p s ∙ ap (λ (fs : List (List ℕ)). joined (each_of scrubbed fs)) (either b s) ∙ sym (clean_is s)

-- A CUT GIVES NO MORE BYTES than it has, with the kept ones

run_short : (closing b : Bool) (p : ℕ) (s : List ℕ) → length (washed (got_of p b closing s).seen) ≤ length s
run_short true b p s = rw (final_seen cut_of (says_by false) (mode_of b) p s, washed_closed b p s) (clean_short s)
run_short false b p s =
    let g = got_of p b false s in
    let rest = (final_of cut_of (says_by false) g.mode g.place g.kept).seen in
    let e : washed g.seen ++ washed rest ≡ clean_of s = sym (washed_append g.seen rest) ∙ ap (λ (y : Got Cut). washed y.seen) (sym (final_after cut_of (says_by false) (mode_of b) p s)) ∙ ap washed (final_seen cut_of (says_by false) (mode_of b) p s) ∙ washed_closed b p s in
    omega (arith, ap length e, length-append (washed g.seen) (washed rest), clean_short s)

pub washed_short : (x : Stream) (closing : Bool) (cut : List ℕ) → length (washed (reads_for x closing cut)) ≤ x.len + length cut
unfolding reads_for
washed_short x closing cut =
    omega (arith, run_short closing x.seeking x.place (head_of x.len x.kept ++ cut), length-append (head_of x.len x.kept) cut, length_head x.len x.kept)
