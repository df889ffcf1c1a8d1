-- Starting a page: each channel is judged by CR 3's opening over the channels named before it; the
-- first that is refused answers. Assumes nothing.
use Prim.Native.Nat.{ℕ, zero, suc, ◌+◌, ◌≤◌, ◌<◌}
use mathlib.Core.Path.{◌≡◌, refl, sym, ap, ◌∙◌}
use mathlib.Core.Bool.{Bool, true, false}
use mathlib.Core.Logic.{◌⊎◌, inl, inr, ⊎_elim, ◌↔◌}
use mathlib.Core.List.{List, [], ◌∷◌, ◌++◌, append_assoc, append-nil}
use native.Mathlib.Omega.{arith}
use lib.Dec.{eqb, ltb}
use lib.ListN.{length, get_or, length-append, get_or-append}
use lib.Seq.{get_or-append_seam}
use borrow.Author.Tests.{eq-eqb, ne_eqb, eqb-true, lt-ltb, le-ltb, ltb-true}
use Rattle.terms.specs.Cases.{two, less, same, clash}
use Rattle.terms.specs.Paper.{pick}
use Rattle.ledger_spec.specs.Calls.{fresh}
use Rattle.channels_spec.specs.Table.{Place, least, is_for, is_free, place_of, free_place, is_open}
use Rattle.channels_spec.specs.Calls.{opening_number}
use Rattle.channels_spec.proofs.Least.{least_is, least_all, least_at, least_low}
use Rattle.month_spec.specs.Page.{places, figures_in_all, tabled, page_of, PageRules}
use Rattle.month_spec.specs.Calls.{table_naming, naming_number, start_from, start_number, start_page}
use Rattle.month_spec.specs.Given.{Names, First, Among, Given10, Given22, Given21}
use Rattle.month_spec.proofs.Lists.{length_tabled, get_d_tabled}

-- THE TABLE OF THE CHANNELS NAMED SO FAR
module _ (cs : List ℕ) where
  abbrev at : ℕ → Place
  at i = (table_naming cs).place i

  named_place : (channel i : ℕ) → i < length cs → is_for channel (at i) ≡ eqb (get_or cs i 0) channel
  unfolding fresh
  named_place channel i h = rw (lt-ltb i (length cs) h)

  free_place_lem : (channel i : ℕ) → length cs ≤ i → is_for channel (at i) ≡ false
  free_place_lem channel i h = rw (le-ltb i (length cs) h)

  taken_place : (i : ℕ) → i < length cs → is_free (at i) ≡ false
  taken_place i h = rw (lt-ltb i (length cs) h)

  unused_place : (i : ℕ) → length cs ≤ i → is_free (at i) ≡ true
  unused_place i h = rw (le-ltb i (length cs) h)

  abbrev for_it : ℕ → ℕ → Bool
  for_it channel i = is_for channel (at i)

  module _ (few : length cs ≤ places) (channel : ℕ) where
    open_is : Among cs channel → is_open (table_naming cs) channel ≡ true
    unfolding place_of
    open_is a =
        let so : is_for channel (at a.at) ≡ true = named_place channel a.at a.inside ∙ eq-eqb _ _ a.same in
        let low = least_low (for_it channel) 32 a.at (omega (arith, a.inside)) so in
        lt-ltb (least (for_it channel) 32) 32 (omega (arith, a.inside))

    is_open_holds : is_open (table_naming cs) channel ≡ true → Among cs channel
    unfolding place_of
    is_open_holds e =
        let k = least (for_it channel) 32 in
        let found = least_is (for_it channel) 32 (ltb-true k 32 e) in
        ⊎_elim
        (λ (h : k < length cs). record { at = k; inside = h; same = eqb-true _ _ (sym (named_place channel k h) ∙ found.is_so) })
        (λ (h : length cs ≤ k). absurd (clash found.is_so (free_place_lem channel k h)))
        (less k (length cs))

    free_is : length cs < places → free_place (table_naming cs) ≡ length cs
    unfolding free_place
    free_is h = least_at (λ i. is_free (at i)) 32 (length cs) h (unused_place (length cs) (omega arith)) (λ j l. taken_place j l)

    full_is : length cs ≡ places → free_place (table_naming cs) ≡ 32
    unfolding free_place
    full_is e = least_all (λ i. is_free (at i)) 32 (λ j l. taken_place j (omega arith))

    -- what one more channel is answered, from the facts
    pub naming_10 : 9999 < channel → naming_number cs channel ≡ 10
    unfolding opening_number
    naming_10 h = rw (lt-ltb 9999 channel h)

    pub naming_22 : channel ≤ 9999 → Among cs channel → naming_number cs channel ≡ 22
    unfolding opening_number
    naming_22 h a = rw (le-ltb 9999 channel h) (ap (λ (b : Bool). pick b 22 (pick (ltb (free_place (table_naming cs)) 32) 0 21)) (open_is a))

    new_is : (Among cs channel → ⊥) → is_open (table_naming cs) channel ≡ false
    new_is n = ⊎_elim (λ (t : is_open (table_naming cs) channel ≡ true). absurd (n (is_open_holds t))) (λ (f : is_open (table_naming cs) channel ≡ false). f) (two (is_open (table_naming cs) channel))

    past_22 : channel ≤ 9999 → (Among cs channel → ⊥) → naming_number cs channel ≡ pick (ltb (free_place (table_naming cs)) 32) 0 21
    unfolding opening_number
    past_22 h n = rw (le-ltb 9999 channel h) (ap (λ (b : Bool). pick b 22 (pick (ltb (free_place (table_naming cs)) 32) 0 21)) (new_is n))

    pub naming_21 : channel ≤ 9999 → (Among cs channel → ⊥) → length cs ≡ places → naming_number cs channel ≡ 21
    naming_21 h n e = past_22 h n ∙ ap (λ (k : ℕ). pick (ltb k 32) 0 21) (full_is e)

    pub naming_0 : channel ≤ 9999 → (Among cs channel → ⊥) → length cs < places → naming_number cs channel ≡ 0
    naming_0 h n l = past_22 h n ∙ ap (λ (k : ℕ). pick {A = ℕ} (ltb k 32) 0 21) (free_is l) ∙ rw (lt-ltb (length cs) 32 l)

    -- a view of all four
    pub data View : ℕ → Type 0 where
      v_10 : 9999 < channel → View 10
      v_22 : channel ≤ 9999 → Among cs channel → View 22
      v_21 : channel ≤ 9999 → (Among cs channel → ⊥) → length cs ≡ places → View 21
      v_0 : channel ≤ 9999 → (Among cs channel → ⊥) → length cs < places → View 0

    in_or_not : (Among cs channel) ⊎ (Among cs channel → ⊥)
    in_or_not =
        ⊎_elim (λ (t : is_open (table_naming cs) channel ≡ true). inl (is_open_holds t)) (λ (f : is_open (table_naming cs) channel ≡ false). inr (λ (a : Among cs channel). clash (open_is a) f)) (two (is_open (table_naming cs) channel))

    pub view : View (naming_number cs channel)
    view =
        ⊎_elim (λ (h : 9999 < channel). rw (naming_10 h) (v_10 h))
        (λ (h : channel ≤ 9999).
        ⊎_elim (λ (a : Among cs channel). rw (naming_22 h a) (v_22 h a))
        (λ (n : Among cs channel → ⊥).
        ⊎_elim (λ (l : length cs < places). rw (naming_0 h n l) (v_0 h n l))
        (λ (g : places ≤ length cs). let e : length cs ≡ places = omega arith in rw (naming_21 h n e) (v_21 h n e))
        (less (length cs) places))
        in_or_not)
        (less 9999 channel)

-- NAMES THAT GROW BY ONE
pub no_names : Names []
no_names = record { few = omega arith; small = λ i h. absurd (omega arith); apart = λ i j h k e. absurd (omega arith) }

abbrev pub with : List ℕ → ℕ → List ℕ
with cs c = cs ++ (c ∷ [])

module _ (cs : List ℕ) (c : ℕ) where
  pub with_length : length (with cs c) ≡ length cs + 1
  with_length = simp length-append (omega arith)

  pub with_low : (i : ℕ) → i < length cs → get_or (with cs c) i 0 ≡ get_or cs i 0
  with_low i h = get_or-append cs (c ∷ []) 0 i h

  pub with_last : get_or (with cs c) (length cs) 0 ≡ c
  with_last = get_or-append_seam cs c [] 0

  pub named_more : Names cs → c ≤ 9999 → (Among cs c → ⊥) → length cs < places → Names (with cs c)
  named_more n small new room =
      let e = with_length in
      record {
        few = omega arith;
        small = λ i h.
            ⊎_elim (λ (l : i < length cs). rw (with_low i l) (n.small i l)) (λ (g : length cs ≤ i). let q : i ≡ length cs = omega arith in rw (q, with_last) small) (less i (length cs));
        apart = λ i j h k same.
            ⊎_elim
            (λ (l : i < length cs).
            ⊎_elim (λ (m : j < length cs). n.apart i j l m (sym (with_low i l) ∙ same ∙ with_low j m))
            (λ (g : length cs ≤ j).
            let q : j ≡ length cs = omega arith in
            absurd (new (record { at = i; inside = l; same = sym (with_low i l) ∙ same ∙ ap (λ (x : ℕ). get_or (with cs c) x 0) q ∙ with_last })))
            (less j (length cs)))
            (λ (g : length cs ≤ i).
            let p : i ≡ length cs = omega arith in
            ⊎_elim
            (λ (m : j < length cs).
            absurd (new (record { at = j; inside = m; same = sym (with_low j m) ∙ sym same ∙ ap (λ (x : ℕ). get_or (with cs c) x 0) p ∙ with_last })))
            (λ (m : length cs ≤ j). omega arith)
            (less j (length cs)))
            (less i (length cs));
      }

  -- and names are named one by one
  pub names_before : Names (with cs c) → Names cs
  names_before n =
      let e = with_length in
      record {
        few = omega (arith, n.few);
        small = λ i h. rw (with_low i h) at (n.small i (omega arith));
        apart = λ i j h k same. n.apart i j (omega arith) (omega arith) (with_low i h ∙ same ∙ sym (with_low j k));
      }

  pub names_naming : Names (with cs c) → naming_number cs c ≡ 0
  names_naming n =
      let e = with_length in
      let few : length cs ≤ places = omega (arith, n.few) in
      naming_0 cs few c (rw with_last at (n.small (length cs) (omega arith)))
      (λ (a : Among cs c).
      let q : a.at ≡ length cs = n.apart a.at (length cs) (omega (arith, a.inside)) (omega arith) (with_low a.at a.inside ∙ a.same ∙ sym with_last) in
      omega (arith, a.inside))
      (omega (arith, n.few))

  pub naming_names : Names cs → naming_number cs c ≡ 0 → Names (with cs c)
  naming_names n e = told (view cs n.few c) e
    where
      told : {k : ℕ} → View cs n.few c k → k ≡ 0 → Names (with cs c)
      told (v_10 h) q = absurd (omega arith)
      told (v_22 h a) q = absurd (omega arith)
      told (v_21 h m l) q = absurd (omega arith)
      told (v_0 h m l) q = named_more n h m l

-- THE START
pub start_taken : (before : List ℕ) (c : ℕ) (cs : List ℕ) → naming_number before c ≡ 0 → start_from before (c ∷ cs) ≡ start_from (with before c) cs
unfolding start_from
start_taken before c cs e = rw (eq-eqb _ _ e)

pub start_refused : (before : List ℕ) (c : ℕ) (cs : List ℕ) → (naming_number before c ≡ 0 → ⊥) → start_from before (c ∷ cs) ≡ naming_number before c
unfolding start_from
start_refused before c cs ne = rw (ne_eqb _ _ ne)

join_one : (before : List ℕ) (c : ℕ) (cs : List ℕ) → with before c ++ cs ≡ before ++ c ∷ cs
join_one before c cs = append_assoc before (c ∷ []) cs

-- 0: all of them are names
pub start_names : (before cs : List ℕ) → Names before → start_from before cs ≡ 0 → Names (before ++ cs)
unfolding start_from
start_names before [] n e = rw (append-nil before) n
start_names before (c ∷ cs) n e =
    ⊎_elim
    (λ (z : naming_number before c ≡ 0). rw (join_one before c cs) at (start_names (with before c) cs (naming_names before c n z) (sym (start_taken before c cs z) ∙ e)))
    (λ (ne : naming_number before c ≡ 0 → ⊥). absurd (ne (sym (start_refused before c cs ne) ∙ e)))
    (same (naming_number before c) 0)

pub started_names : (cs : List ℕ) → start_number cs ≡ 0 → Names cs
unfolding start_number
started_names cs e = start_names [] cs no_names e

-- a page just started keeps the rules
pub page_rules : (cs : List ℕ) → Names cs → PageRules (page_of cs)
unfolding page_of
page_rules cs n =
    let at : (i : ℕ) → i < places → get_or (tabled (λ k. get_or cs k 0) places) i 0 ≡ get_or cs i 0 = get_d_tabled (λ k. get_or cs k 0) places in
    let inside : (i : ℕ) → i < length cs → i < places = λ i h. omega (arith, n.few) in
    record {
      named_few = n.few;
      taken_few = omega arith;
      channel_places = length_tabled _ places;
      sum_places = length_tabled _ figures_in_all;
      small = λ i h. rw (at i (inside i h)) (n.small i h);
      apart = λ i j h k e. n.apart i j h k (sym (at i (inside i h)) ∙ e ∙ at j (inside j k));
      no_name = λ i h l. at i l ∙ past cs i h;
      no_sum = λ k h l. get_d_tabled (λ i. 0) figures_in_all k l;
    }
  where
    past : (l : List ℕ) (i : ℕ) → length l ≤ i → get_or l i 0 ≡ 0
    past [] i h = refl
    past (x ∷ l) zero h = absurd (omega arith)
    past (x ∷ l) (suc i) h = past l i (omega arith)

-- every page that a start leaves keeps them
pub started_rules : (cs : List ℕ) → PageRules (start_page cs)
unfolding start_page
started_rules cs =
    ⊎_elim (λ (e : start_number cs ≡ 0). rw (eq-eqb _ _ e) (page_rules cs (started_names cs e)))
    (λ (ne : start_number cs ≡ 0 → ⊥). rw (ne_eqb _ _ ne) (page_rules [] no_names))
    (same (start_number cs) 0)

-- THE FIRST THAT IS REFUSED
-- the start stops at the first channel whose number is not 0
pub record Stops (before cs : List ℕ) (n : ℕ) : Type 0 where
  pub taken : List ℕ
  pub channel : ℕ
  pub behind : List ℕ
  pub is : cs ≡ taken ++ channel ∷ behind
  pub names : Names (before ++ taken)
  pub number : naming_number (before ++ taken) channel ≡ n

pub stops : (before cs : List ℕ) (n : ℕ) → Names before → start_from before cs ≡ n → (n ≡ 0 → ⊥) → Stops before cs n
unfolding start_from
stops before [] n m e ne = absurd (ne (sym e))
stops before (c ∷ cs) n m e ne =
    ⊎_elim
    (λ (z : naming_number before c ≡ 0).
    let r = stops (with before c) cs n (naming_names before c m z) (sym (start_taken before c cs z) ∙ e) ne in
    let j = join_one before c r.taken in
    record {
      taken = c ∷ r.taken;
      channel = r.channel;
      behind = r.behind;
      is = ap (λ (l : List ℕ). c ∷ l) r.is;
      names = rw j at r.names;
      number = rw j at r.number;
    })
    (λ (z : naming_number before c ≡ 0 → ⊥).
    record { taken = []; channel = c; behind = cs; is = refl; names = rw (append-nil before) m; number = rw (append-nil before) (sym (start_refused before c cs z) ∙ e) })
    (same (naming_number before c) 0)

-- and a start that has such a channel stops there
pub stopped : (before taken : List ℕ) (c : ℕ) (behind : List ℕ) → Names (before ++ taken) → (naming_number (before ++ taken) c ≡ 0 → ⊥)
    → start_from before (taken ++ c ∷ behind) ≡ naming_number (before ++ taken) c
stopped before [] c behind m ne =
    let z = append-nil before in
    start_refused before c behind (λ (e : naming_number before c ≡ 0). ne (ap (λ (l : List ℕ). naming_number l c) z ∙ e)) ∙ sym (ap (λ (l : List ℕ). naming_number l c) z)
stopped before (t ∷ taken) c behind m ne =
    let j = join_one before t taken in
    let n : Names (with before t ++ taken) = rw j m in
    start_taken before t (taken ++ c ∷ behind) (names_naming before t (front (with before t) taken n))
    ∙ stopped (with before t) taken c behind n (λ (e : naming_number (with before t ++ taken) c ≡ 0). ne (ap (λ (l : List ℕ). naming_number l c) (sym j) ∙ e))
    ∙ ap (λ (l : List ℕ). naming_number l c) j
  where
    front : (a b : List ℕ) → Names (a ++ b) → Names a
    front a b k =
        let e = length-append a b in
        record {
          few = omega (arith, k.few);
          small = λ i h. rw (get_or-append a b 0 i h) at (k.small i (omega arith));
          apart = λ i x h l same. k.apart i x (omega arith) (omega arith) (get_or-append a b 0 i h ∙ same ∙ sym (get_or-append a b 0 x l));
        }

module _ (cs : List ℕ) where
  abbrev first_of : {n : ℕ} → Stops [] cs n → First cs
  first_of s = record { before = s.taken; channel = s.channel; behind = s.behind; is = s.is; named = s.names }

  from_first : (f : First cs) (n : ℕ) → (n ≡ 0 → ⊥) → naming_number f.before f.channel ≡ n → start_number cs ≡ n
  unfolding start_number
  from_first f n ne e =
      ap (start_from []) f.is ∙ stopped [] f.before f.channel f.behind f.named (λ (z : naming_number f.before f.channel ≡ 0). ne (sym e ∙ z)) ∙ e

  to_first : (n : ℕ) → (n ≡ 0 → ⊥) → start_number cs ≡ n → Stops [] cs n
  unfolding start_number
  to_first n ne e = stops [] cs n no_names e ne

  module _ (n : ℕ) (s : Stops [] cs n) where
    abbrev Seen : ℕ → Type 0
    Seen k = View s.taken s.names.few s.channel k

    told_10 : {k : ℕ} → Seen k → k ≡ 10 → 9999 < s.channel
    told_10 (v_10 h) e = h
    told_10 (v_22 h a) e = absurd (omega arith)
    told_10 (v_21 h m l) e = absurd (omega arith)
    told_10 (v_0 h m l) e = absurd (omega arith)

    told_22 : {k : ℕ} → Seen k → k ≡ 22 → (s.channel ≤ 9999) × Among s.taken s.channel
    told_22 (v_10 h) e = absurd (omega arith)
    told_22 (v_22 h a) e = (h, a)
    told_22 (v_21 h m l) e = absurd (omega arith)
    told_22 (v_0 h m l) e = absurd (omega arith)

    told_21 : {k : ℕ} → Seen k → k ≡ 21 → (s.channel ≤ 9999) × ((Among s.taken s.channel → ⊥) × (length s.taken ≡ places))
    told_21 (v_10 h) e = absurd (omega arith)
    told_21 (v_22 h a) e = absurd (omega arith)
    told_21 (v_21 h m l) e = (h, (m, l))
    told_21 (v_0 h m l) e = absurd (omega arith)

    seen : Seen (naming_number s.taken s.channel)
    seen = view s.taken s.names.few s.channel

  -- GIVEN EXACTLY WHEN
  pub given_10 : (start_number cs ≡ 10) ↔ Given10 cs
  given_10 = (
    λ e. let s = to_first 10 (λ z. omega arith) e in record { first = first_of s; long = told_10 10 s (seen 10 s) s.number },
    λ g. from_first g.first 10 (λ z. omega arith) (naming_10 g.first.before g.first.named.few g.first.channel g.long),
  )

  pub given_22 : (start_number cs ≡ 22) ↔ Given22 cs
  given_22 = (
    λ e. let s = to_first 22 (λ z. omega arith) e in let t = told_22 22 s (seen 22 s) s.number in record { first = first_of s; short = t.0; twice = t.1 },
    λ g. from_first g.first 22 (λ z. omega arith) (naming_22 g.first.before g.first.named.few g.first.channel g.short g.twice),
  )

  pub given_21 : (start_number cs ≡ 21) ↔ Given21 cs
  given_21 = (
    λ e. let s = to_first 21 (λ z. omega arith) e in let t = told_21 21 s (seen 21 s) s.number in record { first = first_of s; short = t.0; new = t.1.0; full = t.1.1 },
    λ g. from_first g.first 21 (λ z. omega arith) (naming_21 g.first.before g.first.named.few g.first.channel g.short g.new g.full),
  )
