-- CR 13, proved. Two frames that meet the premise are alike (`Alike` of `private`), so they are
-- seen alike and scrub to the same bytes. Records, ledger, calls, counts and listing are made of
-- what is seen, and of a capture's length, alone.
use Rattle.std.specs.Prelude.{ℕ, ◌+◌, ◌-◌, ◌/◌, ◌<◌, ◌≤◌, ◌≡◌, refl, ◌⊎◌, List, [], ◌∷◌, ◌++◌, length, take, drop}
use Rattle.std.proofs.Common.{sym, ap₂, ◌∙◌, inl, inr, ⊎_elim, arith, length-append, take_all, length-take-le, get_or-take, get_or-drop, ext_get_or}
use Rattle.std.proofs.Math.Path.{ap}
use Rattle.std.proofs.Math.Dec.{leb}
use Rattle.std.proofs.Math.ListN.{get_or, get_or-eq_default}
use Rattle.terms.specs.Cases.{less}
use Rattle.terms.specs.Paper.{answer}
use Rattle.octets.specs.Octets.{be}
use Rattle.octets.specs.Numerals.{numeral_take}
use Rattle.rules.specs.Table.{kind_of}
use Rattle.frame_spec.specs.Frame.{msg_type, body_length, body, read_of}
use Rattle.frame_spec.specs.Outcomes.{good}
use Rattle.frame_spec.specs.Places.{body_length_lem}
use Rattle.frame_spec.specs.Write.{Message, message_of}
use Rattle.private.specs.Private.{private_of}
use Rattle.private.specs.Scrub.{spans_of, clean_body, scrubbed, scrub_answer}
use Rattle.private.specs.Paint.{Inside, painted_agrees}
use Rattle.private.specs.PrivateLaws.{PrivateByte, private_few, private_same}
use Rattle.private.proofs.PrivateLaws.{private_is}
use Rattle.private.specs.Laws as scrubs
use Rattle.private.specs.Laws.{Alike}
use Rattle.private.proofs.Laws.{spans_within, scrub_message, scrub_keeps, scrub_alike, length_always, answer_as}
use Rattle.walk_laws.specs.Walk.{frame}
use Rattle.walk_laws.specs.Account as Account
use Rattle.walk_laws.specs.Account.{account_of}
use Rattle.walk_laws.specs.Frames.{joined, each_of, Frames, f_nil, f_cons, ReadAlike as SeenAlike, a_nil, a_cons, alike as seen-joined}
use Rattle.reading.specs.Seen.{seen_of, says_of}
use Rattle.reading.specs.SeenLaws.{says_frame}
use Rattle.reading.proofs.SeenLaws.{seen_answer, seen_size, seen_kept, seen_fits}
use Rattle.reading.proofs.Private.{seen_alike}
use Rattle.ledger_spec.specs.Calls.{Request, answer_to, fresh}
use Rattle.ledger_spec.specs.Trace.{none}
use Rattle.walk_spec.specs.Walk as walk
use Rattle.walk_spec.specs.Walk.{sights, record_by, book_by, walk_of, calls_from, calls_of, walk_answer, walk_book, walk_leaves}
use Rattle.walk_spec.specs.Literal.{Walk, literal_walk}
use Rattle.walk_spec.proofs.LiteralLaws.{literal_walk_lem}
use Rattle.listing_text.specs.Listed.{listed_of}
use Rattle.listing_text.specs.Output.{output_of}
use Rattle.month_spec.specs.Figures.{figures_of, figure_of}
use Rattle.month_spec.specs.Page.{Page, figures_in_all, highest}
use Rattle.month_spec.proofs.Lists.{tabled_same, all_same}
use Rattle.month_spec.specs.Calls as month
use Rattle.month_spec.specs.Calls.{figure_at, sum_fits, number_to, figures_told, counted}
use Rattle.month_spec.specs.Trace.{page_after}
use Rattle.clean_spec.specs.Clean as clean
use Rattle.clean_spec.specs.Clean.{clean_of, clean_answer, clean_leaves}
use Rattle.clean_spec.specs.Laws.{AllFrames, joined_sights, clean_joined}
use Rattle.promises_private.specs.TwoCaptures.{PrivateAt, SameButPrivate, Pairwise, no_pair, one_pair, TwoCaptures, SameOutside, AllPairs, no_more, and_more, SamePages, OnlyPrivateHidden}

-- ONE PAIR

module _ (f g : List ℕ) (e : SameButPrivate f g) where
  there_f : 28 + body_length f ≤ length f
  there_f = (good f e.first_reads).whole.there

  there_g : 28 + body_length g ≤ length g
  there_g = (good g e.second_reads).whole.there

  header_byte : (p : ℕ) → p < 24 → get_or f p 0 ≡ get_or g p 0
  header_byte p l = e.elsewhere p (omega (arith, there_f)) (λ h. omega (arith, h.0))

  header_same : take 24 f ≡ take 24 g
  header_same =
      let a : length (take 24 f) ≡ 24 = length-take-le 24 f (omega (arith, there_f)) in
      let b : length (take 24 g) ≡ 24 = length-take-le 24 g (omega (arith, there_g)) in
      ext_get_or 0 (take 24 f) (take 24 g) (a ∙ sym b)
      (λ p l. let k : p < 24 = rw a at l in get_or-take 24 f p 0 k ∙ header_byte p k ∙ sym (get_or-take 24 g p 0 k))

  number_same : (w at : ℕ) → at + w ≤ 24 → be w at f ≡ be w at g
  number_same w at h = sym (numeral_take 256 w at 24 f h) ∙ ap (be w at) header_same ∙ numeral_take 256 w at 24 g h

  length_same : body_length f ≡ body_length g
  length_same = number_same 4 20 (omega arith)

  body_byte : (i : ℕ) → i < body_length f → (PrivateByte (kind_of (msg_type f)) (body f) i → ⊥) → get_or (body f) i 0 ≡ get_or (body g) i 0
  body_byte i l out =
      let k : i < body_length g = rw length_same at l in
      let z : 24 + i - 24 ≡ i = omega arith in
      get_or-take (body_length f) (drop 24 f) i 0 l
      ∙ get_or-drop 24 f i 0
      ∙ e.elsewhere (24 + i) (omega (arith, e.no_stray)) (λ h. out (rw z at h.1))
      ∙ sym (get_or-drop 24 g i 0)
      ∙ sym (get_or-take (body_length g) (drop 24 g) i 0 k)

  -- behind the body there is nothing to agree on
  body_past : (a : List ℕ) (i : ℕ) → 28 + body_length a ≤ length a → body_length a ≤ i → get_or (body a) i 0 ≡ 0
  body_past a i h l = get_or-eq_default (body a) 0 (rw (body_length_lem a h) l)

  outside : (i : ℕ) → (Inside (spans_of f) i → ⊥) → get_or (body f) i 0 ≡ get_or (body g) i 0
  outside i out =
      ⊎_elim (λ (l : i < body_length f). body_byte i l (λ h. out ((private_is (kind_of (msg_type f)) (body f) i).1 h)))
      (λ (l : body_length f ≤ i). body_past f i there_f l ∙ sym (body_past g i there_g (rw length_same at l)))
      (less i (body_length f))

  pub alike : Alike f g
  alike =
      record {
        header = header_same;
        bodies = record { long = body_length_lem f there_f ∙ length_same ∙ sym (body_length_lem g there_g); outside = outside };
      }

  -- each of the two is one frame and nothing else
  says_whole : (a : List ℕ) → (read_of a).number ≡ 0 → length a ≡ 28 + body_length a → says_of (seen_of a) ≡ frame (length a)
  says_whole a z w = says_frame (seen_of a) (seen_answer a ∙ z) ∙ ap frame (seen_size a z ∙ sym w)

  pub first_frame : says_of (seen_of f) ≡ frame (length f)
  first_frame = says_whole f e.first_reads e.no_stray

  no_stray_g : length g ≡ 28 + body_length g
  no_stray_g = sym e.as_long ∙ e.no_stray ∙ ap (λ (n : ℕ). 28 + n) length_same

  pub second_frame : says_of (seen_of g) ≡ frame (length g)
  second_frame = says_whole g e.second_reads no_stray_g

  pub same_seen : seen_of f ≡ seen_of g
  same_seen = seen_alike f g alike e.first_reads e.second_reads

  all_of : (a : List ℕ) → length a ≡ 28 + body_length a → take (28 + body_length a) (scrubbed a) ≡ scrubbed a
  all_of a w = take_all (28 + body_length a) (scrubbed a) (rw (length_always a) (omega (arith, w)))

  pub same_frame : scrubbed f ≡ scrubbed g
  same_frame =
      sym (all_of f e.no_stray) ∙ scrub_alike f g e.first_reads e.second_reads alike ∙ all_of g no_stray_g

  pub same_scrub_answer : scrub_answer f ≡ scrub_answer g
  same_scrub_answer =
      sym (answer_as f e.first_reads (body_length f) refl)
      ∙ ap (λ (n : ℕ). answer 0 ((28 + n) ∷ [])) length_same
      ∙ answer_as g e.second_reads (body_length g) refl

-- ALL PAIRS

seen_alike_sights : (fs gs : List (List ℕ)) → AllFrames fs → AllFrames gs → SeenAlike seen_of says_of fs gs → sights (joined fs) ≡ sights (joined gs)
seen_alike_sights = seen-joined seen_of says_of seen_kept (λ s n e. omega (arith, (seen_fits s n e).0))

first_frames : (fs gs : List (List ℕ)) → Pairwise fs gs → AllFrames fs
first_frames fs gs no_pair = f_nil
first_frames fs gs (one_pair {f = f} {g = g} {fs = fs'} {gs = gs'} e r) = f_cons (first_frame f g e) (first_frames fs' gs' r)

second_frames : (fs gs : List (List ℕ)) → Pairwise fs gs → AllFrames gs
second_frames fs gs no_pair = f_nil
second_frames fs gs (one_pair {f = f} {g = g} {fs = fs'} {gs = gs'} e r) = f_cons (second_frame f g e) (second_frames fs' gs' r)

seen_pairwise : (fs gs : List (List ℕ)) → Pairwise fs gs → SeenAlike seen_of says_of fs gs
seen_pairwise fs gs no_pair = a_nil
seen_pairwise fs gs (one_pair {f = f} {g = g} {fs = fs'} {gs = gs'} e r) = a_cons (same_seen f g e) (seen_pairwise fs' gs' r)

scrubbed_pairwise : (fs gs : List (List ℕ)) → Pairwise fs gs → each_of scrubbed fs ≡ each_of scrubbed gs
unfolding each_of
scrubbed_pairwise fs gs no_pair = refl
scrubbed_pairwise fs gs (one_pair {f = f} {g = g} {fs = fs'} {gs = gs'} e r) = rw (same_frame f g e, scrubbed_pairwise fs' gs' r)

long_pairwise : (fs gs : List (List ℕ)) → Pairwise fs gs → length (joined fs) ≡ length (joined gs)
unfolding joined
long_pairwise fs gs no_pair = refl
long_pairwise fs gs (one_pair {f = f} {g = g} {fs = fs'} {gs = gs'} e r) =
    length-append f (joined fs') ∙ rw (e.as_long, long_pairwise fs' gs' r) (sym (length-append g (joined gs')))

-- TWO CAPTURES

module _ (s t : List ℕ) (c : TwoCaptures s t) where
  abbrev a : AllFrames c.frames
  a = first_frames c.frames c.others c.pairs

  abbrev b : AllFrames c.others
  b = second_frames c.frames c.others c.pairs

  pub same_sights : sights s ≡ sights t
  same_sights =
      ap sights c.first_is
      ∙ seen_alike_sights c.frames c.others a b (seen_pairwise c.frames c.others c.pairs)
      ∙ ap sights (sym c.second_is)

  pub same_long : length s ≡ length t
  same_long = rw (c.first_is, c.second_is) (long_pairwise c.frames c.others c.pairs)

  pub same_scrubbed : clean_of s ≡ clean_of t
  same_scrubbed =
      ap clean_of c.first_is
      ∙ clean_joined c.frames a
      ∙ ap joined (scrubbed_pairwise c.frames c.others c.pairs)
      ∙ sym (clean_joined c.others b)
      ∙ ap clean_of (sym c.second_is)

-- what is made of the sights alone, and of the scrubbed bytes
module _ (s t : List ℕ) (e : sights s ≡ sights t) where
  same_walk : walk_of s ≡ walk_of t
  unfolding Account.walk_of
  same_walk = ap (account_of record_by book_by (fresh 100)) e

  same_records : literal_walk s ≡ literal_walk t
  same_records = literal_walk_lem s ∙ rw (same_walk, e) (sym (literal_walk_lem t))

  same_fits : (room : ℕ) → walk.fits_in s room ≡ walk.fits_in t room
  unfolding walk.fits_in
  same_fits room = rw same_walk

  same_answer : (room : ℕ) → walk_answer s room ≡ walk_answer t room
  unfolding walk_answer
  same_answer room = rw (same_fits room, same_walk, e)

  same_ledger : (room : ℕ) → walk_book s room ≡ walk_book t room
  unfolding walk_book
  same_ledger room = rw (same_fits room, same_walk)

  same_table : (d : List ℕ) → walk_leaves s d ≡ walk_leaves t d
  unfolding walk_leaves
  same_table d = rw (same_fits (length d), same_walk)

  same_listing : listed_of s ≡ listed_of t
  unfolding listed_of
  same_listing = rw same_records

  same_output : length s ≡ length t → output_of s ≡ output_of t
  unfolding output_of
  same_output n = rw (n, same_listing)

  same_calls : calls_of s ≡ calls_of t
  unfolding calls_of
  same_calls = ap (calls_from none) e

  same_figures : (channel : ℕ) → figures_of channel s ≡ figures_of channel t
  unfolding figures_of calls_of
  same_figures channel = rw e

  same_figure : (p : Page) (k : ℕ) → figure_at p s k ≡ figure_at p t k
  unfolding figure_at figure_of
  same_figure p k = rw (same_figures (get_or p.channels (k / 6) 0))

  same_number : (p : Page) → number_to p s ≡ number_to p t
  unfolding number_to
  same_number p =
      rw (all_same (sum_fits p s) (sum_fits p t) figures_in_all (λ k l. ap (λ (n : ℕ). leb (get_or p.sums k 0 + n) highest) (same_figure p k)))

  same_told : (p : Page) → figures_told p s ≡ figures_told p t
  unfolding figures_told
  same_told p = tabled_same (figure_at p s) (figure_at p t) figures_in_all (λ k l. same_figure p k)

  same_added : (p : Page) → month.answer_to p s ≡ month.answer_to p t
  unfolding month.answer_to
  same_added p = rw (same_number p, same_told p)

  same_counted : (p : Page) → counted p s ≡ counted p t
  unfolding counted
  same_counted p =
      rw (tabled_same (λ k. get_or p.sums k 0 + figure_at p s k) (λ k. get_or p.sums k 0 + figure_at p t k) figures_in_all (λ k l. ap (λ (n : ℕ). get_or p.sums k 0 + n) (same_figure p k)))

  same_page : (p : Page) → month.next_of p s ≡ month.next_of p t
  unfolding month.next_of
  same_page p = rw (same_number p, same_counted p)

  module _ (w : clean_of s ≡ clean_of t) where
    same_room : (room : ℕ) → clean.fits_in s room ≡ clean.fits_in t room
    unfolding clean.fits_in
    same_room room = rw w

    same_cleaned : (room : ℕ) → clean_answer s room ≡ clean_answer t room
    unfolding clean_answer
    same_cleaned room = rw (same_room room, w, e)

    same_clean : (d : List ℕ) → clean_leaves s d ≡ clean_leaves t d
    unfolding clean_leaves
    same_clean d = rw (same_room (length d), w)

pub same_outside : (s t : List ℕ) → TwoCaptures s t → SameOutside s t
same_outside s t c =
    let e = same_sights s t c in
    let w = same_scrubbed s t c in
    record {
      same_sights = e;
      same_records = same_records s t e;
      same_answer = same_answer s t e;
      same_table = same_table s t e;
      same_ledger = same_ledger s t e;
      same_listing = same_listing s t e;
      same_output = same_output s t e (same_long s t c);
      same_request = λ channel. ap (λ (x : Walk). answer_to x.ledger (Request channel)) (same_records s t e);
      same_calls = same_calls s t e;
      same_figures = same_figures s t e;
      same_added = same_added s t e;
      same_page = same_page s t e;
      same_scrubbed = w;
      same_cleaned = same_cleaned s t e w;
      same_clean = same_clean s t e w;
    }
