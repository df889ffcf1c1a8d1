-- CR 13: two captures that differ in private bytes alone can't be told apart by anything that is
-- made of them. First the premise, in bytes; then all that is equal. TwoCapturesHold.antt proves
-- it, Witness.antt has two captures that meet the premise and differ.
use Rattle.std.specs.Prelude.{ℕ, ◌+◌, ◌-◌, ◌<◌, ◌≤◌, ◌≡◌, List, [], ◌∷◌, length, get_or}
use Rattle.terms.specs.Paper.{Paper}
use Rattle.rules.specs.Table.{kind_of}
use Rattle.frame_spec.specs.Frame.{msg_type, body_length, body, read_of}
use Rattle.private.specs.Scrub.{scrubbed}
use Rattle.private.specs.PrivateLaws.{PrivateByte}
use Rattle.ledger_spec.specs.Calls.{Request, answer_to}
use Rattle.ledger_spec.specs.Trace.{Calls}
use Rattle.walk_laws.specs.Walk.{Sight}
use Rattle.walk_laws.specs.Frames.{joined, each_of}
use Rattle.reading.specs.declared.Seen.{Seen}
use Rattle.walk_spec.specs.Walk.{sights, calls_of, walk_answer, walk_book, walk_leaves}
use Rattle.walk_spec.specs.Literal.{literal_walk}
use Rattle.month_spec.specs.Figures.{figures_of}
use Rattle.month_spec.specs.Page.{Page}
use Rattle.month_spec.specs.Calls as month
use Rattle.month_spec.specs.Trace.{page_after}
use Rattle.clean_spec.specs.Clean.{clean_of, clean_answer, clean_leaves}
use Rattle.listing_text.specs.Listed.{listed_of}
use Rattle.listing_text.specs.Output.{output_of}

-- THE PREMISE

-- the byte at place p of a frame is private; PrivateByte has the offsets in the body outright, and
-- docs/PRIVATE.md tells them
abbrev pub PrivateAt : List ℕ → ℕ → Type 0
PrivateAt f p = (24 ≤ p) × PrivateByte (kind_of (msg_type f)) (body f) (p - 24)

-- two accepted frames, with nothing behind them, that agree at every place but those of private
-- fields and of CheckSum, the last four bytes
pub record SameButPrivate (f g : List ℕ) : Type 0 where
  pub first_reads : (read_of f).number ≡ 0
  pub second_reads : (read_of g).number ≡ 0
  pub no_stray : length f ≡ 28 + body_length f
  pub as_long : length f ≡ length g
  pub elsewhere : (p : ℕ) → p + 4 < length f → (PrivateAt f p → ⊥) → get_or f p 0 ≡ get_or g p 0

-- frame by frame
pub data Pairwise : List (List ℕ) → List (List ℕ) → Type 0 where
  no_pair : Pairwise [] []
  one_pair : {f g : List ℕ} {fs gs : List (List ℕ)} → SameButPrivate f g → Pairwise fs gs → Pairwise (f ∷ fs) (g ∷ gs)

-- two captures made of such frames, end to end with no stray byte
pub record TwoCaptures (s t : List ℕ) : Type 0 where
  pub frames : List (List ℕ)
  pub others : List (List ℕ)
  pub first_is : s ≡ joined frames
  pub second_is : t ≡ joined others
  pub pairs : Pairwise frames others

-- WHAT IS EQUAL

pub record SameOutside (s t : List ℕ) : Type 0 where
  -- what the walk reads, place by place
  pub same_sights : sights s ≡ sights t
  -- the fault records, how many frames and refusals there are, and the ledger, as document 01 walks
  pub same_records : literal_walk s ≡ literal_walk t
  -- the answer and the bytes of the table of records, also where a buffer is too short
  pub same_answer : (room : ℕ) → walk_answer s room ≡ walk_answer t room
  pub same_table : (d : List ℕ) → walk_leaves s d ≡ walk_leaves t d
  -- the ledger that stands beside that answer
  pub same_ledger : (room : ℕ) → walk_book s room ≡ walk_book t room
  -- the listing, and what the program prints, its message for more than 65,536 bytes among it
  pub same_listing : listed_of s ≡ listed_of t
  pub same_output : output_of s ≡ output_of t
  -- one request call on the ledger that the walk leaves, 15 included
  pub same_request : (channel : ℕ) → answer_to (literal_walk s).ledger (Request channel) ≡ answer_to (literal_walk t).ledger (Request channel)
  -- the calls that a capture makes: so every ledger and every table that is fed from it
  pub same_calls : calls_of s ≡ calls_of t
  -- the month figures of every channel; and of a page, whatever was added before, the answer, 27
  -- and 28 among it, and the page after it
  pub same_figures : (channel : ℕ) → figures_of channel s ≡ figures_of channel t
  pub same_added : (p : Page) → month.answer_to p s ≡ month.answer_to p t
  pub same_page : (p : Page) → month.next_of p s ≡ month.next_of p t
  -- the scrubbed capture, its counts, and the bytes of the buffer it is laid into
  pub same_scrubbed : clean_of s ≡ clean_of t
  pub same_cleaned : (room : ℕ) → clean_answer s room ≡ clean_answer t room
  pub same_clean : (d : List ℕ) → clean_leaves s d ≡ clean_leaves t d

-- captures pairwise: the page over all of them is the same
pub data AllPairs : List (List ℕ) → List (List ℕ) → Type 0 where
  no_more : AllPairs [] []
  and_more : {s t : List ℕ} {ss ts : List (List ℕ)} → TwoCaptures s t → AllPairs ss ts → AllPairs (s ∷ ss) (t ∷ ts)

abbrev pub SamePages : Type 0
SamePages = (p : Page) (ss ts : List (List ℕ)) → AllPairs ss ts → page_after p ss ≡ page_after p ts

-- The converse: accepted frames with equal scrubbed bytes meet the premise. So no public byte is
-- painted over.
abbrev pub OnlyPrivateHidden : Type 0
OnlyPrivateHidden =
    (f g : List ℕ) → (read_of f).number ≡ 0 → (read_of g).number ≡ 0 → length f ≡ 28 + body_length f → length g ≡ 28 + body_length g → scrubbed f ≡ scrubbed g
    → SameButPrivate f g
