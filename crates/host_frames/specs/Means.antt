-- What a host has after a call on frames, in the words of the crates below: a number of a frame by
-- its offset, an answer by document 01's condition for it. No definition of the promises stands
-- here: proofs/Means.antt says of each function that what its promise allows is this. x is the
-- answer, row or told what is told; a buffer that was lent as d is d' afterwards.
use Rattle.std.specs.Prelude.{ℕ, ◌+◌, ◌≤◌, ◌<◌, ◌≡◌, ◌↔◌, List, [], ◌∷◌, length, take, Option, MatchOption}
use Rattle.terms.specs.Letters.{spelled}
use Rattle.octets.specs.Octets.{be}
use Rattle.rules.specs.declared.Kind.{Kind}
use Rattle.rules.specs.declared.Kind.TheVariants.{S001, S002, S003, P001, P002, M101, M102, M201, Unknown}
use Rattle.rules.specs.Rules.{FieldRules}
use Rattle.rules.specs.Table.{measure_of}
use Rattle.broken.specs.declared.Broken.{Broken}
use Rattle.broken.specs.Broken.{fields_of, none}
use Rattle.broken.specs.Meaning.{Lowest, Within}
use Rattle.frame_spec.specs.Frame.{read_of}
use Rattle.frame_spec.specs.Given.{Reads, Writes}
use Rattle.frame_spec.specs.Lowest.{ReadsAt, LowestPlace}
use Rattle.frame_spec.specs.Write.{Message, write_of, left_of}
use Rattle.entries.specs.Given.{OpensWith, Row20, Stands}
use Rattle.private.specs.Scrub.{scrub_answer, scrubbed}
use Rattle.walk_spec.specs.Literal.{type_in, channel_in, tick_in}
use Rattle.host_words.specs.Told.{seen}

-- FRAMES

-- ApplBegSeqNum, ApplEndSeqNum and ResendStatus of a P002, by their offsets in the frame f; 0 for
-- types without them
abbrev pub first_in : Kind → List ℕ → ℕ
first_in S001 f = 0
first_in S002 f = 0
first_in S003 f = 0
first_in P001 f = 0
first_in P002 f = be 8 27 f
first_in M101 f = 0
first_in M102 f = 0
first_in M201 f = 0
first_in Unknown f = 0

abbrev pub last_in : Kind → List ℕ → ℕ
last_in S001 f = 0
last_in S002 f = 0
last_in S003 f = 0
last_in P001 f = 0
last_in P002 f = be 8 35 f
last_in M101 f = 0
last_in M102 f = 0
last_in M201 f = 0
last_in Unknown f = 0

abbrev pub status_in : Kind → List ℕ → ℕ
status_in S001 f = 0
status_in S002 f = 0
status_in S003 f = 0
status_in P001 f = 0
status_in P002 f = be 1 43 f
status_in M101 f = 0
status_in M102 f = 0
status_in M201 f = 0
status_in Unknown f = 0

-- channel, tick number, first and last resend number, resend status
abbrev pub body_numbers : Kind → List ℕ → List ℕ
body_numbers k f = channel_in k f ∷ tick_in k f ∷ first_in k f ∷ last_in k f ∷ status_in k f ∷ []

-- rk_read, where f are the bytes from the place on
pub record HostRead (f : List ℕ) (x : ℕ) (row : List ℕ) : Type 0 where
  -- each number exactly when document 01 gives it: 0 exactly to a frame that meets all its rules
  pub given : (n : ℕ) → (x ≡ n) ↔ Reads n f
  -- the first four numbers are reading's
  pub reading : seen x (take 4 row) ≡ read_of f
  -- MsgType, SendingTime, MsgSeqNum, BodyLength, and those of the body
  pub told : x ≡ 0 → row ≡ be 4 0 f ∷ be 8 4 f ∷ be 8 12 f ∷ be 4 20 f ∷ body_numbers (type_in f) f

-- rk_write of the message m into d
pub record HostWrote (m : Message) (d : List ℕ) (x told : ℕ) (d' : List ℕ) : Type 0 where
  pub given : (n : ℕ) → (x ≡ n) ↔ Writes n m (length d)
  pub writing : seen x (told ∷ []) ≡ write_of m (length d)
  pub buffer : d' ≡ left_of m d

-- rk_search: the lowest place from the start on where a frame reads, or none; 9 for a start beyond
-- the end (document 01, Search)
pub record HostFound (s : List ℕ) (from x : ℕ) (row : List ℕ) : Type 0 where
  pub place : from ≤ length s → (p : ℕ) → ((x ≡ 0) × (row ≡ 1 ∷ p ∷ [])) ↔ LowestPlace s from p
  pub none : from ≤ length s → ((x ≡ 0) × (row ≡ 0 ∷ 0 ∷ [])) ↔ ((j : ℕ) → from ≤ j → ReadsAt s j → ⊥)
  pub beyond : (x ≡ 9) ↔ (length s < from)

-- rk_scrub
pub record HostScrubbed (d : List ℕ) (x told : ℕ) (d' : List ℕ) : Type 0 where
  pub scrubbing : seen x (told ∷ []) ≡ scrub_answer d
  pub buffer : d' ≡ scrubbed d

-- rk_broken_field of a type and a body b: 0 exactly where reading's checks of type and length pass;
-- then none is told exactly where the field rules hold, else the lowest field that breaks one, and
-- it lies within the body
pub record HostBroken (k : Kind) (b : List ℕ) (x : ℕ) (row : List ℕ) : Type 0 where
  pub field : Option Broken
  pub given : x ≡ measure_of k (length b)
  pub told : x ≡ 0 → MatchOption field (row ≡ 0 ∷ 0 ∷ 0 ∷ 0 ∷ 0 ∷ []) (λ f. row ≡ 1 ∷ f.place ∷ f.len ∷ f.index ∷ f.entry ∷ [])
  pub holds : x ≡ 0 → (field ≡ none) ↔ FieldRules k b
  pub lowest_field : (field ≡ none → ⊥) → Lowest (fields_of k b) field
  pub within : x ≡ 0 → Within (length b) field

-- ENTRIES OF THE BODY b

-- rk_entries: the first entry stands at 73
pub record HostOpened (b : List ℕ) (x told : ℕ) : Type 0 where
  pub given : (n : ℕ) → (x ≡ n) ↔ OpensWith n b
  pub first : x ≡ 0 → told ≡ 73

-- rk_entry: an entry of MD001 has neither size nor position
pub record HostStepped (b : List ℕ) (p x : ℕ) (row : List ℕ) : Type 0 where
  pub given_0 : (x ≡ 0) ↔ Stands b p
  pub given_20 : (x ≡ 20) ↔ Row20 b p
  pub short : x ≡ 0 → be 5 10 b ≡ spelled "MD001" → row ≡ 1 ∷ be 2 p b ∷ be 8 (p + 2) b ∷ 0 ∷ 0 ∷ (p + 10) ∷ []
  pub long : x ≡ 0 → (be 5 10 b ≡ spelled "MD001" → ⊥) → row ≡ 0 ∷ be 2 p b ∷ be 8 (p + 2) b ∷ be 8 (p + 10) b ∷ be 1 (p + 18) b ∷ (p + 19) ∷ []
