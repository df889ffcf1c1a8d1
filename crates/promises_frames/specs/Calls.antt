-- What a call of reading, writing and scrubbing promises, in words that a demand can use: for each
-- a record, and a lemma that whatever the function may answer by the checker's promise of its
-- `ensures` is told by that record. The demands speak of these records alone.
use Rattle.std.specs.Prelude.{ℕ, ◌≡◌, List, length, drop, Option, Result}
use Rattle.terms.specs.declared.Refusal.{Refusal}
use Rattle.terms.specs.declared.SessionNumber.{SessionNumber}
use Rattle.octets.specs.Papers.{written_paper}
use Rattle.frame.specs.declared.Header.{Header}
use Rattle.frame_spec.specs.Frame.{read_of, body_read}
use Rattle.frame.specs.Papers.{read_paper, found_paper}
use Rattle.frame_spec.specs.Write.{Message, message, write_of, left_of}
use Rattle.frame_spec.specs.Search.{search_of}
use Rattle.frame.proofs.read_at.Reads as read_at
use Rattle.frame.proofs.read_at.Kinds as read-at-kinds
use Rattle.frame.proofs.body_at.Reads as body_at
use Rattle.frame.proofs.body_at.Kinds as body-at-kinds
use Rattle.frame.proofs.write.Reads as write
use Rattle.frame.proofs.write.Kinds as write-kinds
use Rattle.frame.proofs.search.Reads as search-reads
use Rattle.frame.proofs.search.Kinds as search-kinds
use Rattle.private.specs.Scrub.{scrubbed, scrub_answer}
use Rattle.scrub.proofs.scrub.Reads as scrub
use Rattle.scrub.proofs.scrub.Kinds as scrub-kinds
use Rattle.promises_words.specs.Words.{Promises}

-- what reading finds of a frame: type, sending time, MsgSeqNum, and the length of its body
abbrev pub header : ℕ → ℕ → SessionNumber → ℕ → Header
header t time q n = record { msg_type = t; sending_time = time; seq = q; body_len = n }

-- `read_at` of bytes at a place answers x
pub record ReadCall (bytes : List ℕ) (at : ℕ) (x : Result Header Refusal) : Type 0 where
  pub paper : read_paper x ≡ read_of (drop at bytes)

pub read_at_promises : Promises _ read-at-kinds.ps read-at-kinds.r read_at.Post (λ κs a x s. ReadCall a.0.now a.1.0 x)
read_at_promises κs a x s p = record { paper = p }

-- `body_at` of bytes at a place gives b
pub record BodyCall (bytes : List ℕ) (at : ℕ) (b : List ℕ) : Type 0 where
  pub part : b ≡ body_read (drop at bytes)

pub body_at_promises : Promises _ body-at-kinds.ps body-at-kinds.r body_at.Post (λ κs a x s. BodyCall a.0.now a.1.0 x.now)
body_at_promises κs a x s p = record { part = p }

-- `write` of a message into a buffer answers x and leaves `left` there
pub record WriteCall (m : Message) (out : List ℕ) (x : Result ℕ Refusal) (left : List ℕ) : Type 0 where
  pub paper : written_paper x ≡ write_of m (length out)
  pub buffer : left ≡ left_of m out

pub write_promises : Promises _ write-kinds.ps write-kinds.r write.Post (λ κs a x s.
    WriteCall (message a.0 a.1.0 a.1.1.0.0 a.1.1.1.0.now) a.1.1.1.1.0.now x s.1.1.1.1.0.now)
write_promises κs a x s p = record { paper = p.0; buffer = p.1 }

-- `search` in bytes from a place on answers x
pub record SearchCall (bytes : List ℕ) (from : ℕ) (x : Result (Option ℕ) Refusal) : Type 0 where
  pub paper : found_paper x ≡ search_of bytes from

pub search_promises : Promises _ search-kinds.ps search-kinds.r search-reads.Post (λ κs a x s. SearchCall a.0.now a.1.0 x)
search_promises κs a x s p = record { paper = p }

-- `scrub` of a buffer answers x and leaves `left` there
pub record ScrubCall (buf : List ℕ) (x : Result ℕ Refusal) (left : List ℕ) : Type 0 where
  pub paper : written_paper x ≡ scrub_answer buf
  pub buffer : left ≡ scrubbed buf

pub scrub_promises : Promises _ scrub-kinds.ps scrub-kinds.r scrub.Post (λ κs a x s. ScrubCall a.0.now x s.0.now)
scrub_promises κs a x s p = record { paper = p.0; buffer = p.1 }
