-- What a frame that arrives is to a session, told by its bytes: S001 is a logon, S002 a logout, any
-- other type neither, under the frame's own MsgSeqNum; bytes that reading refuses are its refusal.
-- `as_the_table` of Session.antt goes on from there.
use Rattle.std.specs.Prelude.{ℕ, ◌≡◌, refl, Bool, true, false, List, eqb}
use Rattle.std.proofs.Common.{ap, ◌∙◌, eq-eqb, ne_eqb}
use Rattle.terms.specs.Paper.{pick}
use Rattle.terms.specs.Letters.{spelled}
use Rattle.octets.specs.Octets.{be}
use Rattle.rules.specs.Table.{kind_of}
use Rattle.rules.specs.declared.Kind.{Kind}
use Rattle.rules.specs.declared.Kind.TheVariants.{S001, S002, S003, P001, P002, M101, M102, M201, Unknown}
use Rattle.frame_spec.specs.Frame.{msg_type, msg_seq_num, read_of}
use Rattle.session_spec.specs.Faults.{fault_numbered}
use Rattle.session_spec.specs.Table.{Event, Logon, Logout, Other, Faulty}
use Rattle.session.specs.Arrivals.{by_kind, heart_bt_int, event_in}

pub record EventOf (s : List ℕ) : Type 0 where
  -- HeartBtInt stands at 64 of the body, behind a header of 24
  pub logon : (read_of s).number ≡ 0 → msg_type s ≡ spelled "S001" → event_in s ≡ Logon (msg_seq_num s) (be 2 88 s)
  pub logout : (read_of s).number ≡ 0 → msg_type s ≡ spelled "S002" → event_in s ≡ Logout (msg_seq_num s)
  pub other : (read_of s).number ≡ 0 → (msg_type s ≡ spelled "S001" → ⊥) → (msg_type s ≡ spelled "S002" → ⊥) → event_in s ≡ Other (msg_seq_num s)
  pub refused : ((read_of s).number ≡ 0 → ⊥) → event_in s ≡ Faulty (fault_numbered (read_of s).number)

frame_event : (s : List ℕ) → (read_of s).number ≡ 0 → event_in s ≡ by_kind (kind_of (msg_type s)) (msg_seq_num s) (heart_bt_int s)
unfolding event_in
frame_event s z = rw (eq-eqb (read_of s).number 0 z)

by_type : (s : List ℕ) (t : ℕ) → (read_of s).number ≡ 0 → msg_type s ≡ t → event_in s ≡ by_kind (kind_of t) (msg_seq_num s) (heart_bt_int s)
by_type s t z e = frame_event s z ∙ ap (λ (m : ℕ). by_kind (kind_of m) (msg_seq_num s) (heart_bt_int s)) e

one_or_other : (n heart : ℕ) (c : Bool) (k rest : Kind) → by_kind k n heart ≡ Other n → by_kind rest n heart ≡ Other n → by_kind (pick c k rest) n heart ≡ Other n
one_or_other n heart true k rest a b = a
one_or_other n heart false k rest a b = b

neither : (t n heart : ℕ) → (t ≡ spelled "S001" → ⊥) → (t ≡ spelled "S002" → ⊥) → by_kind (kind_of t) n heart ≡ Other n
unfolding kind_of
neither t n heart p q =
    rw (ne_eqb t (spelled "S001") p, ne_eqb t (spelled "S002") q)
    (one_or_other n heart (eqb t (spelled "S003")) S003 _ refl
    (one_or_other n heart (eqb t (spelled "P001")) P001 _ refl
    (one_or_other n heart (eqb t (spelled "P002")) P002 _ refl
    (one_or_other n heart (eqb t (spelled "M101")) M101 _ refl
    (one_or_other n heart (eqb t (spelled "M102")) M102 _ refl
    (one_or_other n heart (eqb t (spelled "M201")) M201 Unknown refl refl))))))

pub event_of : (s : List ℕ) → EventOf s
unfolding kind_of event_in
event_of s =
    record {
      logon = λ z e. by_type s (spelled "S001") z e;
      logout = λ z e. by_type s (spelled "S002") z e;
      other = λ z p q. frame_event s z ∙ neither (msg_type s) (msg_seq_num s) (heart_bt_int s) p q;
      refused = λ p. rw (ne_eqb (read_of s).number 0 p);
    }
