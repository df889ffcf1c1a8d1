-- What a call on a freshly opened ledger is answered, told from the calls and answers before it
-- alone; what a broken state is answered; what a refusal leaves; and that places are free again.
-- (13 is never answered after opening: the state rules always hold. 14, 15 and the counts stand in
-- Demand3.antt.)
use Rattle.std.specs.Prelude.{◌≡◌, true, false, ◌&&◌, not, [], ◌∷◌, ℕ, ◌+◌, ◌≤◌, ◌<◌, max, eqb, leb, ltb}
use Rattle.terms.specs.Paper.{Paper, answer, refusal}
use Rattle.ledger_spec.specs.State.{nothing, range, Book, largest}
use Rattle.ledger_spec.specs.Calls.{Call, Tick, Announce, Request, Reply, Ask, Missing, Held, Between, Renew, offered, beside, answer_to}
use Rattle.ledger_spec.specs.Given.{StatusRight}
use Rattle.ledger_spec.specs.Trace.{Calls, after, History, trace}
use Rattle.ledger_spec.specs.Words.{answered, received, in_set, given_up, settled, handed_out, known_top, pending, floor_of}

-- the call names another channel than this one; the first two counts and a new session name none
abbrev pub Elsewhere : ℕ → Call → Type 0
Elsewhere own (Tick channel n) = channel ≡ own → ⊥
Elsewhere own (Announce channel n) = channel ≡ own → ⊥
Elsewhere own (Request channel) = channel ≡ own → ⊥
Elsewhere own (Reply channel first status) = channel ≡ own → ⊥
Elsewhere own (Ask Missing) = ⊥
Elsewhere own (Ask Held) = ⊥
Elsewhere own (Ask (Between channel a z)) = channel ≡ own → ⊥
Elsewhere own Renew = ⊥

-- the next numbers from the floor on, perhaps none
pub record Hands (h : History) (a : Paper) : Type 0 where
  pub count : ℕ
  pub is : a ≡ answer 0 ((floor_of h + 1) ∷ count ∷ [])

pub record TickAnswers (h : History) (n : ℕ) (a : Paper) : Type 0 where
  pub number_10 : (1 ≤ n → n ≤ largest → ⊥) → a ≡ refusal 10
  pub repeat_11 : 1 ≤ n → n ≤ largest → settled h n ≡ true → a ≡ refusal 11
  pub far_12 : 1 ≤ n → n ≤ largest → settled h n ≡ false → floor_of h + 256 < n → a ≡ refusal 12
  pub done_0 : 1 ≤ n → n ≤ largest → settled h n ≡ false → n ≤ floor_of h + 256 → Hands h a

pub record AnnounceAnswers (n : ℕ) (a : Paper) : Type 0 where
  pub number_10 : largest < n → a ≡ refusal 10
  pub done_0 : n ≤ largest → a ≡ answer 0 []

-- beside a reply's number: the floor + 1 that its two sets count from; of the range granted, up to
-- `last`, what was not received, on status 4 alone; and the received numbers newly passed, which
-- `names_apart` of proofs/GivenUp.antt tells
pub record Names (h : History) (status last : ℕ) (a : Paper) : Type 0 where
  pub given_up_holds : ℕ
  pub passed : ℕ
  pub is : a ≡ answer 0 ((floor_of h + 1) ∷ given_up_holds ∷ passed ∷ [])
  pub given_up_are : (n : ℕ) → in_set (floor_of h + 1) given_up_holds n ≡ eqb status 4 && (ltb (floor_of h) n && (leb n last && not (received h n)))

-- beside a refusal there is no set
abbrev pub refused_reply : ℕ → Paper
refused_reply number = answer number (0 ∷ 0 ∷ 0 ∷ [])

pub record ReplyAnswers (h : History) (first status : ℕ) (a : Paper) : Type 0 where
  pub status_17 : (StatusRight status → ⊥) → a ≡ refused_reply 17
  pub unasked_16 : StatusRight status → ((last : ℕ) → pending h ≡ range first last → ⊥) → a ≡ refused_reply 16
  pub done_0 : StatusRight status → (last : ℕ) → pending h ≡ range first last → Names h status last a

pub record Answers (channel : ℕ) (calls : Calls) : Type 0 where
  pub channel_18 : (call : Call) → Elsewhere channel call → answer_to (after channel calls) call ≡ answer 18 (beside call)
  pub tick : (n : ℕ) → TickAnswers (trace channel calls) n (answer_to (after channel calls) (Tick channel n))
  pub announcement : (n : ℕ) → AnnounceAnswers n (answer_to (after channel calls) (Announce channel n))
  pub reply : (first status : ℕ) → ReplyAnswers (trace channel calls) first status (answer_to (after channel calls) (Reply channel first status))
  pub renewal_0 : answer_to (after channel calls) Renew ≡ answer 0 []

-- What a call on a broken state is answered: 13, with nothing but 0 beside it: a count's 0, a
-- reply's 0, 0, 0. For every call, whatever channel and number it names.
pub record Broken (b : Book) : Type 0 where
  pub tick : (channel n : ℕ) → answer_to b (Tick channel n) ≡ refusal 13
  pub announcement : (channel n : ℕ) → answer_to b (Announce channel n) ≡ refusal 13
  pub request : (channel : ℕ) → answer_to b (Request channel) ≡ refusal 13
  pub reply : (channel first status : ℕ) → answer_to b (Reply channel first status) ≡ refused_reply 13
  pub between_0 : (channel a z : ℕ) → answer_to b (Ask (Between channel a z)) ≡ answer 13 (0 ∷ [])
  pub missing_0 : answer_to b (Ask Missing) ≡ answer 13 (0 ∷ [])
  pub held_0 : answer_to b (Ask Held) ≡ answer 13 (0 ∷ [])
  pub renewal : answer_to b Renew ≡ refusal 13

-- a refusal changes nothing, but 12 may raise the top (document 01, Numbers, paragraph 2); for
-- every state, sound or not
pub record OnlyTop (b next : Book) (n : ℕ) : Type 0 where
  pub top_is : next.top ≡ max b.top n
  pub channel_same : next.channel ≡ b.channel
  pub floor_same : next.floor ≡ b.floor
  pub bits_same : next.bits ≡ b.bits
  pub pending_same : next.pending ≡ b.pending

-- request 12: a new session is answered 0, clears the pending request, and keeps all else
pub record NewSession (b : Book) (a : Paper) (next : Book) : Type 0 where
  pub answer_is : a ≡ answer 0 []
  pub cleared : next.pending ≡ nothing
  pub channel_same : next.channel ≡ b.channel
  pub floor_same : next.floor ≡ b.floor
  pub top_same : next.top ≡ b.top
  pub bits_same : next.bits ≡ b.bits

-- and the same told from the calls and answers: of the words of demand 3 the pending request alone
-- changes
pub record OnlyCleared (h next : History) : Type 0 where
  pub cleared : pending next ≡ nothing
  pub received_same : (n : ℕ) → received next n ≡ received h n
  pub given_up_same : (n : ℕ) → given_up next n ≡ given_up h n
  pub handed_out_same : handed_out next ≡ handed_out h
  pub top_same : known_top next ≡ known_top h

pub record Keeps (b : Book) (call : Call) (next : Book) (a : Paper) : Type 0 where
  pub same : answered a 0 ≡ false → answered a 12 ≡ false → next ≡ b
  pub far : answered a 12 ≡ true → OnlyTop b next (offered call)

-- no map place is used up "for good" (document 01, What we have been burnt by): calls that bring
-- the floor to n
pub record Reaches (channel n : ℕ) : Type 0 where
  pub calls : Calls
  pub floor_is : (after channel calls).floor ≡ n
