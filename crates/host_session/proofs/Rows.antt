-- The words of a session stand for it, words that are no session's are refused, and every row of a
-- host's calls is a row of the table's. Assumes nothing.
use Prim.Native.Nat.{ℕ}
use mathlib.Core.Path.{◌≡◌, refl, sym, ap, ◌∙◌}
use mathlib.Core.Bool.{Bool, true, false, ◌&&◌}
use mathlib.Core.List.{List}
use mathlib.Core.Logic.{⊎_elim}
use lib.Dec.{leb}
use Rattle.terms.specs.Cases.{same}
use Rattle.terms.specs.RuledOut as promise
use Rattle.session_spec.specs.Table.{State, new, waiting, active, leaving, over, Event, Begin, Time, Leave, Ask}
use Rattle.session_spec.specs.Calls.{Line, counters_right, sound_of, refused, answer_to, next_of}
use Rattle.session_spec.specs.Trace.{Call, Calls, no_call, ◌▸◌, after, answer_after}
use Rattle.session_spec.proofs.Outcome.{broken_call}
use Rattle.session_spec.proofs.Simple.{refused_moves_nothing}
use Rattle.session.specs.Arrivals.{event_in, length_in}
use Rattle.host_session.specs.Words.{state_number, words_of, state_numbered, formed, line_in, paper_of, arrival_paper, call_told, arrival_told, words_after}
use Rattle.host_session.proofs.Kept.{after_refused, after_done}
use Rattle.host_session.proofs.rk_session_open.Reads as opening
use Rattle.host_session.proofs.rk_session_open.Kinds as opening-kinds
use Rattle.host_session.proofs.rk_session_begin.Reads as begin
use Rattle.host_session.proofs.rk_session_begin.Kinds as begin-kinds
use Rattle.host_session.proofs.rk_session_time.Reads as time
use Rattle.host_session.proofs.rk_session_time.Kinds as time-kinds
use Rattle.host_session.proofs.rk_session_leave.Reads as leave
use Rattle.host_session.proofs.rk_session_leave.Kinds as leave-kinds
use Rattle.host_session.proofs.rk_session_ask.Reads as ask
use Rattle.host_session.proofs.rk_session_ask.Kinds as ask-kinds
use Rattle.host_session.proofs.rk_session_receive.Reads as receive
use Rattle.host_session.proofs.rk_session_receive.Kinds as receive-kinds

state_back : (s : State) → state_numbered (state_number s) ≡ s
unfolding state_numbered
state_back new = refl
state_back waiting = refl
state_back active = refl
state_back leaving = refl
state_back over = refl

state_small : (s : State) → leb (state_number s) 4 ≡ true
state_small new = refl
state_small waiting = refl
state_small active = refl
state_small leaving = refl
state_small over = refl

-- the words of a session stand for that session
pub words_back : (l : Line) → line_in (words_of l) ≡ l
unfolding line_in
words_back l = rw (state_back l.state, state_small l.state)

no_zero : (s : State) (into : ℕ) → counters_right s 0 into ≡ false
no_zero new into = refl
no_zero waiting into = refl
no_zero active into = refl
no_zero leaving into = refl
no_zero over into = refl

and_false : (b : Bool) → b && false ≡ false
and_false true = refl
and_false false = refl

unsound : (l : Line) → l.sending ≡ 0 → sound_of l ≡ false
unfolding sound_of
unsound l z = rw (z, no_zero l.state l.expecting, and_false (leb l.heard l.last), and_false (leb l.sent l.last))

sending_0 : (w : List ℕ) → formed w ≡ false → (line_in w).sending ≡ 0
unfolding line_in
sending_0 w f = rw f

-- words whose first is above 4, or whose last is not 0, are refused by 13
pub unformed : (w : List ℕ) (time : ℕ) (e : Event) → formed w ≡ false → answer_to (line_in w) time e ≡ refused 13
unformed w time e f = (broken_call (line_in w) time e (unsound (line_in w) (sending_0 w f))).0

-- a call on the words of a session leaves those of the next
words_next : (l : Line) (time : ℕ) (e : Event) → words_after (words_of l) time e ≡ words_of (next_of l time e)
words_next l time e =
    let b = words_back l in
    let n : (answer_to (line_in (words_of l)) time e).number ≡ (answer_to l time e).number = ap (λ (x : Line). (answer_to x time e).number) b in
    ⊎_elim
    (λ (z : (answer_to l time e).number ≡ 0). after_done (words_of l) time e (n ∙ z) ∙ ap (λ (x : Line). words_of (next_of x time e)) b)
    (λ (p : (answer_to l time e).number ≡ 0 → ⊥). after_refused (words_of l) time e (λ z. p (sym n ∙ z)) ∙ ap words_of (sym (refused_moves_nothing l time e p).same))
    (same (answer_to l time e).number 0)

abbrev pub at : ℕ → Event → Call
at time e = record { now = time; event = e }

-- THE WORDS w COME OF THESE CALLS of a host, each meeting its promise, on what rk_session_open
-- wrote
pub data HostRan : Calls → List ℕ → Type 0 where
  opens : (c : promise.Call _ opening-kinds.ps opening-kinds.r) → promise.Kept _ opening-kinds.ps opening-kinds.r opening.Post c → HostRan no_call c.exit.0.now
  begins : {calls : Calls} (c : promise.Call _ begin-kinds.ps begin-kinds.r) → HostRan calls c.args.0.now → promise.Kept _ begin-kinds.ps begin-kinds.r begin.Post c
      → HostRan (calls ▸ at c.args.1.0 Begin) c.exit.0.now
  waits : {calls : Calls} (c : promise.Call _ time-kinds.ps time-kinds.r) → HostRan calls c.args.0.now → promise.Kept _ time-kinds.ps time-kinds.r time.Post c
      → HostRan (calls ▸ at c.args.1.0 Time) c.exit.0.now
  leaves : {calls : Calls} (c : promise.Call _ leave-kinds.ps leave-kinds.r) → HostRan calls c.args.0.now → promise.Kept _ leave-kinds.ps leave-kinds.r leave.Post c
      → HostRan (calls ▸ at c.args.1.0 Leave) c.exit.0.now
  asks : {calls : Calls} (c : promise.Call _ ask-kinds.ps ask-kinds.r) → HostRan calls c.args.0.now → promise.Kept _ ask-kinds.ps ask-kinds.r ask.Post c
      → HostRan (calls ▸ at c.args.1.0 Ask) c.exit.0.now
  receives : {calls : Calls} (c : promise.Call _ receive-kinds.ps receive-kinds.r) → HostRan calls c.args.0.now → promise.Kept _ receive-kinds.ps receive-kinds.r receive.Post c
      → HostRan (calls ▸ at c.args.1.0 (event_in c.args.1.1.0.now)) c.exit.0.now

one_more : (calls : Calls) (w v : List ℕ) (time : ℕ) (e : Event) → w ≡ words_of (after calls) → v ≡ words_after w time e → v ≡ words_of (after (calls ▸ at time e))
one_more calls w v time e p q = q ∙ ap (λ (x : List ℕ). words_after x time e) p ∙ words_next (after calls) time e

-- and are those of the session that the table comes to
pub host_as_the_table : {calls : Calls} {w : List ℕ} → HostRan calls w → w ≡ words_of (after calls)
host_as_the_table (opens c p) = p.1
host_as_the_table (begins {calls} c ran p) = one_more calls _ _ _ _ (host_as_the_table ran) p.1
host_as_the_table (waits {calls} c ran p) = one_more calls _ _ _ _ (host_as_the_table ran) p.1
host_as_the_table (leaves {calls} c ran p) = one_more calls _ _ _ _ (host_as_the_table ran) p.1
host_as_the_table (asks {calls} c ran p) = one_more calls _ _ _ _ (host_as_the_table ran) p.1
host_as_the_table (receives {calls} c ran p) = one_more calls _ _ _ _ (host_as_the_table ran) p.1

line_is : {calls : Calls} {w : List ℕ} → HostRan calls w → line_in w ≡ after calls
line_is {calls} {w} ran = ap line_in (host_as_the_table ran) ∙ words_back (after calls)

-- so what a host is told of one more call is the table's answer
pub host_told : {calls : Calls} {w : List ℕ} → HostRan calls w → (call : Call) → call_told w call.now call.event ≡ paper_of (answer_after calls call)
unfolding call_told
host_told ran call = ap (λ (l : Line). paper_of (answer_to l call.now call.event)) (line_is ran)

pub host_arrival : {calls : Calls} {w : List ℕ} → HostRan calls w → (time : ℕ) (s : List ℕ)
    → arrival_told w time s ≡ arrival_paper (answer_after calls (at time (event_in s))) (length_in s)
unfolding arrival_told
host_arrival ran time s = ap (λ (l : Line). arrival_paper (answer_to l time (event_in s)) (length_in s)) (line_is ran)
