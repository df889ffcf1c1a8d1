-- What a session is, told from its history alone, for every row of calls: the invariant. Assumes
-- nothing.
use mathlib.Core.Path.{◌≡◌, refl, sym, ap, ap₂, ◌∙◌}
use mathlib.Core.Bool.{Bool, true, false}
use mathlib.Core.List.{List, [], ◌∷◌, ◌++◌, append-nil}
use Prim.Native.Nat.{ℕ, ◌+◌, max}
use native.Mathlib.Nat.{add-zero}
use native.Mathlib.Numerals.{add-one}
use native.Mathlib.Omega.{arith}
use Rattle.terms.specs.Paper.{pick}
use Rattle.session_spec.specs.Table.{agreed, seq_of, sends}
use Rattle.session_spec.specs.Calls.{Line, Answer, one, sound_of, opened}
use Rattle.session_spec.specs.Trace.{Call, Calls, no_call, ◌▸◌, after, answer_after, History, start, ◌▸◌⇒◌, trace}
use Rattle.session_spec.specs.Words.{accepted, takes, stage_by, stage, clock, count_sent, count_taken, last_sent, last_taken, interval, numbers_sent, numbers_taken, one_to}
use Rattle.session_spec.proofs.Steps.{Step, step}

pub record Agrees (h : History) (l : Line) : Type 0 where
  pub sound : sound_of l ≡ true
  pub state_is : l.state ≡ stage h
  pub out : l.sending ≡ count_sent h + 1
  pub into : l.expecting ≡ count_taken h + 1
  pub last_is : l.last ≡ clock h
  pub sent_is : l.sent ≡ last_sent h
  pub heard_is : l.heard ≡ last_taken h
  pub interval_is : l.interval ≡ interval h
  pub list_out : numbers_sent h ≡ one_to (count_sent h)
  pub list_in : numbers_taken h ≡ one_to (count_taken h)

opening : Agrees start opened
unfolding opened sound_of
opening = record { sound = refl; state_is = refl; out = refl; into = refl; last_is = refl; sent_is = refl; heard_is = refl; interval_is = refl; list_out = refl; list_in = refl }

-- one number more at the end, or none
grown : (b : Bool) (xs : List ℕ) (n x y : ℕ) → xs ≡ one_to n → y ≡ n + 1 → (b ≡ true → x ≡ y) → xs ++ pick b (x ∷ []) [] ≡ one_to (n + one b)
grown true xs n x y p q e = rw (add-one n, p, e refl, q, add-one n)
grown false xs n x y p q e = append-nil xs ∙ p ∙ ap one_to (sym (add-zero n))

counted : (x n k : ℕ) (b : Bool) → x ≡ k + one b → k ≡ n + 1 → x ≡ n + one b + 1
counted x n k b p q = omega arith

one_more : (h : History) (l : Line) (call : Call) (a : Answer) (n : Line) → Agrees h l → Step l call a n → Agrees (h ▸ call ⇒ a) n
one_more h l call a n g s =
    record {
      sound = s.sound;
      state_is = s.state_is ∙ ap (stage_by call a) g.state_is;
      out = counted _ _ _ (sends a.kind) s.sending_is g.out;
      into = counted _ _ _ (takes call a) s.expecting_is g.into;
      last_is = s.last_is ∙ ap (λ (x : ℕ). pick (accepted a) (max x call.now) x) g.last_is;
      sent_is = s.sent_is ∙ ap₂ (λ (x y : ℕ). pick (sends a.kind) (max x call.now) y) g.last_is g.sent_is;
      heard_is = s.heard_is ∙ ap₂ (λ (x y : ℕ). pick (takes call a) (max x call.now) y) g.last_is g.heard_is;
      interval_is = s.interval_is ∙ ap (λ (x : ℕ). pick (accepted a) (agreed call.event x) x) g.interval_is;
      list_out = grown (sends a.kind) (numbers_sent h) (count_sent h) a.seq l.sending g.list_out g.out s.sent_seq;
      list_in = grown (takes call a) (numbers_taken h) (count_taken h) (seq_of call.event) l.expecting g.list_in g.into s.taken_seq;
    }

pub agrees : (calls : Calls) → Agrees (trace calls) (after calls)
unfolding trace
agrees no_call = opening
agrees (calls ▸ call) = let g = agrees calls in one_more (trace calls) (after calls) call (answer_after calls call) _ g (step (after calls) call g.sound)
