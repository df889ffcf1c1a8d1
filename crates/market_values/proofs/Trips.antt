-- Both round trips over calls, as the two promises allow them: a file that `written` wrote is
-- sound, and its values are the bytes that it was written from; and what is written from the values
-- that `values` took out is the file. Assumes nothing.
use Prim.Native.Nat.{ℕ, ◌≤◌}
use mathlib.Core.Path.{◌≡◌, sym, ap, ◌∙◌}
use mathlib.Core.List.{List}
use lib.ListN.{length, take}
use Rattle.terms.specs.RuledOut.{Call, Kept}
use Rattle.octets.specs.Octets.{laid}
use Rattle.octets.specs.Overlays.{take_front}
use Rattle.std.specs.Prelude.{Ok}
use Rattle.market.specs.Papers.{verdict_paper}
use Rattle.market_spec.specs.File.{fine}
use Rattle.market_spec.specs.Sound.{Sound, file_of, values_of}
use Rattle.market_spec.specs.FileBytes.{values_bytes, values_answer, values_given, written_answer}
use Rattle.market_spec.specs.WrittenAgain.{made}
use Rattle.market_spec.proofs.WrittenAgain.{values_again, written_again, taken_out}
use Rattle.market_values.proofs.values.Reads as values
use Rattle.market_values.proofs.values.Kinds as values-kinds
use Rattle.market_values.proofs.written.Reads as written
use Rattle.market_values.proofs.written.Kinds as written-kinds

-- what 0 laid at the front of a buffer
front : (n : ℕ) (x d e : List ℕ) → e ≡ laid 0 x d → length x ≡ n → take n e ≡ x
front n x d e q l = ap (take n) q ∙ take_front n x d l

-- a file that was written, and its values
pub record WrittenSound (c : Call _ written-kinds.ps written-kinds.r) (n : ℕ) : Type 0 where
  pub sound : Sound (take n c.exit.1.0.now)
  pub same_bytes : values_bytes (values_of (take n c.exit.1.0.now)) ≡ c.args.0.now

pub values_of_written_call : (c : Call _ written-kinds.ps written-kinds.r) (n : ℕ) → Kept _ written-kinds.ps written-kinds.r written.Post c → c.result ≡ Ok n → WrittenSound c n
values_of_written_call c n p r =
    let a : written_answer (length c.args.1.0.now) c.args.0.now ≡ fine n = sym p.0 ∙ ap verdict_paper r in
    let m = made (length c.args.1.0.now) n c.args.0.now a in
    let b = values_again (length c.args.1.0.now) n c.args.0.now a in
    let e : c.exit.1.0.now ≡ laid 0 (file_of (values_given c.args.0.now)) c.args.1.0.now = p.1.0 ∙ rw a in
    let f = front n (file_of (values_given c.args.0.now)) c.args.1.0.now c.exit.1.0.now e m.size in
    record { sound = rw f b.sound; same_bytes = rw f (b.same_bytes p.1.1) }

-- what is written from values that were taken out, for any buffer with room
pub written_of_values_call : (c : Call _ values-kinds.ps values-kinds.r) (n room : ℕ) → Kept _ values-kinds.ps values-kinds.r values.Post c → c.result ≡ Ok n → length c.args.0.now ≤ room
    → (written_answer room (take n c.exit.1.0.now) ≡ fine (length c.args.0.now)) × (file_of (values_given (take n c.exit.1.0.now)) ≡ c.args.0.now)
written_of_values_call c n room p r h =
    let a : values_answer (length c.args.1.0.now) c.args.0.now ≡ fine n = sym p.0 ∙ ap verdict_paper r in
    let t = taken_out (length c.args.1.0.now) n c.args.0.now a in
    let e : c.exit.1.0.now ≡ laid 0 (values_bytes (values_of c.args.0.now)) c.args.1.0.now = p.1 ∙ rw a in
    let f = front n (values_bytes (values_of c.args.0.now)) c.args.1.0.now c.exit.1.0.now e t.1 in
    let g = written_again room c.args.0.now t.0 h in
    rw f (g.answered, g.same_bytes)
