-- `scrub_into`: reading's refusal is passed on; of a frame that reads, its paper tells the type and
-- the length that it is laid and scrubbed by. Without room nothing is laid; with room the frame
-- lies there, and its last byte is the sum that it is scrubbed by. Assumes nothing.
use Rattle.std.proofs.Common.{◌≡◌, ℕ, ◌+◌, ◌-◌, ◌≤◌, List, [], ◌∷◌, length, take, drop, get_or, refl, sym, ap, ◌∙◌, arith}
use Rattle.std.proofs.lemmas.Result.{err_from_is_err_and}
use Rattle.terms.specs.Paper.{Paper, answer, one_number}
use Rattle.terms.specs.Refusals.{refusal_pos}
use Rattle.octets.specs.Octets.{sum8}
use Rattle.octets.specs.Papers.{room_for}
use Rattle.rules.specs.Table.{kind_of, kind_is}
use Rattle.frame_spec.specs.Frame.{msg_type, body_length, read_of}
use Rattle.frame_spec.specs.Outcomes.{read_done, read_values, read_length}
use Rattle.private.specs.Into.{frame_in}
use Rattle.private.specs.IntoLaws.{into_passed, into_kept}
use Rattle.private.proofs.IntoLaws.{own_long}
use Rattle.scrub.proofs.Lays as lays
use Rattle.scrub.proofs.Parts.{repainted}
use Rattle.scrub.proofs.scrub_into.Goals as goal
use Rattle.scrub.proofs.scrub_into.Goals.{After-from-kind, In_ok-size}

-- what is read: a frame, its type and its length
abbrev text : goal.After-from-kind → List ℕ
text c = drop c.args.at c.args.bytes.now

abbrev len : goal.After-from-kind → ℕ
len c = c.in_ok-header.header.body_len

done : (c : goal.After-from-kind) → (read_of (text c)).number ≡ 0
done c = read_done _ _ _ _ _ c.in_ok-header.ensures

kind : (c : goal.After-from-kind) → c.from-kind.result ≡ kind_of (msg_type (text c))
kind c = kind_is _ _ c.from-kind.ensures ∙ ap (λ (x : Paper). kind_of (get_or x.values 0 0)) (read_values _ _ _ _ _ c.in_ok-header.ensures)

long : (c : goal.After-from-kind) → len c ≡ body_length (text c)
long c = read_length _ _ _ _ _ c.in_ok-header.ensures

inside : (c : goal.After-from-kind) → c.args.at + 28 + len c ≤ length c.args.bytes.now
inside c = lays.inside c.args.bytes.now c.args.at c.from-kind.result (len c) (done c) (kind c) (long c)

abbrev lent : goal.After-from-kind → List ℕ
lent c = take (c.args.at + 28 + len c - c.args.at) (text c)

part : (c : goal.After-from-kind) → lent c ≡ frame_in (text c)
part c = lays.part_is c.args.bytes.now c.args.at c.from-kind.result (len c) (done c) (kind c) (long c) (c.args.at + 28 + len c - c.args.at) (omega arith)

-- where it was laid: how many bytes it has, and that they have room
abbrev read : goal.In_ok-size → goal.After-from-kind
read c = (goal.at.In_ok-size c).After-from-kind

paper : (c : goal.In_ok-size) → answer 0 (c.in_ok-size.size ∷ []) ≡ room_for c.args.to (length (lent (read c))) (length c.args.out.now)
paper c = c.in_ok-size.ensures.0

sized : (c : goal.In_ok-size) → c.in_ok-size.size ≡ 28 + len (read c)
sized c = lays.size_is c.args.bytes.now c.args.at c.from-kind.result (len (read c)) (done (read c)) (kind (read c)) (long (read c)) _ _ _ _ (part (read c)) c.lay.ensures.1 _ (paper c)

room : (c : goal.In_ok-size) → c.args.to + c.in_ok-size.size ≤ length c.args.out.now
room c = lays.room c.args.bytes.now c.args.at c.from-kind.result (len (read c)) (done (read c)) (kind (read c)) (long (read c)) _ _ _ _ (part (read c)) c.lay.ensures.1 _ (paper c)

roomy : (c : goal.In_ok-size) → c.args.to + c.in_ok-size.size ≤ length c.lay.new.d
roomy c =
    let n = read c in
    let l = lays.now_long c.args.bytes.now c.args.at c.from-kind.result (len n) (done n) (kind n) (long n) _ _ _ _ (part n) c.lay.ensures.1 _ (paper c) in
    omega (arith, room c, l)

-- and it lies there
there : (c : goal.In_ok-size) → take (c.args.to + c.in_ok-size.size - c.args.to) (drop c.args.to c.lay.new.d) ≡ frame_in (text (read c))
there c =
    let n = read c in
    lays.there c.args.bytes.now c.args.at c.from-kind.result (len n) (done n) (kind n) (long n) _ _ _ _ (part n) c.lay.ensures.1 _ (paper c) (c.args.to + c.in_ok-size.size - c.args.to) (omega arith)

pub overflow_add-end : goal.overflow_add-end
overflow_add-end c = omega (arith, inside (goal.at.overflow_add-end c).After-from-kind)

pub overflow_add-end-2 : goal.overflow_add-end-2
overflow_add-end-2 c = omega (arith, inside (goal.at.overflow_add-end-2 c).After-from-kind)

pub slice_bounds-lay-end : goal.slice_bounds-lay-end
slice_bounds-lay-end c = inside (goal.at.slice_bounds-lay-end c).After-from-kind

pub overflow_add-behind : goal.overflow_add-behind
overflow_add-behind c = omega (arith, room (goal.at.overflow_add-behind c).In_ok-size)

pub slice_bounds-repaint-end : goal.slice_bounds-repaint-end
slice_bounds-repaint-end c = roomy (goal.at.slice_bounds-repaint-end c).In_ok-size

pub repaint-requires : goal.repaint-requires
repaint-requires c =
    let m = (goal.at.repaint-requires c).In_ok-size in
    let s = read m in
    let a = c.args in
    let k = c.from-kind.result in
    let n = len s in (
      omega (arith, ap length (there m), own_long (text s) (done s), long s),
      (
        lays.suits_there a.bytes.now a.at k n (done s) (kind s) (long s),
        (
          c.at-v.ensures ∙ lays.last_is a.bytes.now a.at k n (done s) (kind s) (long s) ∙ ap (λ (x : List ℕ). sum8 (take (24 + n) x)) (sym (there m)),
          ap (λ (x : List ℕ). take 3 (drop (24 + n) x)) (there m) ∙ lays.small_is a.bytes.now a.at k n (done s) (kind s) (long s),
        ),
      ),
    )

pub returns-in_err-header : goal.returns-in_err-header
returns-in_err-header c =
    let p = err_from_is_err_and c.from_residual.result c.from_residual.ensures.1 in
    let ne : (read_of (drop c.args.at c.args.bytes.now)).number ≡ 0 → ⊥ = λ z. refusal_pos _ (one_number c.in_err-header.ensures ∙ z) in
    rw (p.1, p.2) (c.in_err-header.ensures ∙ sym (into_passed _ ne _ _), sym (into_kept _ ne _ _))

pub returns-in_err-size : goal.returns-in_err-size
returns-in_err-size c =
    let s = (goal.at.returns-in_err-size c).After-from-kind in
    let p = err_from_is_err_and c.from_residual-in_err-size.result c.from_residual-in_err-size.ensures.1 in
    rw (p.1, p.2)
    (lays.lacks c.args.bytes.now c.args.at c.from-kind.result (len s) (done s) (kind s) (long s) _ _ _ _ (part s) c.lay.ensures.1 _ (_, refl) c.in_err-size.ensures.0)

pub returns : goal.returns
returns c =
    let m = (goal.at.returns c).In_ok-size in
    let s = read m in
    let a = c.args in
    let k = c.from-kind.result in
    let n = len s in
    let end = a.to + c.in_ok-size.size in
    let back = repainted k n a.to end c.lay.new.d _ (roomy m) (omega (arith, sized m)) (lays.suits_there a.bytes.now a.at k n (done s) (kind s) (long s)) c.repaint.ensures in
    lays.lays a.bytes.now a.at k n (done s) (kind s) (long s) _ _ _ _ (part s) c.lay.ensures.1 _ (paper m) _ (end - a.to) (omega arith) back
