-- `head_at`: each return cites the outcome of reading for the tests that led there; a number at `at
-- + k` of the bytes is the one at k of what lies behind the place. Assumes nothing.
use Rattle.std.proofs.Common.{◌≡◌, ℕ, ◌+◌, ◌-◌, ◌≤◌, ◌<◌, false, List, length, drop, sym, ap, ◌∙◌, arith, length-drop}
use Rattle.std.proofs.lemmas.Result.{err_from_is_err_and}
use Rattle.frame_spec.specs.Places.{be_at, be_here}
use Rattle.frame_spec.specs.Outcomes.{measure, read_short, read_measured, read_cut}
use Rattle.frame_spec.specs.Frame.{msg_type, body_length}
use Rattle.rules.specs.Outcomes.{measure_type, measure_same}
use Rattle.rules.specs.Table.{kind_of, known, kind_is, kind_none}
use Rattle.terms.specs.Refusals.{refusal_pos}
use Rattle.octets.specs.Octets.{be}
use Rattle.frame.proofs.Letters.{third}
use Rattle.frame.proofs.head_at.Goals as goal
use Rattle.frame.proofs.head_at.Goals.{After-is_known, After-at-body_len, In_ok-measure}

-- what lies behind the place
abbrev text : goal.After-is_known → List ℕ
text c = drop c.args.at c.args.bytes.now

long : (c : goal.After-is_known) → 24 ≤ length (text c)
long c = simp length-drop (omega arith)

kind : (c : goal.After-is_known) → c.from-kind.result ≡ kind_of (msg_type (text c))
kind c = kind_is _ _ c.from-kind.ensures ∙ ap kind_of (c.at.ensures ∙ be_here c.args.at c.args.bytes.now 4)

len_is : (c : goal.After-at-body_len) → c.at-body_len.result ≡ body_length (text (goal.at.After-at-body_len c).After-is_known)
len_is c = c.at-body_len.ensures ∙ be_at c.args.at c.args.bytes.now 4 20

fine : (c : goal.In_ok-measure) → measure (text (goal.at.In_ok-measure c).After-is_known) ≡ 0
fine c = measure_same _ _ _ _ (sym (kind (goal.at.In_ok-measure c).After-is_known)) (sym (len_is (goal.at.In_ok-measure c).After-at-body_len)) ∙ sym c.in_ok-measure.ensures

-- what is left of the bytes is what lies behind the place
cut : (c : goal.After-at-body_len) → length c.args.bytes.now - c.args.at < 28 + c.at-body_len.result → length (text (goal.at.After-at-body_len c).After-is_known) < 28 + body_length (text (goal.at.After-at-body_len c).After-is_known)
cut c h = rw (length-drop, ← len_is c) h

there : (c : goal.After-at-body_len) → 28 + c.at-body_len.result ≤ length c.args.bytes.now - c.args.at → 28 + body_length (text (goal.at.After-at-body_len c).After-is_known) ≤ length (text (goal.at.After-at-body_len c).After-is_known)
there c h = rw (length-drop, ← len_is c) h

pub returns-then-bytes-at : goal.returns-then-bytes-at
returns-then-bytes-at c = read_short _ (simp length-drop (omega arith))

pub returns-then-left-lt24 : goal.returns-then-left-lt24
returns-then-left-lt24 c = read_short _ (simp length-drop (omega arith))

-- the third letter alone says that the word is none of the table's
pub returns-then-bytes-at-ne48 : goal.returns-then-bytes-at-ne48
returns-then-bytes-at-ne48 c =
    let s = c in
    let a = s.args.at in
    let b = s.args.bytes.now in
    let no_type : known (kind_of (msg_type (drop a b))) ≡ false =
    ap known (ap kind_of (sym (be_here a b 4)) ∙ kind_none (be 4 a b) (λ e. c.if-bytes-at-ne48.true (sym (third a b (c.type_inv.bytes (a + 2)).fits (c.type_inv.bytes (a + 3)).fits) ∙ e))) in
    read_measured _ 2 (simp length-drop (omega arith)) (measure_type _ _ no_type) (λ e. omega arith)

pub returns-then-not-is_known : goal.returns-then-not-is_known
returns-then-not-is_known c =
    let s = (goal.at.returns-then-not-is_known c).After-is_known in
    read_measured _ 2 (long s) (measure_type _ _ (ap known (sym (kind s)) ∙ sym c.is_known.ensures ∙ c.if-not-is_known.true)) (λ e. omega arith)

pub returns-then-left-body_len : goal.returns-then-left-body_len
returns-then-left-body_len c = read_cut _ (long (goal.at.returns-then-left-body_len c).After-is_known) (fine (goal.at.returns-then-left-body_len c).In_ok-measure) (cut (goal.at.returns-then-left-body_len c).After-at-body_len (omega arith))

pub returns-in_err-measure : goal.returns-in_err-measure
returns-in_err-measure c =
    let p = err_from_is_err_and c.from_residual.result c.from_residual.ensures.1 in
    rw (p.1, p.2)
    (read_measured _ _ (long (goal.at.returns-in_err-measure c).After-is_known)
    (measure_same _ _ _ _ (sym (kind (goal.at.returns-in_err-measure c).After-is_known)) (sym (len_is (goal.at.returns-in_err-measure c).After-at-body_len)) ∙ sym c.in_err-measure.ensures)
    (refusal_pos _))

pub returns : goal.returns
returns c = (kind (goal.at.returns c).After-is_known, len_is (goal.at.returns c).After-at-body_len, record { header = long (goal.at.returns c).After-is_known; measured = fine (goal.at.returns c).In_ok-measure; there = there (goal.at.returns c).After-at-body_len (omega arith) })
