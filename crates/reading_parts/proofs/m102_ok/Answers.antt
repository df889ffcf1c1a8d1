-- `m102_ok`: the front has the fixed part; behind all tests the entries alone decide. Assumes
-- nothing.
use Rattle.std.proofs.Common.{◌≡◌, ℕ, ◌+◌, ◌*◌, ◌≤◌, List, ◌++◌, length, take, drop, sym, ap, ◌∙◌, arith, eq-eqb, ne_eqb}
use Rattle.octets.specs.Octets.{be}
use Rattle.rules.specs.Fields.{m102_fixed_ok, entry_size, entries_ok}
use Rattle.rules.specs.Sizes.{size_small, size_wide, entries_small, m102_length, m102_fields, m102_entries, same_whole}
use Rattle.frame_spec.specs.Frame.{body}
use Rattle.frame_spec.specs.Measures.{fits}
use Rattle.reading_parts.specs.LongLaws.{in_body, body_is, front_long, fixed_lent}
use Rattle.reading_parts.proofs.m102_ok.Goals as goal
use Rattle.reading_parts.proofs.m102_ok.Goals.{After-entry_size-w, After-m102_fixed_ok, Start}

abbrev both : goal.Start → List ℕ
both s = s.args.first.now ++ s.args.second.now

small : (c : goal.After-entry_size-w) → c.at-n.result * c.entry_size-w.result ≤ 65535 * 19
small c = entries_small c.at-n.result c.entry_size-w.result (omega arith) (omega (arith, size_small c.letters_at.result, c.entry_size-w.ensures))

-- the count, the width and the whole length, as the definition has them
count : (c : goal.After-entry_size-w) → c.at-n.result ≡ be 2 71 (body (both (goal.at.After-entry_size-w c).Start))
count c = c.at-n.ensures ∙ in_body _ _ c.requires.0 2 71 (omega arith)

width : (c : goal.After-entry_size-w) → c.entry_size-w.result ≡ entry_size (be 5 10 (body (both (goal.at.After-entry_size-w c).Start)))
width c = c.entry_size-w.ensures ∙ ap entry_size (c.letters_at.ensures ∙ in_body _ _ c.requires.0 5 10 (omega arith))

whole : (c : goal.After-entry_size-w) → 73 + c.at-n.result * c.entry_size-w.result ≡ 73 + be 2 71 (body (both (goal.at.After-entry_size-w c).Start)) * entry_size (be 5 10 (body (both (goal.at.After-entry_size-w c).Start)))
whole c = same_whole _ _ _ _ (count c) (width c)

long : (s : goal.Start) → s.args.len ≡ length (body (both s))
long s = s.requires.1 ∙ sym (body_is _ _ s.requires.0)

fixed : (c : goal.After-m102_fixed_ok) → c.m102_fixed_ok.result ≡ m102_fixed_ok (body (both (goal.at.After-m102_fixed_ok c).Start))
fixed c = c.m102_fixed_ok.ensures ∙ fixed_lent _ _ c.requires.0

bounds : (s : goal.Start) → (s.args.len ≤ 8164) × (24 + s.args.len ≤ length (both s))
bounds s = (omega (arith, s.requires.1, (fits _ _ s.requires.0.whole.measured).small), omega (arith, s.requires.1, s.requires.0.whole.there))

pub overflow_mul-n : goal.overflow_mul-n
overflow_mul-n c = omega (arith, small (goal.at.overflow_mul-n c).After-entry_size-w)

pub overflow_add-n : goal.overflow_add-n
overflow_add-n c = omega (arith, small (goal.at.overflow_add-n c).After-entry_size-w)

pub returns-then-len-n : goal.returns-then-len-n
returns-then-len-n c = m102_length _ (ne_eqb _ _ (λ e. c.if-len-n.true (long (goal.at.returns-then-len-n c).Start ∙ e ∙ sym (whole (goal.at.returns-then-len-n c).After-entry_size-w))))

pub slice_bounds-m102_fixed_ok-count : goal.slice_bounds-m102_fixed_ok-count
slice_bounds-m102_fixed_ok-count c = omega (arith, front_long _ _ c.requires.0)

pub slice_bounds-m102_fixed_ok-start : goal.slice_bounds-m102_fixed_ok-start
slice_bounds-m102_fixed_ok-start c = omega (arith, front_long _ _ c.requires.0)

pub returns-then-not-m102_fixed_ok : goal.returns-then-not-m102_fixed_ok
returns-then-not-m102_fixed_ok c = m102_fields _ (sym (fixed (goal.at.returns-then-not-m102_fixed_ok c).After-m102_fixed_ok) ∙ c.if-not-m102_fixed_ok.true)

pub entries_ok-requires : goal.entries_ok-requires
entries_ok-requires c = let k = c in (rw k.entry_size-w.ensures (size_wide _), (c.if-len-n.false, bounds (goal.at.entries_ok-requires c).Start))

pub returns : goal.returns
returns c =
    let k = c in
    let s = k in
    c.entries_ok.ensures
    ∙ ap (λ (x : ℕ). entries_ok k.at-n.result k.entry_size-w.result (take x (drop 24 (both (goal.at.returns c).Start)))) s.requires.1
    ∙ m102_entries _ _ _ (sym (fixed (goal.at.returns c).After-m102_fixed_ok) ∙ c.if-not-m102_fixed_ok.false) (eq-eqb _ _ (sym (long (goal.at.returns c).Start) ∙ c.if-len-n.false ∙ whole (goal.at.returns c).After-entry_size-w)) (count (goal.at.returns c).After-entry_size-w) (width (goal.at.returns c).After-entry_size-w)
