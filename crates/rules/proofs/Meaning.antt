-- The tests say the rules: each definition that a promise cites holds exactly when document
-- 01's words do.
use Rattle.std.specs.Prelude.{ℕ, zero, suc, ◌+◌, ◌*◌, ◌<◌, ◌≤◌, ◌^◌, ◌≡◌, refl, true, false, ◌⊎◌, List, length}
use Rattle.std.proofs.Common.{inl, inr, ⊎_elim, arith, eq-or-lt_of_le, le_of_suc-le-suc, not-suc-le-zero}
use Rattle.octets.specs.Octets.{be}
use Rattle.terms.specs.Letters.{spelled}
use Rattle.terms.specs.Cases.{two, same}
use Rattle.rules.specs.declared.Kind.{Kind}
use Rattle.rules.specs.declared.Kind.TheVariants.{S001, S002, S003, P001, P002, M101, M102, M201, Unknown}
use Rattle.rules.specs.declared.Layout.{Layout}
use Rattle.rules.specs.Fields.{s001_ok, s002_ok, p001_ok, p002_ok, orders_ok, trades_ok, layout_of, named_in, tail_ok, m201_ok, m102_values_ok, entry_size, entry_ok, entries_ok, m102_ok, fields_ok}
use Rattle.rules.specs.Rules.{S001Rules, S002Rules, P001Rules, P002Rules, EntrySize, short, long, EntryRules, M102Rules, Orders, order_0, order_4, Trades, trade_F, LayoutRule, is_order, is_trade, is_other, TailRule, M201Rules, FieldRules}
use Rattle.terms.specs.Says.{Says, says_lt, says_le, says_eq, says_and, says_or, says_as}
use Rattle.rules.specs.Meaning.{unsaid, suits_tail_says, layout_one, size_is, pair_says, size_one}

-- FIELDS

s001_says : (b : List ℕ) → Says (s001_ok b) (S001Rules b)
unfolding s001_ok
s001_says b = says_as (says_lt 0 (be 2 64 b)) (λ h. record { heart_bt_int = h }) (λ r. r.heart_bt_int)

s002_says : (b : List ℕ) → Says (s002_ok b) (S002Rules b)
unfolding s002_ok
s002_says b = says_as (says_le (be 4 0 b) 9999) (λ h. record { session_status = h }) (λ r. r.session_status)

p001_says : (b : List ℕ) → Says (p001_ok b) (P001Rules b)
unfolding p001_ok
p001_says b =
    says_as
    (says_and
    (says_and (says_and (says_eq (be 1 0 b) 13) (says_lt (be 2 1 b) (10 ^ 4))) (says_lt (be 8 3 b) (10 ^ 18)))
    (says_or (says_eq (be 1 11 b) (spelled "Y")) (says_eq (be 1 11 b) (spelled "N"))))
    (λ h. record { security_type = h.0.0.0; channel_no = h.0.0.1; appl_last_seq_num = h.0.1; end_of_channel = h.1 })
    (λ r. (((r.security_type, r.channel_no), r.appl_last_seq_num), r.end_of_channel))

-- "in a request [..]": no request, or the end is 0, or it is not below the start
request_to : (status first last : ℕ) → ((0 < status) ⊎ (last ≡ 0)) ⊎ (first ≤ last) → status ≡ 0 → (last ≡ 0) ⊎ (first ≤ last)
request_to status first last h e =
    ⊎_elim (λ (g : (0 < status) ⊎ (last ≡ 0)). ⊎_elim (λ (p : 0 < status). absurd (omega arith)) (λ (q : last ≡ 0). inl q) g) (λ (l : first ≤ last). inr l) h

request_from : (status first last : ℕ) → (status ≡ 0 → (last ≡ 0) ⊎ (first ≤ last)) → ((0 < status) ⊎ (last ≡ 0)) ⊎ (first ≤ last)
request_from status first last r =
    ⊎_elim (λ (e : status ≡ 0). ⊎_elim (λ (q : last ≡ 0). inl (inr q)) (λ (l : first ≤ last). inr l) (r e))
    (λ (ne : status ≡ 0 → ⊥). inl (inl (omega arith)))
    (same status 0)

p002_says : (b : List ℕ) → Says (p002_ok b) (P002Rules b)
unfolding p002_ok
p002_says b =
    says_as
    (says_and
    (says_and
    (says_and
    (says_and (says_and (says_and (says_lt (be 2 0 b) (10 ^ 4)) (says_eq (be 1 2 b) 1)) (says_lt 0 (be 8 3 b))) (says_lt (be 8 3 b) (10 ^ 18)))
    (says_lt (be 8 11 b) (10 ^ 18)))
    (says_or (says_le (be 1 19 b) 5) (says_eq (be 1 19 b) 99)))
    (says_or (says_or (says_lt 0 (be 1 19 b)) (says_eq (be 8 11 b) 0)) (says_le (be 8 3 b) (be 8 11 b))))
    (λ h.
    record {
      channel_no = h.0.0.0.0.0.0;
      resend_type = h.0.0.0.0.0.1;
      appl_beg_seq_num = h.0.0.0.0.1;
      appl_beg_digits = h.0.0.0.1;
      appl_end_digits = h.0.0.1;
      resend_status = h.0.1;
      request = request_to (be 1 19 b) (be 8 3 b) (be 8 11 b) h.1;
    })
    (λ r. (
      (((((r.channel_no, r.resend_type), r.appl_beg_seq_num), r.appl_beg_digits), r.appl_end_digits), r.resend_status),
      request_from (be 1 19 b) (be 8 3 b) (be 8 11 b) r.request,
    ))

-- THE EXTENSION of an M201

orders_say : (s e : ℕ) → Says (orders_ok s e) (Orders s e)
orders_say s e =
    says_as (says_and (says_and (says_le (spelled "MD211") s) (says_le s (spelled "MD216"))) (says_or (says_eq e (spelled "0")) (says_eq e (spelled "4"))))
    (λ h. ⊎_elim (λ (q : e ≡ spelled "0"). order_0 h.0.0 h.0.1 q) (λ (q : e ≡ spelled "4"). order_4 h.0.0 h.0.1 q) h.1)
    (orders_from s e)
  where
    orders_from : (s e : ℕ) → Orders s e → ((spelled "MD211" ≤ s) × (s ≤ spelled "MD216")) × ((e ≡ spelled "0") ⊎ (e ≡ spelled "4"))
    orders_from s e (order_0 a z q) = ((a, z), inl q)
    orders_from s e (order_4 a z q) = ((a, z), inr q)

trades_say : (s e : ℕ) → Says (trades_ok s e) (Trades s e)
trades_say s e = says_as (says_and (says_eq s (spelled "MD217")) (says_eq e (spelled "F"))) (λ h. trade_F h.0 h.1) (trades_from s e)
  where
    trades_from : (s e : ℕ) → Trades s e → (s ≡ spelled "MD217") × (e ≡ spelled "F")
    trades_from s e (trade_F a q) = (a, q)

-- each stream and ExecType have their layout, and only one
pub layout_is : (s e : ℕ) → LayoutRule s e (layout_of s e)
unfolding layout_of
layout_is s e =
    ⊎_elim (λ (o : orders_ok s e ≡ true). rw o (is_order ((orders_say s e).0 o)))
    (λ (o : orders_ok s e ≡ false).
    ⊎_elim (λ (t : trades_ok s e ≡ true). rw (o, t) (is_trade ((trades_say s e).0 t)))
    (λ (t : trades_ok s e ≡ false). rw (o, t) (is_other (unsaid (orders_say s e) o) (unsaid (trades_say s e) t)))
    (two (trades_ok s e)))
    (two (orders_ok s e))

pub tail_says : (b : List ℕ) → Says (tail_ok b) ((l : Layout) → LayoutRule (be 5 11 b) (be 1 28 b) l → TailRule l (length b))
unfolding tail_ok
tail_says b =
    let named = layout_is (be 5 11 b) (be 1 28 b) in
    says_as (suits_tail_says (named_in b) (length b))
    (λ h l r. rw (layout_one (be 5 11 b) (be 1 28 b) l (named_in b) r named) h)
    (λ f. f (named_in b) named)

m201_says : (b : List ℕ) → Says (m201_ok b) (M201Rules b)
unfolding m201_ok
m201_says b =
    says_as
    (says_and
    (says_and
    (says_and
    (says_and
    (says_and
    (says_and (says_and (says_and (says_eq (be 1 0 b) 13) (says_lt (be 2 1 b) (10 ^ 4))) (says_lt 0 (be 8 3 b))) (says_lt (be 8 3 b) (10 ^ 18)))
    (says_lt (be 4 24 b) (10 ^ 9)))
    (says_or (says_or (says_eq (be 1 28 b) (spelled "0")) (says_eq (be 1 28 b) (spelled "4"))) (says_eq (be 1 28 b) (spelled "F"))))
    (says_lt (be 8 29 b) (10 ^ 13)))
    (says_lt (be 8 37 b) (10 ^ 15)))
    (tail_says b))
    (λ h.
    record {
      security_type = h.0.0.0.0.0.0.0.0;
      channel_no = h.0.0.0.0.0.0.0.1;
      appl_seq_num = h.0.0.0.0.0.0.1;
      appl_seq_digits = h.0.0.0.0.0.1;
      transact_time = h.0.0.0.0.1;
      exec_type = h.0.0.0.1;
      price = h.0.0.1;
      order_qty = h.0.1;
      tail = h.1;
    })
    (λ r.
    ((((((((r.security_type, r.channel_no), r.appl_seq_num), r.appl_seq_digits), r.transact_time), r.exec_type), r.price), r.order_qty), r.tail))

-- an entry is short exactly for MD001
short_to : (s w : ℕ) (P : Type 0) → EntrySize s w → (w ≡ 10) ⊎ P → (s ≡ spelled "MD001" → ⊥) → P
short_to s w P z (inr p) ne = p
short_to s w P (short e x) (inl q) ne = absurd (ne e)
short_to s w P (long e x) (inl q) ne = absurd (omega arith)

short_from : (s w : ℕ) (P : Type 0) → EntrySize s w → ((s ≡ spelled "MD001" → ⊥) → P) → (w ≡ 10) ⊎ P
short_from s w P (short e x) f = inl x
short_from s w P (long e x) f = inr (f e)

entry_says : (s w at : ℕ) (b : List ℕ) → EntrySize s w → Says (entry_ok w at b) (EntryRules s at b)
unfolding entry_ok
entry_says s w at b z =
    says_as
    (says_and (says_lt (be 8 (at + 2) b) (10 ^ 13)) (says_or (says_eq w 10) (says_and (says_lt (be 8 (at + 10) b) (10 ^ 12)) (says_lt (be 1 (at + 18) b) (10 ^ 2)))))
    (λ h. record { price = h.0; size = λ ne. (short_to s w _ z h.1 ne).0; position = λ ne. (short_to s w _ z h.1 ne).1 })
    (λ r. (r.price, short_from s w _ z (λ ne. (r.size ne, r.position ne))))

-- each of the first n, where the last is the n-th
last_or : (P : ℕ → Type 0) (n : ℕ) → ((i : ℕ) → i < n → P i) × P n → (i : ℕ) → i < suc n → P i
last_or P n h i l = ⊎_elim (λ (e : i ≡ n). rw e h.1) (λ (k : i < n). h.0 i k) (eq-or-lt_of_le (le_of_suc-le-suc l))

entries_says : (n s w : ℕ) (b : List ℕ) → EntrySize s w → Says (entries_ok n w b) ((i : ℕ) → i < n → EntryRules s (73 + i * w) b)
unfolding entries_ok
entries_says zero s w b z = (λ h i l. absurd (not-suc-le-zero l), λ h. refl)
entries_says (suc n) s w b z =
    says_as (says_and (entries_says n s w b z) (entry_says s w (73 + n * w) b z))
    (last_or (λ (i : ℕ). EntryRules s (73 + i * w) b) n)
    (λ f. (λ i l. f i (omega arith), f n (omega arith)))

m102_says : (b : List ℕ) → Says (m102_ok b) ((w : ℕ) × M102Rules w b)
unfolding m102_ok m102_values_ok
m102_says b =
    let w : ℕ = entry_size (be 5 10 b) in
    let z : EntrySize (be 5 10 b) w = size_is (be 5 10 b) in
    says_as
    (says_and
    (says_and
    (says_and (pair_says (be 1 0 b) (be 5 10 b))
    (says_and
    (says_and
    (says_and
    (says_and
    (says_and (says_and (says_and (says_le 1 (be 1 1 b)) (says_le (be 1 1 b) 3)) (says_lt (be 4 2 b) (10 ^ 8))) (says_lt (be 4 6 b) (10 ^ 9)))
    (says_lt (be 8 31 b) (10 ^ 13)))
    (says_lt (be 8 39 b) (10 ^ 16)))
    (says_lt (be 8 47 b) (10 ^ 16)))
    (says_lt (be 8 55 b) (10 ^ 16))))
    (says_eq (length b) (73 + be 2 71 b * w)))
    (entries_says (be 2 71 b) (be 5 10 b) w b z))
    (λ h. (
      w,
      record {
        trad_ses_mode_low = h.0.0.1.0.0.0.0.0.0.0;
        trad_ses_mode = h.0.0.1.0.0.0.0.0.0.1;
        pair = h.0.0.0;
        trade_date = h.0.0.1.0.0.0.0.0.1;
        last_update_time = h.0.0.1.0.0.0.0.1;
        pre_close_px = h.0.0.1.0.0.0.1;
        total_volume_traded = h.0.0.1.0.0.1;
        num_trades = h.0.0.1.0.1;
        total_value_traded = h.0.0.1.1;
        entry_size_holds = z;
        whole_entries = h.0.1;
        entries = h.1;
      },
    ))
    (λ q.
    let r = rw (size_one (be 5 10 b) q.0 w q.1.entry_size_holds z) at q.1 in (
      (
        (
          r.pair,
          (((((((r.trad_ses_mode_low, r.trad_ses_mode), r.trade_date), r.last_update_time), r.pre_close_px), r.total_volume_traded), r.num_trades), r.total_value_traded),
        ),
        r.whole_entries,
      ),
      r.entries,
    ))

pub fields_say : (k : Kind) (b : List ℕ) → Says (fields_ok k b) (FieldRules k b)
unfolding fields_ok
fields_say S001 b = s001_says b
fields_say S002 b = s002_says b
fields_say S003 b = (λ h. record {}, λ h. refl)
fields_say P001 b = p001_says b
fields_say P002 b = p002_says b
fields_say M101 b = (λ h. record {}, λ h. refl)
fields_say M102 b = m102_says b
fields_say M201 b = m201_says b
fields_say Unknown b = (λ h. let z : ◌≡◌ {A = ℕ} 0 1 = cc in absurd (omega arith), λ h. absurd h)
