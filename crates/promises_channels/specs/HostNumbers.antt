-- Demand 1 through the host, for the table of channels and the month's page: an answer is 0, or
-- one of document 01's table.
use Rattle.std.specs.Prelude.{ℕ, ◌≤◌, ◌≡◌, refl, Bool, true, false, ◌&&◌, ◌||◌, not, ◌⊎◌, List, [], ◌∷◌, eqb, ltb, leb}
use Rattle.std.proofs.Common.{inl, inr, ⊎_elim, arith, eqb-true, leb-true, le-leb}
use Rattle.terms.specs.Cases.{clash, two}
use Rattle.channels_spec.specs.Table.{Table, free_place, is_open}
use Rattle.channels_spec.specs.Calls.{opening_number}
use Rattle.channels.specs.declared.Channels.{Channels}
use Rattle.host_channels.specs.declared.Exchange.{Exchange}
use Rattle.host_channels.specs.Exchanges.{Exchanges}
use Rattle.channels_seam.specs.Numbers.{table_number}
use Rattle.channels_seam.proofs.Numbers.{table_number_lem}
use Rattle.month_spec.specs.Page.{Page, captures, figures_in_all, all_below}
use Rattle.month_spec.specs.Page as month-page
use Rattle.month_spec.specs.Calls.{naming_number, start_from, start_number, sum_fits}
use Rattle.month_spec.specs.Calls as month
use Rattle.host_month.specs.Words.{page_words}
use Rattle.host_month.proofs.rk_month_start.Reads as rk-month-start
use Rattle.host_month.proofs.rk_month_start.Kinds as rk-month-start-kinds
use Rattle.host_month.proofs.rk_month_add.Reads as rk-month-add
use Rattle.host_month.proofs.rk_month_add.Kinds as rk-month-add-kinds
use Rattle.promises_words.specs.Words.{Promises, in_table, Numbered, done, refused, picked, tells_numbered}

-- of `host_channels`: a table's numbers (0, those of the ledger's calls, 21 and 22) are of the
-- table

table_numbered : (n : ℕ) → table_number n ≡ true → Numbered n
unfolding table_number in_table
table_numbered n e = ⊎_elim (λ z. done (eqb-true n 0 z)) (λ z. ⊎_elim (λ p. low (leb-true 10 n p.0) (leb-true n 18 p.1)) (λ p. high (leb-true 21 n p.0) (leb-true n 22 p.1)) (either_of _ _ _ _ (behind_0 _ _ z e))) (two (eqb n 0))
  where
    behind_0 : (u v : Bool) → u ≡ false → u || v ≡ true → v ≡ true
    behind_0 true v f g = absurd (clash refl f)
    behind_0 false v f g = g

    either_of : (b c d f : Bool) → (b && c) || (d && f) ≡ true → ((b ≡ true) × (c ≡ true)) ⊎ ((d ≡ true) × (f ≡ true))
    either_of true true d f g = inl (refl, refl)
    either_of true false true true g = inr (refl, refl)
    either_of true false true false g = absurd (clash g refl)
    either_of true false false f g = absurd (clash g refl)
    either_of false c true true g = inr (refl, refl)
    either_of false c true false g = absurd (clash g refl)
    either_of false c false f g = absurd (clash g refl)

    within : 1 ≤ n → n ≤ 22 → Numbered n
    within l h = refused {n = n} (simp (le-leb 1 n l, le-leb n 22 h))

    low : 10 ≤ n → n ≤ 18 → Numbered n
    low l h = within (omega arith) (omega arith)

    high : 21 ≤ n → n ≤ 22 → Numbered n
    high l h = within (omega arith) h

pub rk_channels_numbered : (was : Channels) (lent : Exchange) (next : Channels) (told : Exchange) → Exchanges was lent next told → Numbered told.told.answer
rk_channels_numbered was lent next told p = table_numbered told.told.answer (table_number_lem lent.call p.serves)

-- and of `host_month`: 0, 10, 21 and 22 at the start; 0, 13, 27 and 28 for a capture

naming : (t : Table) (channel : ℕ) → Numbered (opening_number t channel)
unfolding opening_number in_table
naming t channel = picked (ltb 9999 channel) 10 _ (refused refl) (picked (is_open t channel) 22 _ (refused refl) (picked (ltb (free_place t) 32) 0 21 (done refl) (refused refl)))

starting : (before cs : List ℕ) → Numbered (start_from before cs)
unfolding start_from
starting before [] = done refl
starting before (c ∷ cs) = picked (eqb (naming_number before c) 0) _ _ (starting _ cs) (naming _ c)

adding : (p : Page) (s : List ℕ) → Numbered (month.number_to p s)
unfolding month.number_to in_table
adding p s = picked (not (month-page.sound_of p)) 13 _ (refused refl) (picked (leb captures p.taken) 27 _ (refused refl) (picked (all_below (sum_fits p s) figures_in_all) 0 28 (done refl) (refused refl)))

pub rk_month_start_numbered : Promises _ rk-month-start-kinds.ps rk-month-start-kinds.r rk-month-start.Post (λ κs a x s. Numbered x)
unfolding start_number
rk_month_start_numbered κs a x s p = rw p.0 (starting [] a.0.now)

pub rk_month_add_numbered : Promises _ rk-month-add-kinds.ps rk-month-add-kinds.r rk-month-add.Post (λ κs a x s. Numbered x)
unfolding month.answer_to
rk_month_add_numbered κs a x s p = tells_numbered p.0 (adding (page_words a.0.now) a.1.0.now)
