-- Two answers that the promise of `rk_channels` allows are equal, and so are two later contents of
-- the lent table. A refusal other than 12 leaves the table as it was. The promise is one relation,
-- `Exchanges`, since a lent struct has no `Post` of the checker's. Assumes nothing.
use mathlib.Core.Path.{◌≡◌, sym, ap, ◌∙◌}
use Rattle.host_words.specs.Told.{Refuses}
use Rattle.channels.specs.declared.Channels.{Channels}
use Rattle.channels.specs.declared.ChannelTold.{ChannelTold}
use Rattle.channels.specs.Serves.{answered_by}
use Rattle.channels.proofs.Keeps.{served_keeps}
use Rattle.host_channels.specs.declared.Exchange.{Exchange}
use Rattle.host_channels.specs.Exchanges.{Exchanges}

-- the answer stands beside the call, which is as it was
pub rk_channels_one_answer : (was : Channels) (asks : Exchange) (x y : Channels) (a b : Exchange) → Exchanges was asks x a → Exchanges was asks y b → a ≡ b
rk_channels_one_answer was asks x y a b p q =
    λ i. record { call = (p.call_kept ∙ sym q.call_kept) i; told = (p.serves.told_is ∙ sym q.serves.told_is) i }

pub rk_channels_one_buffer : (was : Channels) (asks : Exchange) (x y : Channels) (a b : Exchange) → Exchanges was asks x a → Exchanges was asks y b → x ≡ y
rk_channels_one_buffer was asks x y a b p q = p.serves.table_is ∙ sym q.serves.table_is

-- byte for byte: names, index and rows
pub rk_channels_refused_keeps : (was : Channels) (asks : Exchange) (x : Channels) (a : Exchange) → Exchanges was asks x a → Refuses a.told.answer → (a.told.answer ≡ 12 → ⊥) → x ≡ was
rk_channels_refused_keeps was asks x a p z f =
    let number : a.told.answer ≡ (answered_by was asks.call).told.answer = ap (λ (t : ChannelTold). t.answer) p.serves.told_is in
    p.serves.table_is
    ∙ served_keeps was asks.call (λ (e : (answered_by was asks.call).told.answer ≡ 0). z (number ∙ e)) (λ (e : (answered_by was asks.call).told.answer ≡ 12). f (number ∙ e))
