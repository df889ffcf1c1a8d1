-- Demand 1 through the host, for the ledger: an answer is 0, or one of document 01's table. This is
-- said of each paper that a function of `host_ledger` names in its promise; then of each function.
use Rattle.std.specs.Prelude.{ℕ, refl, List, ltb}
use Rattle.ledger_spec.specs.Calls.{Call, Announce, Request, Reply, Ask, Missing, Between, Renew, open_number}
use Rattle.host_words.specs.Words.{book_in}
use Rattle.host_words.specs.Calls.{call_told}
use Rattle.host_ledger.specs.Words.{ledger_told}
use Rattle.host_ledger.proofs.rk_ledger_open.Reads as rk-ledger-open
use Rattle.host_ledger.proofs.rk_ledger_open.Kinds as rk-ledger-open-kinds
use Rattle.host_ledger.proofs.rk_ledger_tick.Reads as rk-ledger-tick
use Rattle.host_ledger.proofs.rk_ledger_tick.Kinds as rk-ledger-tick-kinds
use Rattle.host_ledger.proofs.rk_ledger_announce.Reads as rk-ledger-announce
use Rattle.host_ledger.proofs.rk_ledger_announce.Kinds as rk-ledger-announce-kinds
use Rattle.host_ledger.proofs.rk_ledger_request.Reads as rk-ledger-request
use Rattle.host_ledger.proofs.rk_ledger_request.Kinds as rk-ledger-request-kinds
use Rattle.host_ledger.proofs.rk_ledger_reply.Reads as rk-ledger-reply
use Rattle.host_ledger.proofs.rk_ledger_reply.Kinds as rk-ledger-reply-kinds
use Rattle.host_ledger.proofs.rk_ledger_renew.Reads as rk-ledger-renew
use Rattle.host_ledger.proofs.rk_ledger_renew.Kinds as rk-ledger-renew-kinds
use Rattle.host_ledger.proofs.rk_ledger_missing.Reads as rk-ledger-missing
use Rattle.host_ledger.proofs.rk_ledger_missing.Kinds as rk-ledger-missing-kinds
use Rattle.host_ledger.proofs.rk_ledger_told.Reads as rk-ledger-told
use Rattle.host_ledger.proofs.rk_ledger_told.Kinds as rk-ledger-told-kinds
use Rattle.promises_words.specs.Words.{Promises, in_table, Numbered, done, refused, picked, tells_numbered}
use Rattle.promises_words.specs.LedgerNumbers.{calling}

-- EACH PAPER OF THE HOST

pub record HostNumbered : Type 0 where
  pub opening : (channel : ℕ) → Numbered (open_number channel)
  pub calling : (w : List ℕ) (call : Call) → Numbered (call_told w call).number
  pub telling : (w : List ℕ) → Numbered (ledger_told w).number

pub host_numbered : HostNumbered
unfolding ledger_told in_table
host_numbered =
    record {
      opening = λ channel. picked (ltb 9999 channel) 10 0 (refused refl) (done refl);
      calling = λ w call. calling (book_in w) call;
      telling = λ w. calling (book_in w) (Ask Missing);
    }

-- EACH FUNCTION OF THE HOST: whatever its promise allows it to answer

pub rk_ledger_open_numbered : Promises _ rk-ledger-open-kinds.ps rk-ledger-open-kinds.r rk-ledger-open.Post (λ κs a x s. Numbered x)
rk_ledger_open_numbered κs a x s p = rw p.0 (host_numbered.opening a.0)

pub rk_ledger_tick_numbered : Promises _ rk-ledger-tick-kinds.ps rk-ledger-tick-kinds.r rk-ledger-tick.Post (λ κs a x s. Numbered x)
rk_ledger_tick_numbered κs a x s p = tells_numbered p.0 (host_numbered.calling _ _)

pub rk_ledger_announce_numbered : Promises _ rk-ledger-announce-kinds.ps rk-ledger-announce-kinds.r rk-ledger-announce.Post (λ κs a x s. Numbered x)
rk_ledger_announce_numbered κs a x s p = rw p.0 (host_numbered.calling a.0.now (Announce a.1.0 a.1.1.0))

pub rk_ledger_request_numbered : Promises _ rk-ledger-request-kinds.ps rk-ledger-request-kinds.r rk-ledger-request.Post (λ κs a x s. Numbered x)
rk_ledger_request_numbered κs a x s p = tells_numbered p.0 (host_numbered.calling _ _)

pub rk_ledger_reply_numbered : Promises _ rk-ledger-reply-kinds.ps rk-ledger-reply-kinds.r rk-ledger-reply.Post (λ κs a x s. Numbered x)
rk_ledger_reply_numbered κs a x s p = rw p.0.answered (host_numbered.calling a.0.now (Reply a.1.0 a.1.1.0 a.1.1.1.0))

pub rk_ledger_renew_numbered : Promises _ rk-ledger-renew-kinds.ps rk-ledger-renew-kinds.r rk-ledger-renew.Post (λ κs a x s. Numbered x)
rk_ledger_renew_numbered κs a x s p = rw p.0 (host_numbered.calling a.0.now Renew)

pub rk_ledger_missing_numbered : Promises _ rk-ledger-missing-kinds.ps rk-ledger-missing-kinds.r rk-ledger-missing.Post (λ κs a x s. Numbered x)
rk_ledger_missing_numbered κs a x s p = tells_numbered p (host_numbered.calling _ _)

pub rk_ledger_told_numbered : Promises _ rk-ledger-told-kinds.ps rk-ledger-told-kinds.r rk-ledger-told.Post (λ κs a x s. Numbered x)
rk_ledger_told_numbered κs a x s p = tells_numbered p (host_numbered.telling _)
