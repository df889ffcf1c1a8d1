-- For each public function: wrong answers that its promise rules out, as tables of what is given
-- and what is then wrong. Assumes nothing.
use Prim.Native.Nat.{ℕ, ◌^◌}
use mathlib.Core.Path.{refl, ap, ap₂}
use mathlib.Core.List.{List, [], ◌∷◌}
use lib.ListN.{get_or}
use Rattle.std.specs.Prelude.{Result, Ok, Err, Option, Some, None}
use Rattle.terms.specs.declared.Refusal.{Refusal}
use Rattle.terms.specs.RuledOut.{Row, ◌never◌, ◌only◌, Kept, RulesOut, ruled, numbers, lists, beside}
use Rattle.terms.specs.declared.Refusal.TheVariants.{Room}
use Rattle.octets.specs.Papers.{written_paper}
use Rattle.tick_map.specs.Bits.{value_of, bits_in, map_of}
use Rattle.tick_map.specs.Ring.{rotated}
use Rattle.ledger_spec.specs.State.{Asked, nothing, range}
use Rattle.ledger.specs.State.{range_of, asked_of, ledger_of}
use Rattle.ledger.specs.declared.Ledger.{Ledger}
use Rattle.ledger.specs.declared.Range.{Range}
use Rattle.host_words.specs.Words.{first_asked, last_asked, words_of, pending_in, ledger_in}
use Rattle.host_words.specs.Told.{told_by}
use Rattle.host_words.specs.Calls.{kept_by}
use Rattle.host_words.proofs.ledger_in.Reads as ledger-in
use Rattle.host_words.proofs.ledger_in.Kinds as ledger-in-kinds
use Rattle.host_words.proofs.state_of.Reads as state-of
use Rattle.host_words.proofs.state_of.Kinds as state-of-kinds
use Rattle.host_words.proofs.first_asked.Reads as first-asked
use Rattle.host_words.proofs.first_asked.Kinds as first-asked-kinds
use Rattle.host_words.proofs.last_asked.Reads as last-asked
use Rattle.host_words.proofs.last_asked.Kinds as last-asked-kinds
use Rattle.host_words.proofs.keep.Reads as keep
use Rattle.host_words.proofs.keep.Kinds as keep-kinds
use Rattle.host_words.proofs.told_bytes.Reads as told-bytes
use Rattle.host_words.proofs.told_bytes.Kinds as told-bytes-kinds

-- a ledger as a row of numbers: channel, floor, top, the places held as one number, and the
-- pending range
abbrev pending : Asked → List ℕ
pending nothing = []
pending (range first last) = first ∷ last ∷ []

abbrev seen : Ledger → List ℕ
seen l = l.channel.0 ∷ l.floor.0 ∷ l.top.0 ∷ bits_in l.map ∷ pending (asked_of l.pending)

abbrev pub ledger_in_wrong : List (Row (List ℕ) (List ℕ))
ledger_in_wrong =
    (100 ∷ 5 ∷ 9 ∷ 2 ∷ 0 ∷ 0 ∷ 0 ∷ 6 ∷ 8 ∷ []) never (100 ∷ 9 ∷ 5 ∷ 2 ∷ 6 ∷ 8 ∷ [])  -- floor and top swapped
    ∷ (100 ∷ 5 ∷ 9 ∷ 2 ∷ 0 ∷ 0 ∷ 0 ∷ 6 ∷ 8 ∷ []) only (100 ∷ 5 ∷ 9 ∷ 2 ∷ 6 ∷ 8 ∷ [])
    ∷ (65636 ∷ 5 ∷ 9 ∷ 2 ∷ 0 ∷ 0 ∷ 0 ∷ 0 ∷ 0 ∷ []) never (100 ∷ 5 ∷ 9 ∷ 2 ∷ [])  -- a channel cut to two bytes
    ∷ []

pub ledger_in_rules_out : RulesOut (Kept _ ledger-in-kinds.ps ledger-in-kinds.r ledger-in.Post) (λ c. c.args.0.now) (λ c. seen c.result) ledger_in_wrong
unfolding value_of pending_in ledger_in
ledger_in_rules_out = ruled lists (λ (w : List ℕ). seen (ledger_in w)) (λ c p. ap seen p) _ refl

-- of a ledger that holds number 7: the same numbers, as nine words
abbrev ledger : Asked → Ledger
ledger asked = ledger_of (record { channel = 100; floor = 5; top = 9; bits = 2; pending = asked })

abbrev pub state_of_wrong : List (Row Ledger (List ℕ))
state_of_wrong =
    ledger (range 6 8) only (100 ∷ 5 ∷ 9 ∷ 2 ^ 7 ∷ 0 ∷ 0 ∷ 0 ∷ 6 ∷ 8 ∷ [])
    ∷ ledger nothing never (100 ∷ 5 ∷ 9 ∷ 2 ^ 7 ∷ 0 ∷ 0 ∷ 0 ∷ 1 ∷ 0 ∷ [])  -- a request where none is pending
    ∷ []

pub state_of_rules_out : RulesOut (Kept _ state-of-kinds.ps state-of-kinds.r state-of.Post) (λ c. c.args.0) (λ c. c.result) state_of_wrong
unfolding rotated map_of ledger_of words_of
state_of_rules_out = ruled lists words_of (λ c p. p) _ refl

-- the first and the last number of a pending range, 0 where there is none
abbrev pub first_asked_wrong : List (Row (Option Range) ℕ)
first_asked_wrong =
    Some (range_of 6 8) never 8  -- the last for the first
    ∷ Some (range_of 6 8) only 6
    ∷ None only 0
    ∷ []

pub first_asked_rules_out : RulesOut (Kept _ first-asked-kinds.ps first-asked-kinds.r first-asked.Post) (λ c. c.args.0) (λ c. c.result) first_asked_wrong
first_asked_rules_out = ruled numbers first_asked (λ c p. p) _ refl

abbrev pub last_asked_wrong : List (Row (Option Range) ℕ)
last_asked_wrong =
    Some (range_of 6 8) never 6  -- the first for the last
    ∷ Some (range_of 6 8) only 8
    ∷ None only 0
    ∷ []

pub last_asked_rules_out : RulesOut (Kept _ last-asked-kinds.ps last-asked-kinds.r last-asked.Post) (λ c. c.args.0) (λ c. c.result) last_asked_wrong
last_asked_rules_out = ruled numbers last_asked (λ c p. p) _ refl

-- KEEP: the words before, the number answered, and the ledger beside it; the words then
abbrev before : List ℕ
before = 100 ∷ 5 ∷ 5 ∷ 0 ∷ 0 ∷ 0 ∷ 0 ∷ 0 ∷ 0 ∷ []

abbrev pub keep_wrong : List (Row (List ℕ × (ℕ × Ledger)) (List ℕ))
keep_wrong =
    (before, (11, ledger nothing)) never (100 ∷ 5 ∷ 9 ∷ 2 ^ 7 ∷ 0 ∷ 0 ∷ 0 ∷ 0 ∷ 0 ∷ [])  -- a refusal stores a ledger
    ∷ (before, (11, ledger nothing)) only before
    ∷ (before, (12, ledger nothing)) only (100 ∷ 5 ∷ 9 ∷ 2 ^ 7 ∷ 0 ∷ 0 ∷ 0 ∷ 0 ∷ 0 ∷ [])  -- but 12, which raises the top
    ∷ (before, (0, ledger nothing)) never before  -- a call that is done changes nothing
    ∷ []

pub keep_rules_out : RulesOut (Kept _ keep-kinds.ps keep-kinds.r keep.Post) (λ c. (c.args.0.now, (c.args.1.0, c.args.1.1.0))) (λ c. c.exit.0.now) keep_wrong
unfolding rotated map_of ledger_of words_of kept_by
keep_rules_out = ruled lists (λ (i : List ℕ × (ℕ × Ledger)). kept_by i.1.0 i.1.1 i.0) (λ c p. p) _ refl

-- what was written, and the told number before; the number answered, and the told one then
abbrev pub told_bytes_wrong : List (Row (Result ℕ Refusal × ℕ) (ℕ × ℕ))
told_bytes_wrong =
    (Err Room, 7) never (8, 0)  -- something told beside a refusal
    ∷ (Err Room, 7) only (8, 7)
    ∷ (Ok 28, 7) only (0, 28)
    ∷ []

pub told_bytes_rules_out : RulesOut (Kept _ told-bytes-kinds.ps told-bytes-kinds.r told-bytes.Post) (λ c. (c.args.0, c.args.1.0.now)) (λ c. (c.result, c.exit.1.0.now)) told_bytes_wrong
unfolding told_by
told_bytes_rules_out =
    ruled (beside numbers numbers) (λ (i : Result ℕ Refusal × ℕ). ((written_paper i.0).number, get_or (told_by (written_paper i.0) (i.1 ∷ [])) 0 0))
    (λ c p. ap₂ (λ (n m : ℕ). (n, m)) p.answered (ap (λ (l : List ℕ). get_or l 0 0) p.told)) _ refl
