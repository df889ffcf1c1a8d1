-- Document 01's listing of the 69 bytes A, FF, B, as a walk: three records, two frames, one
-- refusal, and a ledger with top 3 and 3 missing. The lines of these records are `listing` of
-- `listing_text`.
use Rattle.std.specs.Prelude.{ℕ, ◌≡◌, refl, List, [], ◌∷◌}
use Rattle.std.specs.Int.Count.{ones}
use Rattle.terms.specs.Paper.{answer}
use Rattle.ledger_spec.specs.State.{Book, nothing, range_rules, map_rules, sound_of}
use Rattle.ledger_spec.specs.Calls.{Ask, Missing, own_number, checked_of, number_to, missing_count, values_of, answer_to}

-- 53303033 0047FA7908DACB40 0000000000000001 00000000 0000008E, FF,
-- 50303031 0047FA7908DACB40 0000000000000002 0000000C 0D 0064 0000000000000003 4E 00000058
unfoldable pub marked : List ℕ
marked =
    0x53 ∷ 0x30 ∷ 0x30 ∷ 0x33 ∷ 0x00 ∷ 0x47 ∷ 0xFA ∷ 0x79 ∷ 0x08 ∷ 0xDA ∷ 0xCB ∷ 0x40 ∷ 0 ∷ 0 ∷ 0 ∷ 0 ∷ 0 ∷ 0 ∷ 0 ∷ 1 ∷ 0 ∷ 0 ∷ 0 ∷ 0 ∷ 0 ∷ 0 ∷ 0 ∷ 0x8E
    ∷ 0xFF
    ∷ 0x50 ∷ 0x30 ∷ 0x30 ∷ 0x31 ∷ 0x00 ∷ 0x47 ∷ 0xFA ∷ 0x79 ∷ 0x08 ∷ 0xDA ∷ 0xCB ∷ 0x40 ∷ 0 ∷ 0 ∷ 0 ∷ 0 ∷ 0 ∷ 0 ∷ 0 ∷ 2 ∷ 0 ∷ 0 ∷ 0 ∷ 0x0C
    ∷ 0x0D ∷ 0x00 ∷ 0x64 ∷ 0 ∷ 0 ∷ 0 ∷ 0 ∷ 0 ∷ 0 ∷ 0 ∷ 3 ∷ 0x4E ∷ 0x00 ∷ 0x00 ∷ 0x00 ∷ 0x58 ∷ []

abbrev pub marked_book : Book
marked_book = record { channel = 100; floor = 0; top = 3; bits = 0; pending = nothing }

pub marked_missing : answer_to marked_book (Ask Missing) ≡ answer 0 (3 ∷ [])
unfolding answer_to values_of missing_count ones number_to checked_of own_number sound_of map_rules range_rules
marked_missing = refl
