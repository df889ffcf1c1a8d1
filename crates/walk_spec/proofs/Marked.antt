-- Document 01's listing of the 69 bytes A, FF, B, as a walk: three records, two frames, one
-- refusal, and a ledger with top 3 and 3 missing. The lines of these records are `listing` of
-- `listing_text`.
use Rattle.std.specs.Prelude.{◌≡◌, refl, [], ◌∷◌}
use Rattle.octets.specs.Octets.{numeral, sum8, sum_of}
use Rattle.calendar.specs.Calendar.{leap, days_in, real_parts, real_time}
use Rattle.rules.specs.Table.{kind_of, suits, measure_of}
use Rattle.rules.specs.Fields.{p001_ok, fields_ok, judge_of}
use Rattle.frame_spec.specs.Frame.{checked, read_of}
use Rattle.frame_spec.specs.Search.{first_of, search_of}
use Rattle.ledger_spec.specs.State.{range_rules, map_rules, sound_of}
use Rattle.ledger_spec.specs.Calls.{own_number, checked_of, number_to, raised, done, next_of, fresh}
use Rattle.record.specs.Examples.{record_a, record_fF, record_b}
use Rattle.walk_spec.specs.Literal.{walk_from, literal_walk}
use Rattle.walk_spec.specs.Marked.{marked, marked_book}

pub marked_walk : literal_walk marked ≡ record { records = record_a ∷ record_fF ∷ record_b ∷ []; frames = 2; refused = 1; ledger = marked_book }
unfolding literal_walk walk_from marked read_of checked measure_of kind_of suits real_time real_parts days_in leap judge_of fields_ok p001_ok numeral sum8 sum_of search_of first_of next_of number_to checked_of own_number sound_of map_rules range_rules done raised fresh
marked_walk = refl
