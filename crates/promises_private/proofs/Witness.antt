-- CR 13 speaks of something: two captures that meet its premise and differ in every private part.
-- And what stands outside it: one damaged byte, and they can be told apart.
use Rattle.std.specs.Prelude.{ℕ, ◌+◌, ◌≡◌, refl, true, List, [], ◌∷◌, ◌++◌, ltb, length, get_or, replicate}
use Rattle.octets.specs.Octets.{numeral, digits_of, bytes_of, sum8, sum_of, laid}
use Rattle.terms.specs.Refusals.{refusal_of}
use Rattle.calendar.specs.Calendar.{leap, days_in, real_parts, real_time}
use Rattle.rules.specs.Table.{kind_of, suits, measure_of}
use Rattle.rules.specs.Fields.{layout_of, suits_tail, tail_ok, s001_ok, s002_ok, p002_ok, m201_ok, fields_ok, judge_of}
use Rattle.frame_spec.specs.Frame.{body_length, checked, read_of, body_read}
use Rattle.frame_spec.specs.Write.{plain_of, frame_of}
use Rattle.frame_spec.specs.Examples.{start_of_a, frame_a, framed, logon, resend, tick, order}
use Rattle.frame_view.specs.View.{view_of}
use Rattle.private.specs.Private.{tail_of}
use Rattle.private.specs.Scrub.{painted, summed, scrubbed}
use Rattle.walk_laws.specs.Walk.{after, next, found, noted, sights_of}
use Rattle.walk_laws.specs.Frames.{joined, each_of}
use Rattle.reading.specs.Seen.{seen_of, says_of}
use Rattle.walk_spec.specs.Walk.{accepts, sights, frames_of}
use Rattle.clean_spec.specs.Clean.{frames_in, clean_of, found_by, found_in}
use Rattle.clean_spec.specs.Inside as inside
use Rattle.clean_spec.specs.Inside.{heartbeat, fixed_part, order_tail, named, inside_damaged}
use Rattle.promises_private.specs.TwoCaptures.{SameButPrivate, Pairwise, no_pair, one_pair, TwoCaptures}
use Rattle.promises_private.proofs.Converse.{only_private_hidden}
use Rattle.promises_private.specs.Witness.{logout, mine, theirs}

-- both read, and scrub to the same bytes: so they meet the premise
logons : SameButPrivate (logon 0x41 0x42 30) (logon 0x61 0x62 30)
unfolding plain_of frame_of checked read_of numeral digits_of sum8 sum_of laid painted summed scrubbed kind_of suits measure_of s001_ok fields_ok real_time real_parts days_in leap judge_of
logons = only_private_hidden _ _ refl refl refl refl refl

logouts : SameButPrivate (logout 0x43) (logout 0x63)
unfolding plain_of frame_of checked read_of numeral digits_of sum8 sum_of laid painted summed scrubbed kind_of suits measure_of s002_ok fields_ok real_time real_parts days_in leap judge_of
logouts = only_private_hidden _ _ refl refl refl refl refl

requests : SameButPrivate (resend 0 0x44) (resend 0 0x64)
unfolding plain_of frame_of checked read_of numeral digits_of sum8 sum_of laid painted summed scrubbed kind_of suits measure_of p002_ok fields_ok real_time real_parts days_in leap judge_of
requests = only_private_hidden _ _ refl refl refl refl refl

orders : SameButPrivate (order 0x31 0x51 0x45 0x46 0x47) (order 0x31 0x51 0x65 0x66 0x67)
unfolding plain_of frame_of checked read_of numeral digits_of sum8 sum_of laid painted summed scrubbed kind_of suits measure_of layout_of suits_tail tail_ok tail_of m201_ok fields_ok real_time real_parts days_in leap judge_of
orders = only_private_hidden _ _ refl refl refl refl refl

ticks : SameButPrivate (tick (replicate 7 0x48)) (tick (replicate 7 0x68))
unfolding plain_of frame_of checked read_of numeral digits_of sum8 sum_of laid painted summed scrubbed kind_of suits measure_of layout_of suits_tail tail_ok tail_of m201_ok fields_ok real_time real_parts days_in leap judge_of
ticks = only_private_hidden _ _ refl refl refl refl refl

pub witness : TwoCaptures (joined mine) (joined theirs)
witness =
    record {
      frames = mine;
      others = theirs;
      first_is = refl;
      second_is = refl;
      pairs = one_pair logons (one_pair logouts (one_pair requests (one_pair orders (one_pair ticks no_pair))));
    }

-- OUTSIDE IT. A pair that meets the premise: an order whose InvestorName is a whole heartbeat and
-- four spaces, and the same order with a blank name. With the first byte of each damaged, the
-- search finds the heartbeat in the one, and nothing in the other: so the scrubbed bytes differ,
-- and the listing, whose last line has how many frames there were (`frames_of`).
pub damaged_differs :
    SameButPrivate (inside.frame_of 0x4D named 0x7B) (inside.frame_of 0x4D (replicate 32 0x20) 0xDF)
    × ((clean_of (inside.frame_of 0x4E named 0x7B) ≡ heartbeat) × (clean_of (inside.frame_of 0x4E (replicate 32 0x20) 0xDF) ≡ []))
    × ((frames_of (sights (inside.frame_of 0x4E named 0x7B)) ≡ 1) × (frames_of (sights (inside.frame_of 0x4E (replicate 32 0x20) 0xDF)) ≡ 0))
unfolding fixed_part order_tail frame_a start_of_a clean_of frames_in found_in found_by accepts frames_of sights_of noted found next after refusal_of seen_of says_of read_of checked body_read view_of numeral digits_of sum8 sum_of laid painted summed scrubbed joined each_of kind_of suits measure_of layout_of suits_tail tail_ok tail_of m201_ok fields_ok real_time real_parts days_in leap judge_of
damaged_differs = (only_private_hidden _ _ refl refl refl refl refl, (inside_damaged, refl), (refl, refl))
