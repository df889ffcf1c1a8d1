-- CR 13 speaks of something: two captures that meet its premise and differ in every private part.
-- And what stands outside it: one damaged byte, and they can be told apart.
use Rattle.std.specs.Prelude.{ℕ, ◌+◌, ◌≡◌, refl, true, List, [], ◌∷◌, ◌++◌, ltb, length, get_or, replicate}
use Rattle.octets.specs.Octets.{numeral, digits_of, bytes_of, sum8, sum_of, laid}
use Rattle.terms.specs.Refusals.{refusal_of}
use Rattle.calendar.specs.Calendar.{leap, days_in, real_parts, real_time}
use Rattle.rules.specs.Table.{kind_of, suits, measure_of}
use Rattle.rules.specs.Fields.{layout_of, suits_tail, tail_ok, s001_ok, s002_ok, p002_ok, m201_ok, fields_ok, judge_of}
use Rattle.frame_spec.specs.Frame.{body_length, checked, read_of, body_read}
use Rattle.frame_spec.specs.Write.{plain_of, frame_of}
use Rattle.frame_spec.specs.Examples.{start_of_a, frame_a, framed, logon, resend, tick, order}
use Rattle.frame_view.specs.View.{view_of}
use Rattle.private.specs.Private.{tail_of}
use Rattle.private.specs.Scrub.{painted, summed, scrubbed}
use Rattle.walk_laws.specs.Walk.{after, next, found, noted, sights_of}
use Rattle.walk_laws.specs.Frames.{joined, each_of}
use Rattle.reading.specs.Seen.{seen_of, says_of}
use Rattle.walk_spec.specs.Walk.{accepts, sights, frames_of}
use Rattle.clean_spec.specs.Clean.{frames_in, clean_of, found_by, found_in}
use Rattle.clean_spec.specs.Inside as inside
use Rattle.clean_spec.specs.Inside.{heartbeat, fixed_part, order_tail, named, inside_damaged}
use Rattle.promises_private.specs.TwoCaptures.{SameButPrivate, Pairwise, no_pair, one_pair, TwoCaptures}

-- S002 with SessionStatus 0 and this Text
abbrev pub logout : ℕ → List ℕ
logout text = framed 0x53303032 (bytes_of 4 0 ++ replicate 256 text)

-- a logon with two CompIDs, a logout with its Text, a request with its RejectText, an order with
-- MemberID, TraderCode and InvestorName, and a tick of a stream not named with its extension
abbrev pub mine : List (List ℕ)
mine =
    logon 0x41 0x42 30
    ∷ logout 0x43
    ∷ resend 0 0x44
    ∷ order 0x31 0x51 0x45 0x46 0x47
    ∷ tick (replicate 7 0x48)
    ∷ []

-- the same, with other letters in all that is private
abbrev pub theirs : List (List ℕ)
theirs =
    logon 0x61 0x62 30
    ∷ logout 0x63
    ∷ resend 0 0x64
    ∷ order 0x31 0x51 0x65 0x66 0x67
    ∷ tick (replicate 7 0x68)
    ∷ []

-- each pair differs, at the place named
pub data EachDiffers : List (List ℕ) → List (List ℕ) → Type 0 where
  all_told : EachDiffers [] []
  differs_at : {f g : List ℕ} {fs gs : List (List ℕ)} (p : ℕ) → ltb (get_or f p 0) (get_or g p 0) ≡ true → EachDiffers fs gs → EachDiffers (f ∷ fs) (g ∷ gs)

pub witness_differs : EachDiffers mine theirs
unfolding plain_of frame_of numeral digits_of sum8 sum_of
witness_differs =
    differs_at 24 refl  -- SenderCompID
    (differs_at 28 refl  -- Text
    (differs_at 44 refl  -- RejectText
    (differs_at 88 refl  -- MemberID
    (differs_at 69 refl all_told))))  -- the extension
