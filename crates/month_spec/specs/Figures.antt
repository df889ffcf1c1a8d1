-- Request 11: the figures of one capture for one channel, each told from the calls that the
-- accepted frames of the capture make on a fresh ledger of the channel.
-- A call that names another channel is answered 18 there and changes nothing, so one list of calls
-- serves every channel. P002 frames make no call, and are counted themselves.
use Rattle.std.specs.Prelude.{ℕ, ◌+◌, Bool, true, false, ◌&&◌, List, [], ◌∷◌, eqb, get_or}
use Rattle.terms.specs.Paper.{answer, pick}
use Rattle.rules.specs.Table.{kind_of}
use Rattle.rules.specs.declared.Kind.{Kind}
use Rattle.rules.specs.declared.Kind.TheVariants.{S001, S002, S003, P001, P002, M101, M102, M201, Unknown}
use Rattle.ledger_spec.specs.Calls.{Call}
use Rattle.ledger_spec.specs.Trace.{none, History, start, ◌▸◌⇒◌, trace}
use Rattle.ledger_spec.specs.Words.{answered, one, ticks, count, missing, known_top}
use Rattle.reading.specs.declared.Seen.{Seen}
use Rattle.walk_spec.specs.Walk.{sights, calls_of}
use Rattle.clean_spec.specs.Figures.{reads, calls_made}

-- 1 for a tick, 0 for any other call: `ticks` of `ledger_spec` counts a tick that is answered 0
abbrev pub tick_call : Call → ℕ
tick_call call = ticks call (answer 0 [])

-- how many ticks were answered by this number: counted call by call
unfoldable pub ticks_answered : ℕ → History → ℕ
ticks_answered number start = 0
ticks_answered number (before ▸ call ⇒ a) = pick (answered a number) (tick_call call) 0 + ticks_answered number before

abbrev pub is_resend : Kind → Bool
is_resend S001 = false
is_resend S002 = false
is_resend S003 = false
is_resend P001 = false
is_resend P002 = true
is_resend M101 = false
is_resend M102 = false
is_resend M201 = false
is_resend Unknown = false

-- a P002 of this channel with this status
abbrev pub resends : ℕ → ℕ → Seen → Bool
resends channel status x = is_resend (kind_of x.msg_type) && (eqb x.channel.0 channel && eqb x.status status)

-- how many of these accepted frames are such: counted frame by frame
unfoldable pub resent : ℕ → ℕ → List Seen → ℕ
resent channel status [] = 0
resent channel status (x ∷ xs) = one (resends channel status x) + resent channel status xs

pub record Figures : Type 0 where
  pub received : ℕ
  pub repeated : ℕ
  pub far : ℕ
  pub missing : ℕ
  pub asked : ℕ
  pub unavailable : ℕ

-- the readings of a capture that were frames, in order
abbrev pub reads_in : List ℕ → List Seen
reads_in s = reads (sights s)

-- of a channel, its history and the frames that were accepted: ticks received (0), repeated (11),
-- refused as far (12), still missing up to the known top, and P002 frames of status 0 and
-- of status 4
abbrev pub figures_from : ℕ → History → List Seen → Figures
figures_from channel h xs =
    record {
      received = ticks_answered 0 h;
      repeated = ticks_answered 11 h;
      far = ticks_answered 12 h;
      missing = count (missing h) (known_top h);
      asked = resent channel 0 xs;
      unavailable = resent channel 4 xs;
    }

-- THE FIGURES OF A CAPTURE
unfoldable pub figures_of : ℕ → List ℕ → Figures
figures_of channel s = figures_from channel (trace channel (calls_of s)) (reads_in s)

-- the same, told from the readings that were frames
unfoldable pub figures_by : ℕ → List Seen → Figures
figures_by channel xs = figures_from channel (trace channel (calls_made none xs)) xs

-- as six numbers, in the request's order
abbrev pub numbers_in : Figures → List ℕ
numbers_in f = f.received ∷ f.repeated ∷ f.far ∷ f.missing ∷ f.asked ∷ f.unavailable ∷ []

-- figure number i: 0 is received, 5 is unavailable
unfoldable pub figure_of : ℕ → List ℕ → ℕ → ℕ
figure_of channel s i = get_or (numbers_in (figures_of channel s)) i 0
