-- Each field of a record stands at its place among the 64 bytes, high byte first.
use Rattle.std.specs.Prelude.{ℕ, ◌<◌, ◌^◌, ◌≡◌, refl, List, [], ◌++◌, drop}
use Rattle.std.proofs.Common.{sym, ap, ◌∙◌, add-zero, lit<}
use Rattle.terms.specs.Letters.{spelled}
use Rattle.octets.specs.Octets.{digits_of, be, bytes_of}
use Rattle.octets.specs.Numerals.{numeral_drop, be_front}
use Rattle.record.specs.declared.Record.{Record}
use Rattle.record.specs.Record.{first_half, second_half, record_of, blank, blank_of}

-- each number fits its width, as the code's do by their types
pub record Fits (r : Record) : Type 0 where
  pub place : r.place < 256 ^ 8
  pub msg_type_holds : r.msg_type < 256 ^ 4
  pub answer : r.answer < 256 ^ 4
  pub seq : r.seq.0 < 256 ^ 8
  pub tick : r.tick.0 < 256 ^ 8
  pub channel : r.channel.0 < 256 ^ 2
  pub body_len : r.body_len < 256 ^ 4
  pub floor : r.floor.0 < 256 ^ 8
  pub top : r.top.0 < 256 ^ 8

-- document 01's fields in its order, each with its width, behind all those before it
pub record Stands (r : Record) (s : List ℕ) : Type 0 where
  pub place : be 8 0 s ≡ r.place
  pub msg_type_holds : be 4 8 s ≡ r.msg_type
  pub answer : be 4 12 s ≡ r.answer
  pub seq : be 8 16 s ≡ r.seq.0
  pub tick : be 8 24 s ≡ r.tick.0
  pub channel : be 2 32 s ≡ r.channel.0
  pub zero_2 : be 2 34 s ≡ 0
  pub body_len : be 4 36 s ≡ r.body_len
  pub floor : be 8 40 s ≡ r.floor.0
  pub top : be 8 48 s ≡ r.top.0
  pub zero_8 : be 8 56 s ≡ 0

-- a field that stands at the front of what is left from its place on
field : (n at v : ℕ) (c s : List ℕ) → drop at s ≡ bytes_of n v ++ c → v < 256 ^ n → be n at s ≡ v
field n at v c s e h =
    ap (λ (p : ℕ). be n p s) (sym (add-zero at))
    ∙ sym (numeral_drop 256 n at 0 s)
    ∙ ap (λ (t : List ℕ). be n 0 t) e
    ∙ be_front n v c h

pub fields_stand : (r : Record) → Fits r → Stands r (record_of r)
unfolding record_of first_half second_half digits_of
fields_stand r f =
    record {
      place = field 8 0 r.place _ _ refl f.place;
      msg_type_holds = field 4 8 r.msg_type _ _ refl f.msg_type_holds;
      answer = field 4 12 r.answer _ _ refl f.answer;
      seq = field 8 16 r.seq.0 _ _ refl f.seq;
      tick = field 8 24 r.tick.0 _ _ refl f.tick;
      channel = field 2 32 r.channel.0 _ _ refl f.channel;
      zero_2 = field 2 34 0 _ _ refl (lit< tt);
      body_len = field 4 36 r.body_len _ _ refl f.body_len;
      floor = field 8 40 r.floor.0 _ _ refl f.floor;
      top = field 8 48 r.top.0 _ _ refl f.top;
      zero_8 = field 8 56 0 [] _ refl (lit< tt);
    }

-- the record where reading answered 1 to 7: blank but for four numbers, whatever those are
-- (document 01, Records, paragraph 1; 7 by CR 6)
pub record Blank (s : List ℕ) : Type 0 where
  pub msg_type_holds : be 4 8 s ≡ spelled "    "
  pub seq : be 8 16 s ≡ 0
  pub tick : be 8 24 s ≡ 0
  pub channel : be 2 32 s ≡ 0
  pub body_len : be 4 36 s ≡ 0

pub blank_stands : (place answer floor top : ℕ) → Blank (record_of (blank_of place answer floor top))
unfolding record_of first_half second_half blank_of digits_of
blank_stands place answer floor top =
    record {
      msg_type_holds = field 4 8 blank _ _ refl (lit< tt);
      seq = field 8 16 0 _ _ refl (lit< tt);
      tick = field 8 24 0 _ _ refl (lit< tt);
      channel = field 2 32 0 _ _ refl (lit< tt);
      body_len = field 4 36 0 _ _ refl (lit< tt);
    }
