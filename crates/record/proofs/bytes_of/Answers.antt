-- `bytes_of`: each number by its bytes, and then both sides are the same 64. Assumes nothing.
use Rattle.std.proofs.Common.{◌∙◌, refl}
use Rattle.octets.specs.Octets.{digits_of}
use Rattle.octets.specs.Std.{bytes_written}
use Rattle.record.specs.Record.{record_of, first_half, second_half}
use Rattle.record.proofs.bytes_of.Goals as goal

pub returns : goal.returns
unfolding record_of first_half second_half digits_of
returns c =
    rw (
      c.copy_from_slice.ensures.after ∙ c.to_be_bytes.ensures ∙ bytes_written 8 _,
      c.copy_from_slice-2.ensures.after ∙ c.to_be_bytes-2.ensures ∙ bytes_written 4 _,
      c.copy_from_slice-3.ensures.after ∙ c.to_be_bytes-3.ensures ∙ bytes_written 4 _,
      c.copy_from_slice-4.ensures.after ∙ c.to_be_bytes-4.ensures ∙ bytes_written 8 _,
      c.copy_from_slice-5.ensures.after ∙ c.to_be_bytes-5.ensures ∙ bytes_written 8 _,
      c.copy_from_slice-6.ensures.after ∙ c.to_be_bytes-6.ensures ∙ bytes_written 2 _,
      c.copy_from_slice-7.ensures.after ∙ c.to_be_bytes-7.ensures ∙ bytes_written 4 _,
      c.copy_from_slice-8.ensures.after ∙ c.to_be_bytes-8.ensures ∙ bytes_written 8 _,
      c.copy_from_slice-9.ensures.after ∙ c.to_be_bytes-9.ensures ∙ bytes_written 8 _,
      c.value.ensures,
      c.value-2.ensures,
      c.value-3.ensures,
      c.value-4.ensures,
      c.value-5.ensures,
    )
    refl
