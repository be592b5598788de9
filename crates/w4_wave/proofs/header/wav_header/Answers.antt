use Rattle.std.proofs.Common.{refl}
use Rattle.w4_defs.specs.Sound.{wav_header}
use Rattle.w4_wave.proofs.header.wav_header.Goals as goal

pub returns : goal.returns
unfolding wav_header
returns c = rw (
  c.copy_from_slice.ensures.after,
  c.copy_from_slice-2.ensures.after,
  c.to_le_bytes.ensures,
  c.copy_from_slice-3.ensures.after,
  c.copy_from_slice-4.ensures.after,
  c.to_le_bytes-2.ensures,
) refl
