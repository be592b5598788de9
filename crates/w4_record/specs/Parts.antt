-- The parts of a recording's bytes, with the frames as bytes, and the recording that they are.
use Rattle.std.specs.Prelude.{Option, Some}
use Rattle.w4_defs.specs.Reading.{◌>>=◌}
use Rattle.w4_defs.specs.Recording.{Recording, frames_of}
use Rattle.w4_record.specs.declared.reading.Parts.{Parts}
use Rattle.w4_record.specs.Frames.{version_number}

abbrev pub recording_from : Option Parts → Option Recording
recording_from found = do
  parts ← found
  frames ← frames_of (version_number parts.version) parts.count parts.frames.now
  Some (record { digest = parts.digest.now; budget = parts.budget; disk = parts.disk.now; frames = frames })
