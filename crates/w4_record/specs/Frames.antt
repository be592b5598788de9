-- The version of a file as the number in its heading, and the first frame of the bytes after it.
use Rattle.std.specs.Prelude.{ℕ, List, Option, Some}
use Rattle.w4_defs.specs.declared.console.Input.{Input}
use Rattle.w4_defs.specs.Reading.{◌>>=◌, front_at}
use Rattle.w4_defs.specs.Recording.{frame_size, frame_of}
use Rattle.w4_record.specs.declared.frames.Version.{Version}
use Rattle.w4_record.specs.declared.frames.Version.TheVariants.{First, Second}

abbrev pub version_number : Version → ℕ
version_number First = 1
version_number Second = 2

-- the input of the first frame, and the bytes after the frame
unfoldable pub first_frame : ℕ → List ℕ → Option (Input × List ℕ)
first_frame version bytes = do
  first ← front_at (frame_size version) bytes
  input ← frame_of version first.0
  Some (input, first.1)
