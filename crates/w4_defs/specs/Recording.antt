-- Recordings (project rule): the SHA-256 digest of a cart, the budget of the reset and of each frame, the
-- bytes of the disk at the reset, and one input for each frame. In a file they stand one after another:
-- `W4RC`, a version byte, the 32 bytes of the digest, the budget in 4 bytes, the length of the disk in 2 and
-- its bytes, the number of frames in 4, and the frames. Numbers are little-endian, and nothing follows.
-- In version 1 a frame has the nine bytes of its input's registers, and no frame has a reset. In version 2 a
-- tenth byte follows them: 1 where the frame begins with a reset, else 0.
use Rattle.std.specs.Prelude.{◌≡◌, ℕ, zero, suc, ◌+◌, ◌*◌, ◌^◌, ◌<◌, ◌≤◌, ◌⊎◌, ◌==◌, ◌&&◌, Bool, true, false, List, [], ◌∷◌, ◌++◌, length, replicate, slice_index, codes, Option, Some, None, nat_le, if◌then◌else◌, refl, pos, negsuc, FitsSigned}
use Rattle.std.specs.Str.{bytes_eq}
use Rattle.std.specs.List.{flat_map, AllByRecursion}
use Rattle.std.specs.Int.{w16, w32, to_le_bytes, cast_signed}
use Rattle.w4_defs.specs.declared.console.Input.{Input}
use Rattle.w4_defs.specs.MemoryMap.{input_bytes}
use Rattle.w4_defs.specs.Reading.{◌>>=◌, IsBytes, front_at, little_endian_at}
use Rattle.w4_defs.specs.Limits.{disk_limit, frame_limit, recording_limit}

pub record Recording : Type 0 where
  pub digest : List ℕ
  pub budget : ℕ
  pub disk : List ℕ
  pub frames : List Input

-- ---- the limits

-- an input whose fields have their ranges
pub record IsInput (input : Input) : Type 0 where
  pub four_pads : length input.pads ≡ 4
  pub pads : IsBytes input.pads
  pub mouse_x : FitsSigned w16 input.mouse_x
  pub mouse_y : FitsSigned w16 input.mouse_y
  pub buttons : input.buttons < 256

-- a recording within its limits: a budget of at least 1, at most 1,024 bytes of disk and 36,000 frames
pub record IsRecording (r : Recording) : Type 0 where
  pub digest_length : length r.digest ≡ 32
  pub digest : IsBytes r.digest
  pub some_budget : 1 ≤ r.budget
  pub budget : r.budget < 2 ^ 32
  pub small_disk : length r.disk ≤ disk_limit
  pub disk : IsBytes r.disk
  pub few_frames : length r.frames ≤ frame_limit
  pub frames : AllByRecursion IsInput r.frames

-- ---- encoding

-- `W4RC` and the version
abbrev pub heading : ℕ → List ℕ
heading version = codes "W4RC" ++ version ∷ []

abbrev pub flag_of : Bool → ℕ
flag_of reset = if reset then 1 else 0

-- how many bytes a frame has, and which
abbrev pub frame_size : ℕ → ℕ
frame_size version = if version == 1 then 9 else 10

abbrev pub frame_bytes : ℕ → Input → List ℕ
frame_bytes version input =
    if version == 1 then input_bytes input else input_bytes input ++ flag_of input.reset ∷ []

-- the bytes of a recording in version 1 or 2
unfoldable pub encoding : ℕ → Recording → List ℕ
encoding version r = heading version ++ r.digest ++ to_le_bytes w32 r.budget
    ++ to_le_bytes w16 (length r.disk) ++ r.disk
    ++ to_le_bytes w32 (length r.frames) ++ flat_map (frame_bytes version) r.frames

abbrev pub HasNoReset : Recording → Type 0
HasNoReset r = AllByRecursion (λ input. input.reset ≡ false) r.frames

-- which bytes encode which recording: those of version 1 where no frame has a reset, and those of version 2
abbrev pub IsEncoded : Recording → List ℕ → Type 0
IsEncoded r bytes = IsRecording r × ((HasNoReset r × (bytes ≡ encoding 1 r)) ⊎ (bytes ≡ encoding 2 r))

-- ---- decoding

-- the version of a heading
abbrev pub version_of : List ℕ → Option ℕ
version_of head =
    if bytes_eq head (heading 1) then Some 1 else
    if bytes_eq head (heading 2) then Some 2 else
    None

-- the input of the nine bytes
abbrev pub input_of : List ℕ → Bool → Input
input_of bytes reset = record {
  pads = slice_index bytes 0 ∷ slice_index bytes 1 ∷ slice_index bytes 2 ∷ slice_index bytes 3 ∷ [];
  mouse_x = cast_signed w16 (slice_index bytes 4 + 256 * slice_index bytes 5);
  mouse_y = cast_signed w16 (slice_index bytes 6 + 256 * slice_index bytes 7);
  buttons = slice_index bytes 8;
  reset = reset;
}

-- whether the flag says that the frame has a reset
abbrev pub reset_of : ℕ → Option Bool
reset_of flag = if flag == 0 then Some false else if flag == 1 then Some true else None

-- the input of a frame's bytes
abbrev pub frame_of : ℕ → List ℕ → Option Input
frame_of version bytes = if version == 1 then Some (input_of bytes false)
    else (reset_of (slice_index bytes 9) >>= λ reset. Some (input_of bytes reset))

-- so many frames, which are all of the bytes
unfoldable pub frames_of : ℕ → ℕ → List ℕ → Option (List Input)
frames_of version zero bytes = if length bytes == 0 then Some [] else None
frames_of version (suc count) bytes = do
  first ← front_at (frame_size version) bytes
  input ← frame_of version first.0
  more ← frames_of version count first.1
  Some (input ∷ more)

-- whether a budget, the length of a disk and a number of frames are within the limits
abbrev pub is_within_limits : ℕ → ℕ → ℕ → Bool
is_within_limits budget size count = nat_le 1 budget && nat_le size disk_limit && nat_le count frame_limit

-- the recording that the bytes encode; None where they encode none
unfoldable pub recording_of : List ℕ → Option Recording
recording_of bytes = do
  head ← front_at 5 bytes
  version ← version_of head.0
  digest ← front_at 32 head.1
  budget ← little_endian_at w32 digest.1
  size ← little_endian_at w16 budget.1
  disk ← front_at size.0 size.1
  count ← little_endian_at w32 disk.1
  frames ← if is_within_limits budget.0 size.0 count.0 then frames_of version count.0 count.1 else None
  Some (record { digest = digest.0; budget = budget.0; disk = disk.0; frames = frames })

-- ---- laws

-- what bytes encode is decoded, and nothing else is; so bytes encode at most one recording
abbrev pub EncodedIsDecoded : Type 0
EncodedIsDecoded = (r : Recording) (bytes : List ℕ) → IsEncoded r bytes → recording_of bytes ≡ Some r

abbrev pub DecodedIsEncoded : Type 0
DecodedIsEncoded = (r : Recording) (bytes : List ℕ) → IsBytes bytes → recording_of bytes ≡ Some r
    → IsEncoded r bytes

abbrev pub EncodesAtMostOne : Type 0
EncodesAtMostOne = (r s : Recording) (bytes : List ℕ) → IsEncoded r bytes → IsEncoded s bytes → r ≡ s

-- a recording within its limits has one encoding of version 2, and it is decoded again
abbrev pub OneEncoding : Type 0
OneEncoding = (r : Recording) (bytes : List ℕ) → IsEncoded r bytes → slice_index bytes 4 ≡ 2
    → bytes ≡ encoding 2 r

abbrev pub EncodingIsDecoded : Type 0
EncodingIsDecoded = (r : Recording) → IsRecording r → recording_of (encoding 2 r) ≡ Some r

-- a file of either version, written in version 2, is the same recording
abbrev pub RewrittenIsSame : Type 0
RewrittenIsSame = (r : Recording) (bytes : List ℕ) → IsBytes bytes → recording_of bytes ≡ Some r
    → recording_of (encoding 2 r) ≡ Some r

-- how long an encoding is
abbrev pub EncodingLength : Type 0
EncodingLength = (r : Recording) → IsRecording r →
    (length (encoding 1 r) ≡ 47 + length r.disk + 9 * length r.frames)
    × (length (encoding 2 r) ≡ 47 + length r.disk + 10 * length r.frames)

abbrev pub LongestEncoding : Type 0
LongestEncoding = (r : Recording) (bytes : List ℕ) → IsEncoded r bytes → length bytes ≤ recording_limit

-- ---- worked cases: frames with button 2 of gamepad 1 down and the mouse at (-1, 2) with its left button,
-- of a budget of 256

abbrev case_input : Bool → Input
case_input reset =
    record { pads = 2 ∷ 0 ∷ 0 ∷ 0 ∷ []; mouse_x = negsuc 0; mouse_y = pos 2; buttons = 1; reset = reset }

abbrev case_recording : List Input → Recording
case_recording frames = record { digest = replicate 32 7; budget = 256; disk = 9 ∷ []; frames = frames }

abbrev case_front : ℕ → List ℕ
case_front version =
    87 ∷ 52 ∷ 82 ∷ 67 ∷ version ∷ replicate 32 7 ++ 0 ∷ 1 ∷ 0 ∷ 0 ∷ 1 ∷ 0 ∷ 9 ∷ 1 ∷ 0 ∷ 0 ∷ 0 ∷ []

abbrev case_frame : List ℕ
case_frame = 2 ∷ 0 ∷ 0 ∷ 0 ∷ 255 ∷ 255 ∷ 2 ∷ 0 ∷ 1 ∷ []

abbrev pub RecordingCases : Type 0
RecordingCases =
    let plain : Recording = case_recording (case_input false ∷ []) in
    let reset : Recording = case_recording (case_input true ∷ []) in
    (encoding 1 plain ≡ case_front 1 ++ case_frame)
    × (encoding 2 plain ≡ case_front 2 ++ case_frame ++ 0 ∷ [])
    × (encoding 2 reset ≡ case_front 2 ++ case_frame ++ 1 ∷ [])
    × (recording_of (case_front 1 ++ case_frame) ≡ Some plain)
    × (recording_of (case_front 2 ++ case_frame ++ 0 ∷ []) ≡ Some plain)
    × (recording_of (case_front 2 ++ case_frame ++ 1 ∷ []) ≡ Some reset)

-- a heading and a digest, and these fields
abbrev front_with : List ℕ → List ℕ → List ℕ → List ℕ → List ℕ
front_with budget size disk count = heading 1 ++ replicate 32 7 ++ budget ++ size ++ disk ++ count

-- no bytes, another version, a flag of 2, a byte too many or too few, a good one of no frames, a budget of 0,
-- a disk of 1,025 bytes, 36,001 frames
abbrev pub BadRecordingCases : Type 0
BadRecordingCases =
    let one = 1 ∷ 0 ∷ 0 ∷ 0 ∷ [] in
    let none = 0 ∷ 0 ∷ 0 ∷ 0 ∷ [] in
    (recording_of [] ≡ None)
    × (recording_of (case_front 3 ++ case_frame ++ 0 ∷ []) ≡ None)
    × (recording_of (case_front 2 ++ case_frame ++ 2 ∷ []) ≡ None)
    × (recording_of (case_front 1 ++ case_frame ++ 0 ∷ []) ≡ None)
    × (recording_of (case_front 2 ++ case_frame) ≡ None)
    × (recording_of (front_with one (0 ∷ 0 ∷ []) [] none)
    ≡ Some (record { digest = replicate 32 7; budget = 1; disk = []; frames = [] }))
    × (recording_of (front_with none (0 ∷ 0 ∷ []) [] none) ≡ None)
    × (recording_of (front_with one (1 ∷ 4 ∷ []) (replicate 1025 0) none) ≡ None)
    × (recording_of (front_with one (0 ∷ 0 ∷ []) [] (161 ∷ 140 ∷ 0 ∷ 0 ∷ [])) ≡ None)

pub recording-cases : RecordingCases
unfolding encoding recording_of frames_of
recording-cases = (refl, refl, refl, refl, refl, refl)

pub bad-recording-cases : BadRecordingCases
unfolding recording_of frames_of
bad-recording-cases = (refl, refl, refl, refl, refl, refl, refl, refl, refl)
