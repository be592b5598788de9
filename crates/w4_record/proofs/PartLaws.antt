-- A recording from its parts.
use Rattle.std.proofs.Common.{◌≡◌, ℕ, List, Option, Some, sym, ap, ◌∙◌}
use Rattle.w4_defs.specs.declared.console.Input.{Input}
use Rattle.w4_defs.specs.Reading.{◌>>=◌, IsBytes}
use Rattle.w4_defs.specs.Recording.{Recording, IsRecording, frames_of, recording_of}
use Rattle.w4_defs.proofs.DecodingLaws.{decoded_is_encoded}
use Rattle.w4_record.specs.declared.reading.Parts.{Parts}
use Rattle.w4_record.specs.Frames.{version_number}
use Rattle.w4_record.specs.Parts.{recording_from}

abbrev recording_with : ℕ → List ℕ → List ℕ → List Input → Recording
recording_with budget digest disk frames =
    record { digest = digest; budget = budget; disk = disk; frames = frames }

abbrev with_frames : Parts → List Input → Option Recording
with_frames parts frames = Some (recording_with parts.budget parts.digest.now parts.disk.now frames)

pub recording_read : (bytes digest disk : List ℕ) (found : Option Parts) (parts : Parts)
    (frames : List Input)
    → recording_of bytes ≡ recording_from found → found ≡ Some parts
    → frames_of (version_number parts.version) parts.count parts.frames.now ≡ Some frames
    → digest ≡ parts.digest.now → disk ≡ parts.disk.now
    → recording_of bytes ≡ Some (recording_with parts.budget digest disk frames)
recording_read bytes digest disk found parts frames read is all d k =
    read ∙ ap recording_from is ∙ ap (λ o. o >>= with_frames parts) all
    ∙ (λ i. Some (recording_with parts.budget (sym d i) (sym k i) frames))

pub recording_within_limits : (bytes digest disk : List ℕ) (found : Option Parts) (parts : Parts)
    (frames : List Input)
    → IsBytes bytes → recording_of bytes ≡ recording_from found → found ≡ Some parts
    → frames_of (version_number parts.version) parts.count parts.frames.now ≡ Some frames
    → digest ≡ parts.digest.now → disk ≡ parts.disk.now
    → IsRecording (recording_with parts.budget digest disk frames)
recording_within_limits bytes digest disk found parts frames small read is all d k =
    (decoded_is_encoded (recording_with parts.budget digest disk frames) bytes small
    (recording_read bytes digest disk found parts frames read is all d k)).0
