-- A session of rollback that a log tells of (project rule), without a network: which packets came, how many
-- frames have passed, and which places are kept. Each answer tells of a run from reset of the inputs that
-- are predicted at that moment. A refused line writes one line and changes nothing.
use Rattle.std.specs.Prelude.{◌≡◌, ℕ, ◌+◌, List, [], ◌∷◌, ◌++◌, nat_lt, nat_le, codes, Option, Some, None, if◌then◌else◌, refl}
use Rattle.std.specs.Fmt.{digits}
use Rattle.w4_defs.specs.declared.editing.EditRefusal.{EditRefusal}
use Rattle.w4_defs.specs.declared.editing.EditRefusal.TheVariants.{FullRecording, NoFrame, Kept, FullSnapshots, OutOfMemory}
use Rattle.w4_defs.specs.declared.netplay.Packet.{Packet}
use Rattle.w4_defs.specs.declared.netplay.NetOrder.{NetOrder}
use Rattle.w4_defs.specs.declared.netplay.NetOrder.TheVariants as net
use Rattle.w4_defs.specs.FrameTexts.{spaced}
use Rattle.w4_defs.specs.Reset.{Setup}
use Rattle.w4_defs.specs.Run.{run}
use Rattle.w4_defs.specs.Rollback.{Known, nothing_known, learned, net_inputs, packet_of}
use Rattle.w4_defs.specs.Session.{Draft, places_alone, keep_refusal, with_kept}
use Rattle.w4_defs.specs.declared.net_refusal.NetRefusal.{NetRefusal}
use Rattle.w4_defs.specs.declared.net_refusal.NetRefusal.TheVariants as net_refusal
use Rattle.w4_defs.specs.Rollback.{packet_refusal}
use Rattle.w4_defs.specs.declared.place_text.PlaceText.TheVariants.{Image}
use Rattle.w4_defs.specs.PlaceTexts.{as_it_stands, place_text, state_text}
use Rattle.w4_defs.specs.Answers.{Answered, answer_text, carried_out, answers_by}
use Rattle.w4_defs.specs.ScriptAnswers.{refused_line, refusal_words, no_frame}
use Rattle.w4_defs.specs.Limits.{frame_limit}

pub record NetSession : Type 0 where
  pub known : Known
  pub frames : ℕ
  pub kept : List ℕ

abbrev pub first_session : NetSession
first_session = record { known = nothing_known; frames = 0; kept = 0 ∷ [] }

-- the words of a refusal
abbrev pub net_words : NetRefusal → List ℕ
net_words net_refusal.NoPlayer = codes "no player"
net_words net_refusal.FrameRange = codes "frame range"
net_words (net_refusal.Conflict kept got) = codes "conflict" ++ spaced kept ++ spaced got
net_words net_refusal.FullRecording = refusal_words FullRecording
net_words net_refusal.NoFrame = refusal_words NoFrame
net_words net_refusal.Kept = refusal_words Kept
net_words net_refusal.FullSnapshots = refusal_words FullSnapshots
net_words net_refusal.OutOfMemory = refusal_words OutOfMemory

abbrev pub answer_packet : NetSession → Packet → Option NetRefusal → Answered NetSession
answer_packet session packet (Some refusal) = answer_text session (Some (refused_line (net_words refusal)))
answer_packet session packet None = carried_out (record session { known = learned session.known packet })

abbrev pub answer_next : NetSession → Answered NetSession
answer_next session = if nat_lt session.frames frame_limit
    then carried_out (record session { frames = session.frames + 1 })
    else answer_text session (Some (refused_line (refusal_words FullRecording)))

-- the recording that is predicted, with the kept places
abbrev pub net_draft : NetSession → Draft ℕ
net_draft session =
    record { inputs = net_inputs session.known session.frames; kept = session.kept }

abbrev pub answer_keep : NetSession → ℕ → Option EditRefusal → Answered NetSession
answer_keep session p (Some refusal) = answer_text session (Some (refused_line (refusal_words refusal)))
answer_keep session p None = carried_out (record session { kept = with_kept places_alone p session.kept })

-- what is told of a place, where the session has come to it
abbrev pub if_passed : NetSession → ℕ → Option (List ℕ) → Option (List ℕ)
if_passed session p out = if nat_le p session.frames then out else Some no_frame

abbrev pub predicted_image : Setup → NetSession → ℕ → Option (List ℕ)
predicted_image setup session p =
    place_text as_it_stands Image p (run setup [] (net_inputs session.known session.frames) p)

abbrev pub predicted_state : Setup → NetSession → ℕ → Option (List ℕ)
predicted_state setup session p =
    state_text as_it_stands p session.frames (run setup [] (net_inputs session.known session.frames) p)
    session.kept

-- the answer of one line
abbrev pub net_answer : Setup → NetSession → NetOrder → Answered NetSession
net_answer setup s (net.Pad packet) = answer_packet s packet (packet_refusal s.known packet)
net_answer setup s net.Next = answer_next s
net_answer setup s (net.Keep p) = answer_keep s p (keep_refusal places_alone p (net_draft s))
net_answer setup s (net.Show p) = answer_text s (if_passed s p (predicted_image setup s p))
net_answer setup s (net.StateAt p) = answer_text s (if_passed s p (predicted_state setup s p))

-- the answers of a log, in order
abbrev pub net_answers : Setup → NetSession → List NetOrder → Answered NetSession
net_answers setup session orders = answers_by (net_answer setup) session orders

-- Worked cases, over any cart: a packet whose byte differs from one that is known, one of a fifth player and
-- one of a frame past the last; a place that isn't there yet, one that is kept, and one that is kept already.
abbrev pub NetAnswerCases : Type 0
NetAnswerCases = (setup : Setup) →
    ((net_answers setup first_session (net.Pad (packet_of 0 0 27) ∷ net.Pad (packet_of 0 0 26) ∷ [])).out
    ≡ Some (codes "refused conflict 27 26\n"))
    × ((net_answers setup first_session (net.Pad (packet_of 4 0 1) ∷ net.Pad (packet_of 3 36000 1) ∷ [])).out
    ≡ Some (codes "refused no player\nrefused frame range\n"))
    × ((net_answers setup first_session (net.Show 1 ∷ net.Keep 1 ∷ net.Next ∷ net.Keep 1 ∷ net.Keep 1
    ∷ [])).out
    ≡ Some (codes "refused no frame\nrefused no frame\nrefused kept\n"))

pub net-answer-cases : NetAnswerCases
unfolding answers_by net_inputs digits
net-answer-cases setup = (refl, refl, refl)
