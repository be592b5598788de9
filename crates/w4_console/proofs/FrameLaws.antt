-- How a frame and a reset are put together of their parts.
use Rattle.std.proofs.Common.{◌≡◌, ℕ, List, Some, sym, ◌∙◌, ap}
use Rattle.std.specs.Option.{option_and_then, option_map}
use Rattle.w4_defs.specs.declared.console.Input.{Input}
use Rattle.w4_defs.specs.Frame.{before_update, frame, update}
use Rattle.w4_defs.specs.Reset.{recorded, reset, Setup, start, with_empty_logs}
use Rattle.w4_defs.specs.State.{empty_record, FrameRecord, Moment, State, LoggedState}
use Rattle.w4_defs.specs.Units.{Taken, frame_units, taken_from}
use Rattle.w4_devices.specs.declared.frame_record.FrameRecord.{FrameRecord as Record}
use Rattle.w4_devices.specs.Records.{record_of}
use Rattle.w4_console.specs.Calls.{so_far}

pub framed : (setup : Setup) (state : State) (input : Input) (first next : LoggedState) (moment : Moment)
    → before_update setup state input ≡ Some first → update setup input first ≡ Some next
    → moment ≡ recorded next
    → frame setup state input ≡ Some moment
unfolding frame
framed setup state input first next moment b u r =
    ap (λ o. option_map recorded (option_and_then (update setup input) o)) b ∙ ap (option_map recorded) u
    ∙ ap Some (sym r)

-- what it takes is told of the state before `update`
pub frame_taken : (setup : Setup) (state : State) (input : Input) (first : LoggedState) (taken : Taken)
    → before_update setup state input ≡ Some first
    → taken_from setup input first first.state.halt ≡ Some taken
    → frame_units setup state input ≡ Some taken
frame_taken setup state input first taken b t =
    ap (option_and_then (λ (now : LoggedState). taken_from setup input now now.state.halt)) b ∙ t

pub was_reset : (setup : Setup) (disk : List ℕ) (next : LoggedState) (moment : Moment)
    → start setup disk ≡ Some next → moment ≡ recorded next
    → reset setup disk ≡ Some moment
unfolding reset
was_reset setup disk next moment s r = ap (option_map recorded) s ∙ ap Some (sym r)

-- an empty record is that of a start or a frame that begins
pub frame_begins : (state first : State) (frame_record : Record) → state ≡ first → record_of frame_record
    ≡ empty_record
    → so_far state frame_record ≡ with_empty_logs first
frame_begins state first frame_record s r =
    ap (λ (t : State). so_far t frame_record) s
    ∙ ap (λ (m : FrameRecord). record { state = first; tones = m.tones; traces = m.traces }) r
