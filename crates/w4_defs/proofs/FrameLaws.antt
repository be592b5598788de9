-- Laws of frames: what a halt and a reset leave.
use Rattle.std.proofs.Common.{◌≡◌, ◌≢◌, cond, Option, Some, option_map, refl, sym, ◌∙◌, ap}
use Rattle.std.specs.Option.{option_and_then}
use Rattle.w4_defs.specs.declared.console.Halt.{Halt}
use Rattle.w4_defs.specs.declared.console.Halt.TheVariants.{Running, Trapped, Spent}
use Rattle.w4_defs.specs.declared.console.Input.{Input}
use Rattle.w4_defs.specs.State.{State, LoggedState}
use Rattle.w4_defs.specs.Reset.{Setup, with_empty_logs, start, recorded}
use Rattle.w4_defs.specs.Frame.{frame, update, update_from, before_update, HaltStays, ResetKeepsDisk}

halted : (setup : Setup) (input : Input) (now : LoggedState) (halt : Halt) → halt ≢ Running
    → update_from setup input now halt ≡ Some now
halted setup input now Running h = absurd (h refl)
halted setup input now (Trapped cause) h = refl
halted setup input now Spent h = refl

pub halt_stays : HaltStays
unfolding frame
halt_stays setup state input stays h =
    let first : before_update setup state input ≡ Some (with_empty_logs state) =
    ap (λ b. cond b (start setup state.disk) (Some (with_empty_logs state))) stays in
    ap (λ o. option_map recorded (option_and_then (update setup input) o)) first
    ∙ ap (option_map recorded) (halted setup input (with_empty_logs state) state.halt h)

pub reset_keeps_disk : ResetKeepsDisk
unfolding frame
reset_keeps_disk setup state other input again same =
    let from : State → Option LoggedState = λ s. before_update setup s input in
    let one : from state ≡ start setup state.disk =
    ap (λ b. cond b (start setup state.disk) (Some (with_empty_logs state))) again in
    let two : from other ≡ start setup other.disk =
    ap (λ b. cond b (start setup other.disk) (Some (with_empty_logs other))) again in
    ap (λ o. option_map recorded (option_and_then (update setup input) o))
    (one ∙ (ap (start setup) same ∙ sym two))
