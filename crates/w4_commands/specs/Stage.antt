-- A stage that stands at a place of a scene's run.
use Rattle.std.specs.Prelude.{◌≡◌, ℕ, List, Some}
use Rattle.w4_defs.specs.declared.console.Input.{Input}
use Rattle.w4_defs.specs.Run.{run}
use Rattle.w4_defs.specs.State.{Moment, HasGlobals}
use Rattle.w4_console.specs.Calls.{moment}
use Rattle.w4_commands.specs.declared.scene.Scene.{Scene}
use Rattle.w4_commands.specs.declared.stage.Stage.{Stage}
use Rattle.w4_commands.specs.Scene.{scene_setup}

-- the state and the record that the stage holds
abbrev pub stage_moment : Stage → Moment
stage_moment stage = moment stage.console stage.frame_record

abbrev pub IsAtPlace : Scene → List Input → ℕ → Stage → Type 0
IsAtPlace scene inputs place stage =
    (run (scene_setup scene) scene.disk.now inputs place ≡ Some (stage_moment stage))
    × HasGlobals scene.setup.cart.now stage.console
