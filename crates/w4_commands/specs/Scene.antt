-- A scene as the definitions see it.
use Rattle.std.specs.Prelude.{List}
use Rattle.w4_defs.specs.declared.console.Input.{Input}
use Rattle.w4_defs.specs.Reset.{Setup}
use Rattle.w4_console.specs.Calls.{setup_of}
use Rattle.w4_defs.specs.Comparison.{Side}
use Rattle.w4_commands.specs.declared.scene.Scene.{Scene}

abbrev pub scene_setup : Scene → Setup
scene_setup s = setup_of s.setup

-- a scene whose run has these inputs
abbrev pub scene_side : Scene → List Input → Side
scene_side scene inputs = record { setup = scene_setup scene; disk = scene.disk.now; inputs = inputs }
