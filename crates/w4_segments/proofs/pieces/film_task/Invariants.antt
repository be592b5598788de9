use Rattle.std.proofs.Common.{◌≡◌, ◌+◌, ◌-◌, ◌≤◌, flat_map, length, Some}
use Rattle.std.specs.Prelude.{vec_capacity}
use Rattle.w4_console.specs.Calls.{setup_of}
use Rattle.w4_defs.specs.Image.{image}
use Rattle.w4_defs.specs.Run.{run_state}
use Rattle.w4_defs.specs.State.{HasGlobals}
use Rattle.w4_defs.specs.Film.{run_images}
use Rattle.w4_segments.proofs.pieces.film_task.Given as goal

abbrev pub invariant-loop-place : goal.invariant-loop-place
invariant-loop-place l =
    (run_state (setup_of l.setup) l.recording.disk l.recording.frames l.place
    ≡ Some l.console)
    × HasGlobals l.setup.cart.now l.console
    × (length l.screens.items ≡ l.place + 1 - l.fn.task.first)
    × (l.fn.task.end - l.fn.task.first ≤ vec_capacity l.screens)
    × (run_images (setup_of l.setup) l.recording.disk l.recording.frames
    l.fn.task.first (l.place + 1 - l.fn.task.first)
    ≡ Some (flat_map image l.screens.items))
    × (l.fn.task.first ≤ l.place)
