use Rattle.std.proofs.Common.{◌≡◌, ◌+◌, take, Some}
use Rattle.w4_console.specs.Calls.{setup_of}
use Rattle.w4_defs.specs.Run.{fold}
use Rattle.w4_defs.specs.State.{HasGlobals}
use Rattle.w4_console.proofs.console.Console.play_counted.Given as goal

abbrev pub invariant-loop-input : goal.invariant-loop-input
invariant-loop-input g l =
    (fold (setup_of l.setup) l.fn.self (take l.input-index l.inputs) ≡ Some l.self)
    × HasGlobals l.setup.cart.now l.self
    × (l.steps ≡ l.fn.steps + l.input-index)
