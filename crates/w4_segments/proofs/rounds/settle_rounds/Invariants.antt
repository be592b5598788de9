use Rattle.std.proofs.Common.{◌≡◌, length}
use Rattle.std.specs.List.{All}
use Rattle.w4_defs.specs.FramesRun.{RunsAtMost}
use Rattle.w4_editor.specs.Settling.{AreLinked}
use Rattle.w4_segments.specs.declared.worker.Worker.{Worker}
use Rattle.w4_segments.specs.Filming.{KeepsShown}
use Rattle.w4_segments.specs.Worker.{HasCartTypes}
use Rattle.w4_segments.proofs.rounds.settle_rounds.Given as goal

abbrev pub invariant-loop : goal.invariant-loop
invariant-loop g l =
    AreLinked l.counter l.editor.session.current.kept
    × KeepsShown l.fn.editor l.editor
    × (length {A = Worker} l.worker_list ≡ length {A = Worker} l.fn.worker_list)
    × All (HasCartTypes l.fn.editor.cart) l.worker_list
    × RunsAtMost l.fn.rounds l.rounds l.counter
