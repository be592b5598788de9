use Rattle.std.proofs.Common.{◌+◌, length}
use Rattle.w4_editor.specs.KeepEvery.{all_to_keep}
use Rattle.w4_editor.specs.Editor.{place_session}
use Rattle.w4_editor.proofs.KeepEveryLaws.{Counted}
use Rattle.w4_editor.proofs.keep_every.has_room.Given as goal

abbrev pub invariant-loop-place : goal.invariant-loop-place
invariant-loop-place l =
    let session = place_session l.editor in
    Counted l.every l.place (length session.current.inputs + 1) l.count session.current.kept
    (all_to_keep l.every session)
