use Rattle.std.proofs.Common.{◌≡◌, ◌++◌, map, take, drop}
use Rattle.w4_defs.specs.KeptList.{kept_entries}
use Rattle.w4_defs.specs.Session.{moved_down}
use Rattle.w4_editor.proofs.kept_list.move_down_above.Given as goal

abbrev pub invariant-loop-entry : goal.invariant-loop-entry
invariant-loop-entry l =
    l.kept ≡ map (moved_down kept_entries l.k) (take l.entry-index l.initial.kept)
    ++ drop l.entry-index l.initial.kept
