use Rattle.std.proofs.Common.{◌≡◌, ◌++◌, take, drop}
use Rattle.w4_editor.specs.KeptList.{unlink_between}
use Rattle.w4_editor.proofs.kept_list.unlink_between.Given as goal

-- the entries so far are as they will be, and the others as they were
abbrev pub invariant-loop-entry : goal.invariant-loop-entry
invariant-loop-entry l =
    (unlink_between l.k l.end 0 l.initial.kept
    ≡ take l.entry-index l.kept ++ unlink_between l.k l.end l.from (drop l.entry-index l.initial.kept))
    × (drop l.entry-index l.kept ≡ drop l.entry-index l.initial.kept)
