use Rattle.std.proofs.Common.{◌≡◌, take}
use Rattle.w4_editor.proofs.kept_list.share_all.Given as goal

abbrev pub invariant-loop-entry : goal.invariant-loop-entry
invariant-loop-entry l = l.all.items ≡ take l.entry-index l.kept
