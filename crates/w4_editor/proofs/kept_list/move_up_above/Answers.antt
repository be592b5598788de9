use Rattle.std.proofs.Common.{◌∙◌, ap, sym, arith, set}
use Rattle.std.proofs.lemmas.List.Edits.{map_over_more}
use Rattle.w4_defs.specs.KeptList.{Entry, kept_entries}
use Rattle.w4_defs.specs.Session.{moved_up}
use Rattle.w4_editor.proofs.kept_list.move_up_above.Goals as goal

pub loop-entry-preserved : goal.loop-entry-preserved
loop-entry-preserved c =
    let moved : Entry → Entry = moved_up kept_entries c.args.k in
    ap (λ (x : Entry). set c.loop-entry.kept c.loop-entry.entry-index x)
    (c.move_up.ensures ∙ ap moved (sym c.entry-item.is))
    ∙ map_over_more moved c.args.kept.now c.loop-entry.kept c.loop-entry.entry-index c.entry-item.result
    (omega arith) c.loop-entry.invariant c.entry-item.is
