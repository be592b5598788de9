use Rattle.std.proofs.Common.{◌∙◌, ap, sym, arith}
use Rattle.w4_defs.specs.KeptList.{Entry}
use Rattle.w4_editor.specs.KeptList.{is_between}
use Rattle.w4_editor.proofs.DraftOverwriteLaws.{between_more, unlinked_if}
use Rattle.w4_editor.proofs.kept_list.unlink_between.Goals as goal

pub loop-entry-preserved : goal.loop-entry-preserved
loop-entry-preserved c =
    let lost : Entry → Entry =
    λ x. unlinked_if (is_between c.args.k c.args.end c.loop-entry.from x.place) x in
    between_more c.args.k c.args.end c.args.kept.now c.loop-entry.kept c.loop-entry.entry-index
    c.loop-entry.from c.place-place.result c.entry-item.result c.unlink_after.new.entry (omega arith)
    c.loop-entry.invariant c.entry-item.is
    (c.unlink_after.ensures ∙ ap lost (sym c.entry-item.is))
    (c.place-place.ensures ∙ ap (λ (x : Entry). x.place) (sym c.entry-item.is))
