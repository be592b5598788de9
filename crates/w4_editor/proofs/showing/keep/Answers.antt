use Rattle.std.proofs.Common.{◌∙◌, ap, arith, length}
use Rattle.w4_defs.specs.KeptList.{Entry, last_up_to}
use Rattle.w4_editor.proofs.ShowingLaws.{last_within}
use Rattle.w4_editor.proofs.showing.keep.Goals as goal

pub entry_at-before-requires : goal.entry_at-before-requires
entry_at-before-requires c =
    let within = last_within c.args.p c.args.kept.now.items c.requires in
    let last = c.last_up_to-last.ensures ∙ ap (last_up_to c.args.p) c.as_slice.ensures.value in
    let long = ap (length {A = Entry}) c.as_slice-2.ensures.value in
    omega (arith, within, last, long)
