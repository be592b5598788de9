use Rattle.std.proofs.Common.{◌<◌, sym, ap, ◌∙◌, subst}
use Rattle.std.specs.List.{All}
use Rattle.w4_defs.specs.KeptList.{Entry, kept_entries}
use Rattle.w4_defs.specs.Session.{unlink_above}
use Rattle.w4_editor.proofs.DraftLaws.{below_unlinked}
use Rattle.w4_editor.proofs.draft.insert_draft.Goals as goal

pub move_up_above-requires : goal.move_up_above-requires
move_up_above-requires c =
    subst (All (λ (x : Entry). x.place < 18446744073709551615))
    (sym (c.unlink_above.ensures
    ∙ ap (unlink_above kept_entries c.args.k) (c.as_mut_slice-entries.ensures.value ∙ c.in_ok-kept.ensures)))
    (below_unlinked c.args.k 18446744073709551615 c.args.kept.now c.requires.places)
