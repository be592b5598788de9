use Rattle.std.proofs.Common.{sym, ap, ◌∙◌}
use Rattle.w4_defs.specs.KeptList.{unlinked_at}
use Rattle.w4_defs.proofs.KeptListLaws.{unlinks_one}
use Rattle.w4_editor.proofs.kept_list.unlink_above.Goals as goal

pub returns : goal.returns
returns c = c.unlink_at.ensures
    ∙ ap (λ i. unlinked_at i c.args.kept.now) c.first_above-first.ensures
    ∙ sym (unlinks_one c.args.k c.args.kept.now)
