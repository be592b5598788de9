use Rattle.std.proofs.Common.{◌∙◌, ap, length, ltb}
use Rattle.std.specs.Option.{unwrap_or}
use Rattle.w4_defs.specs.KeptList.{Entry}
use Rattle.w4_editor.proofs.KeptListLaws.{position_else}
use Rattle.w4_editor.proofs.kept_list.first_above.Goals as goal

pub returns : goal.returns
returns c = c.unwrap_or.ensures
    ∙ ap (λ o. unwrap_or o (length c.args.kept.now)) c.find_above.ensures
    ∙ position_else (λ (x : Entry). ltb c.args.p x.place) c.args.kept.now
