use Rattle.std.proofs.Common.{rules, eqb, not}
use Rattle.std.proofs.lemmas.Fn.{filter_same}
use Rattle.w4_defs.specs.KeptList.{Entry}
use Rattle.w4_editor.proofs.kept_list.drop_all_at.Goals as goal

pub returns : goal.returns
returns c =
    filter_same _ (λ (x : Entry). not (eqb x.place c.args.p)) _
    (λ x b f' k. search rules) _ _ c.retain.ensures.filtered
