use Rattle.std.proofs.Common.{ap, ◌∙◌}
use Rattle.std.specs.Prelude.{not, position}
use Rattle.w4_defs.specs.Profile.{is_right}
use Rattle.wasm_link.proofs.imports.first_wrong.Goals as goal

pub returns : goal.returns
returns c = c.first.ensures ∙ ap (position (λ i. not (is_right c.args.code.now i))) c.imports.ensures
