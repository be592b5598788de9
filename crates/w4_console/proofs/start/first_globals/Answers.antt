use Rattle.std.proofs.Common.{ap, ◌∙◌}
use Rattle.w4_defs.specs.RunLaws.{types_of}
use Rattle.w4_console.proofs.StartLaws.{first_types}
use Rattle.w4_console.proofs.start.first_globals.Goals as goal

pub returns-clause-types : goal.returns-clause-types
returns-clause-types c =
    ap types_of c.first_globals.ensures ∙ first_types c.args.cart.now c.is_valid.ensures
