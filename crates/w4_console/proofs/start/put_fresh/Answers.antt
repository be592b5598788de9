use Rattle.std.proofs.Common.{ap, ◌∙◌}
use Rattle.w4_defs.specs.Lookup.{own_global_types}
use Rattle.w4_defs.specs.RunLaws.{types_of}
use Rattle.w4_defs.specs.State.{State}
use Rattle.w4_console.proofs.StartLaws.{values_as_long}
use Rattle.w4_console.proofs.start.put_fresh.Goals as goal

pub copy_from_slice-requires : goal.copy_from_slice-requires
copy_from_slice-requires c =
    c.state.inside.globals.ok.0
    ∙ values_as_long c.state.inside.globals.items c.first_globals.result.now
    (own_global_types c.args.cart.now)
    (ap (λ (s : State). types_of s.globals) c.state.view_is ∙ c.requires.globals)
    c.first_globals.ensures.types
