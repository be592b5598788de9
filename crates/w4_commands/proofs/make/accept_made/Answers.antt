use Rattle.std.proofs.Common.{Err, ap, ◌∙◌}
use Rattle.w4_defs.specs.Generator.{made_module}
use Rattle.w4_commands.proofs.LoadLaws.{never_both}
use Rattle.w4_commands.proofs.make.accept_made.Goals as goal

pub returns-in-Ok : goal.returns-in-Ok
returns-in-Ok c =
    c.at_most_one.ensures c.args.bytes.now c.in-Ok.cart (made_module c.args.number) c.in-Ok.ensures.cart.1
    c.requires.1

pub unreachable-requires : goal.unreachable-requires
unreachable-requires c =
    let why = c.in-Err-Kind.is ∙ ap (λ refusal. Err refusal) c.in-Err-Kind.field-0-is in
    never_both c.at_most_one.ensures c.args.bytes.now (made_module c.args.number) c.in-Err-Kind.field-0-0
    c.requires
    (c.accept.ensures.refused c.in-Err-Kind.field-0-0 why)
