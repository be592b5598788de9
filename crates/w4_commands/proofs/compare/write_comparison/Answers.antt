use Rattle.std.proofs.Common.{refl}
use Rattle.std.proofs.lemmas.Result.{err_from_is_err_and}
use Rattle.w4_answers.proofs.WritingLaws.{out_none}
use Rattle.w4_commands.proofs.compare.write_comparison.Goals as goal

pub returns-in_err-text-clause-out : goal.returns-in_err-text-clause-out
returns-in_err-text-clause-out g c =
    let p = err_from_is_err_and c.from_residual-in_err-text.result c.from_residual-in_err-text.ensures.1 in
    let world = g.H.House.world c.args.house.now in
    rw (p.1, p.2) (λ lines is. out_none world.events world.events lines.text refl)
