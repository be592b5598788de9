use Rattle.std.proofs.Common.{◌≡◌, ◌+◌, ◌-◌, length, subst, arith}
use Rattle.std.specs.Option.{ForSome}
use Rattle.w4_answers.specs.Writing.{Written}
use Rattle.w4_defs.specs.Output.{place_texts_from}
use Rattle.w4_commands.specs.Load.{run_files_view}
use Rattle.w4_commands.proofs.commands.write_all.Goals as goal

pub returns-clause-out : goal.returns-clause-out
returns-clause-out g c =
    let old = g.H.House.world c.args.house.now in
    let new = g.H.House.world c.write_run.new.house in
    let run = run_files_view c.args.run.now in
    let all : c.frame_count-to.result + 1 - 0 ≡ length run.recording.frames + 1 =
    omega (arith, c.frame_count-to.ensures) in
    subst (λ count. ForSome (place_texts_from c.args.text c.args.cart.now run 0 count)
    (λ text. Written old new c.write_run.result text)) all c.write_run.ensures.out
