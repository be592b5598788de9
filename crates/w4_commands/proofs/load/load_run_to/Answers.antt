use Rattle.std.proofs.Common.{Ok, Err, length, nat_le, if◌then◌else◌}
use Rattle.std.proofs.lemmas.Result.{err_from_is_err_and}
use Rattle.w4_defs.specs.declared.status.Refusal.TheVariants.{FrameRefused}
use Rattle.w4_defs.specs.Endings.{manner_of}
use Rattle.w4_defs.specs.Output.{run_files, run_files_to}
use Rattle.w4_commands.specs.Forms.{run_view}
use Rattle.w4_commands.proofs.LoadLaws.{stops_first}
use Rattle.w4_commands.proofs.load.load_run_to.Goals as goal

pub returns-in_err-run-clause-gives : goal.returns-in_err-run-clause-gives
unfolding run_files_to
returns-in_err-run-clause-gives g c =
    let p = err_from_is_err_and c.from_residual.result c.from_residual.ensures.1 in
    rw (p.1, p.2)
    (stops_first (g.H.House.world c.args.house.now) (g.H.House.world c.load_run.new.house)
    (manner_of c.in_err-run.field-0.0) (λ files. run_files c.args.digest.now (run_view c.args.names) files)
    (λ files p. if nat_le c.args.place (length p.recording.frames) then Ok p
    else Err (FrameRefused c.args.place (length p.recording.frames)))
    c.in_err-run.ensures.gives)
