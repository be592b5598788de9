use Rattle.std.proofs.lemmas.Result.{err_from_is_err_and}
use Rattle.w4_defs.specs.Recording.{encoding}
use Rattle.w4_defs.specs.RecordingOutputs.{any_recording_in, rebind_output, rebound}
use Rattle.w4_commands.proofs.RecordingLaws.{ends_unwritten, ends_written_of}
use Rattle.w4_commands.proofs.recordings.run_rebind.Goals as goal

pub returns-clause-ends : goal.returns-clause-ends
unfolding rebind_output
returns-clause-ends g c =
    ends_written_of (g.H.House.world c.args.house.now) (g.H.House.world c.load_any.new.house)
    (g.H.House.world c.write_rebound.new.house) (λ files. any_recording_in files c.args.recording.now)
    (λ r. encoding 2 (rebound c.args.file.now.digest r)) c.in_ok-loaded.loaded c.in_ok-loaded.ensures.rest
    c.write_rebound.ensures.rest
    c.in_ok-loaded.ensures.gives c.write_rebound.result c.write_rebound.ensures.out

pub returns-in_err-loaded-clause-ends : goal.returns-in_err-loaded-clause-ends
unfolding rebind_output
returns-in_err-loaded-clause-ends g c =
    let p = err_from_is_err_and c.from_residual.result c.from_residual.ensures.1 in
    rw (p.1, p.2)
    (ends_unwritten (g.H.House.world c.args.house.now) (g.H.House.world c.load_any.new.house)
    c.in_err-loaded.field-0.0 (λ files. any_recording_in files c.args.recording.now)
    (λ r. encoding 2 (rebound c.args.file.now.digest r)) c.in_err-loaded.ensures.rest
    c.in_err-loaded.ensures.gives)
