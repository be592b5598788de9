use Rattle.std.proofs.lemmas.Result.{err_from_is_err_and}
use Rattle.w4_defs.specs.Recording.{encoding}
use Rattle.w4_defs.specs.Output.{blank_recording}
use Rattle.w4_defs.specs.RecordingOutputs.{blank_disk_output, disk_in}
use Rattle.w4_commands.proofs.RecordingLaws.{ends_unwritten, ends_written_of}
use Rattle.w4_commands.proofs.recordings.run_blank_disk.Goals as goal

pub returns-clause-ends : goal.returns-clause-ends
unfolding blank_disk_output
returns-clause-ends g c =
    ends_written_of (g.H.House.world c.args.house.now) (g.H.House.world c.load_disk.new.house)
    (g.H.House.world c.write_blank.new.house) (λ files. disk_in files c.args.disk.now)
    (λ disk. encoding 2 (blank_recording c.args.file.now.digest c.args.budget.units disk))
    c.in_ok-bytes.bytes.items c.in_ok-bytes.ensures.rest c.write_blank.ensures.rest
    c.in_ok-bytes.ensures.gives c.write_blank.result c.write_blank.ensures.out

pub returns-in_err-bytes-clause-ends : goal.returns-in_err-bytes-clause-ends
unfolding blank_disk_output
returns-in_err-bytes-clause-ends g c =
    let p = err_from_is_err_and c.from_residual.result c.from_residual.ensures.1 in
    rw (p.1, p.2)
    (ends_unwritten (g.H.House.world c.args.house.now) (g.H.House.world c.load_disk.new.house)
    c.in_err-bytes.field-0.0 (λ files. disk_in files c.args.disk.now)
    (λ disk. encoding 2 (blank_recording c.args.file.now.digest c.args.budget.units disk))
    c.in_err-bytes.ensures.rest c.in_err-bytes.ensures.gives)
