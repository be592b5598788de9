use Rattle.std.proofs.Common.{refl}
use Rattle.std.proofs.lemmas.Result.{err_from_is_err_and}
use Rattle.w4_defs.specs.Recording.{encoding}
use Rattle.w4_defs.specs.RecordingOutputs.{rebound}
use Rattle.w4_answers.proofs.WritingLaws.{out_none}
use Rattle.w4_commands.proofs.recordings.write_rebound.Goals as goal

pub returns-in_err-bytes-clause-out : goal.returns-in_err-bytes-clause-out
returns-in_err-bytes-clause-out g c =
    let p = err_from_is_err_and c.from_residual.result c.from_residual.ensures.1 in
    let events = (g.H.House.world c.args.house.now).events in
    rw (p.1, p.2) (out_none events events (encoding 2 (rebound c.args.digest.now c.args.recording)) refl)
