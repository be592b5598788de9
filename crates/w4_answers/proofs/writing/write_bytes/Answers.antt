use Rattle.std.proofs.Common.{Err, ap}
use Rattle.std.proofs.lemmas.Result.{err_from_is_err_and}
use Rattle.w4_answers.proofs.WritingLaws.{out_refused}
use Rattle.w4_answers.proofs.writing.write_bytes.Goals as goal

pub returns-in_err-write_out-clause-out : goal.returns-in_err-write_out-clause-out
returns-in_err-write_out-clause-out g c =
    let p = err_from_is_err_and c.from_residual.result c.from_residual.ensures.1 in
    rw (p.1, p.2)
    (out_refused (g.H.House.world c.args.house.now) (g.H.House.world c.write_out.new.self)
    c.in_err-write_out.field-0.0 c.args.bytes.now
    (λ e. c.in_err-write_out.ensures.failed (ap (λ why. Err why) e)) c.in_err-write_out.ensures.front)
