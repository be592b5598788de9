use Rattle.std.proofs.lemmas.Result.{err_from_is_err_and}
use Rattle.w4_defs.specs.Endings.{manner_of}
use Rattle.w4_defs.specs.Live.{answer_end, refused_save}
use Rattle.w4_answers.proofs.WritingLaws.{stops_more, written_then}
use Rattle.w4_answers.proofs.live_answer.refuse_save.Goals as goal

pub returns-in_err-write-clause-out : goal.returns-in_err-write-clause-out
returns-in_err-write-clause-out g c =
    let p = err_from_is_err_and c.from_residual.result c.from_residual.ensures.1 in
    rw (p.1, p.2)
    (stops_more (g.H.House.world c.args.house.now) (g.H.House.world c.write.new.house)
    (manner_of c.in_err-write.field-0.0) refused_save answer_end c.in_err-write.ensures.out)

pub returns-clause-out : goal.returns-clause-out
returns-clause-out g c =
    written_then c.write_bytes.result (g.H.House.world c.args.house.now) (g.H.House.world c.write.new.house)
    (g.H.House.world c.write_bytes.new.house) refused_save answer_end c.in_ok-write.ensures.rest.later
    c.in_ok-write.ensures.out c.write_bytes.ensures.out
