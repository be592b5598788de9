use Rattle.std.proofs.Common.{Err, ap}
use Rattle.std.proofs.lemmas.Result.{err_from_is_err_and}
use Rattle.w4_answers.proofs.SavingLaws.{save_refused}
use Rattle.w4_answers.proofs.saving.save.Goals as goal

pub returns-in_err-write_file-clause-saved : goal.returns-in_err-write_file-clause-saved
returns-in_err-write_file-clause-saved g c =
    let p = err_from_is_err_and c.from_residual.result c.from_residual.ensures.1 in
    rw (p.1, p.2)
    (save_refused (g.H.House.world c.args.house.now) (g.H.House.world c.write_file.new.self)
    c.in_err-write_file.field-0.0 c.args.name.now c.args.bytes.now
    (λ e. c.in_err-write_file.ensures.failed (ap (λ why. Err why) e))
    (λ e. c.in_err-write_file.ensures.not_saved (ap (λ why. Err why) e))
    (λ e. c.in_err-write_file.ensures.out_of_memory (ap (λ why. Err why) e)))
