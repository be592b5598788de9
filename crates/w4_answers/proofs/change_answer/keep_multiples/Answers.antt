use Rattle.w4_answers.proofs.change_answer.keep_multiples.Goals as goal

pub returns-in-Ok-clause-frames_run : goal.returns-in-Ok-clause-frames_run
returns-in-Ok-clause-frames_run g c =
    let kept = c.in-Ok.ensures.copied in (kept.0, c.in-Ok._copied, kept.1)
