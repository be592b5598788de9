use Rattle.std.proofs.Common.{ℕ, List, [], ◌∷◌, inl, sym, subst}
use Rattle.w4_defs.specs.World.{Took, Does}
use Rattle.std.proofs.lemmas.Result.{err_from_is_err_and}
use Rattle.w4_defs.specs.Endings.{manner_of}
use Rattle.w4_defs.specs.Live.{first_live_session}
use Rattle.w4_editor.specs.Editor.{current_recording}
use Rattle.w4_commands.proofs.ServeLaws.{line_stopped, lines_ended, lines_lost, serves_line, serves_none}
use Rattle.w4_commands.proofs.ServeLaws.{serving_none, serving_then, taking_serves}
use Rattle.w4_commands.proofs.serve.answer_lines.Goals as goal

pub loop-init : goal.loop-init
loop-init g c = (
  (λ o meant out sits. (first_live_session o, serves_none (g.H.House.world c.args.house.now) o, sits)),
  serving_none (g.H.House.world c.args.house.now),
)

pub returns-in_err-take_line-clause-answers : goal.returns-in_err-take_line-clause-answers
returns-in_err-take_line-clause-answers g c =
    let p = err_from_is_err_and c.from_residual.result c.from_residual.ensures.1 in
    let old = g.H.House.world c.args.house.now in
    let now = g.H.House.world c.loop.house in
    let new = g.H.House.world c.take_line.new.house in
    rw (p.1, p.2) (λ o meant out sits.
    let so_far = c.loop.invariant.0 o meant out sits in
    lines_lost old now new o so_far.0 so_far.1 c.in_err-take_line.ensures.rest
    (manner_of c.in_err-take_line.field-0.0)
    (current_recording c.loop.desk.counted.editor) so_far.2.recording c.loop.invariant.1.reads
    c.in_err-take_line.ensures.lost)

pub returns-in_err-take_line-clause-rest : goal.returns-in_err-take_line-clause-rest
returns-in_err-take_line-clause-rest g c =
    let old = g.H.House.world c.args.house.now in
    let now = g.H.House.world c.loop.house in
    let new = g.H.House.world c.take_line.new.house in
    serving_then old now new c.loop.invariant.1 (taking_serves now new c.in_err-take_line.ensures.rest)

pub returns-in-None-clause-answers : goal.returns-in-None-clause-answers
returns-in-None-clause-answers g c =
    let old = g.H.House.world c.args.house.now in
    let now = g.H.House.world c.loop.house in
    let new = g.H.House.world c.take_line.new.house in
    let ended = rw c.in-None.is at c.in_ok-take_line.ensures.taken in
    λ o meant out sits.
    let so_far = c.loop.invariant.0 o meant out sits in (
      so_far.0,
      lines_ended old now new o so_far.0 so_far.1 c.in_ok-take_line.ensures.rest ended,
      so_far.2.recording,
    )

pub returns-in-None-clause-rest : goal.returns-in-None-clause-rest
returns-in-None-clause-rest g c =
    let old = g.H.House.world c.args.house.now in
    let now = g.H.House.world c.loop.house in
    let new = g.H.House.world c.take_line.new.house in
    serving_then old now new c.loop.invariant.1 (taking_serves now new c.in_ok-take_line.ensures.rest)

pub returns-in_err-answer_live_line-in-Some-clause-answers :
    goal.returns-in_err-answer_live_line-in-Some-clause-answers
returns-in_err-answer_live_line-in-Some-clause-answers g c =
    let p = err_from_is_err_and c.from_residual-in_err-answer_live_line-in-Some.result
    c.from_residual-in_err-answer_live_line-in-Some.ensures.1 in
    let old = g.H.House.world c.args.house.now in
    let now = g.H.House.world c.loop.house in
    let mid = g.H.House.world c.take_line.new.house in
    let new = g.H.House.world c.answer_live_line.new.house in
    let line = c.as_slice-bytes.result.now in
    let taken = rw c.in-Some.is at c.in_ok-take_line.ensures.taken in
    rw (p.1, p.2) (λ o meant out sits.
    let so_far = c.loop.invariant.0 o meant out sits in
    line_stopped old now mid new o so_far.0 line so_far.1 c.in_ok-take_line.ensures.rest
    (subst (λ (bytes : List ℕ). Does now mid (Took bytes ∷ [])) (sym c.as_slice-bytes.ensures.value)
    taken)
    (manner_of c.in_err-answer_live_line-in-Some.field-0.0) (current_recording
    c.answer_live_line.new.desk.counted.editor)
    (c.in_err-answer_live_line-in-Some.ensures.answers o so_far.0 meant out so_far.2))

pub returns-in_err-answer_live_line-in-Some-clause-rest :
    goal.returns-in_err-answer_live_line-in-Some-clause-rest
returns-in_err-answer_live_line-in-Some-clause-rest g c =
    let old = g.H.House.world c.args.house.now in
    let now = g.H.House.world c.loop.house in
    let mid = g.H.House.world c.take_line.new.house in
    let new = g.H.House.world c.answer_live_line.new.house in
    serving_then old mid new
    (serving_then old now mid c.loop.invariant.1 (taking_serves now mid c.in_ok-take_line.ensures.rest))
    c.in_err-answer_live_line-in-Some.ensures.rest

pub loop-preserved : goal.loop-preserved
loop-preserved g c =
    let old = g.H.House.world c.args.house.now in
    let now = g.H.House.world c.loop.house in
    let mid = g.H.House.world c.take_line.new.house in
    let new = g.H.House.world c.answer_live_line.new.house in
    let line = c.as_slice-bytes.result.now in
    let taken = rw c.in-Some.is at c.in_ok-take_line.ensures.taken in (
      (λ o meant out sits.
          let so_far = c.loop.invariant.0 o meant out sits in
          serves_line old now mid new o so_far.0 line so_far.1 c.in_ok-take_line.ensures.rest
          (subst (λ (bytes : List ℕ). Does now mid (Took bytes ∷ [])) (sym c.as_slice-bytes.ensures.value)
          taken) c.answer_live_line.new.desk.counted.editor c.answer_live_line.new.search
          (c.in_ok-answer_live_line-in-Some.ensures.answers o so_far.0 meant out so_far.2)),
      serving_then old mid new
          (serving_then old now mid c.loop.invariant.1 (taking_serves now mid c.in_ok-take_line.ensures.rest))
          c.in_ok-answer_live_line-in-Some.ensures.rest,
    )

pub returns-clause-answers : goal.returns-clause-answers
returns-clause-answers g c = λ o meant out sits.
    let so_far = c.loop.invariant.0 o meant out sits in
    inl (so_far.0, so_far.1, so_far.2.recording)

pub returns-clause-rest : goal.returns-clause-rest
returns-clause-rest g c = c.loop.invariant.1
