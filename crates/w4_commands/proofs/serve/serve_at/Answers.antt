use Rattle.w4_editor.specs.Editor.{current_recording}
use Rattle.w4_commands.proofs.ServeEndLaws.{serve_ended, stopped_ends}
use Rattle.w4_commands.proofs.serve.serve_at.Goals as goal

pub returns-in-Ok-clause-ends : goal.returns-in-Ok-clause-ends
returns-in-Ok-clause-ends g c = λ o meaning is sits.
    let lines = c.in-Ok.ensures.answers o meaning is sits in
    serve_ended o (g.H.House.world c.args.house.now) (g.H.House.world c.answer_lines.new.house)
    (g.H.House.world c.save_recording.new.house) (current_recording c.answer_lines.new.desk.counted.editor)
    c.save_recording.ensures.rest lines.0 lines.1 lines.2 c.in-Ok.ensures.rest.writes c.save_recording.result
    (rw is c.save_recording.ensures.saved)

pub returns-in-Err-clause-ends : goal.returns-in-Err-clause-ends
returns-in-Err-clause-ends g c = λ o meaning is sits.
    stopped_ends o (g.H.House.world c.args.house.now) (g.H.House.world c.answer_lines.new.house)
    (g.H.House.world c.rescue.new.house) (current_recording c.answer_lines.new.desk.counted.editor)
    c.rescue.ensures.rest
    c.in-Err.why (c.in-Err.ensures.answers o meaning is sits) c.in-Err.ensures.rest.writes
    c.rescue.result (rw is c.rescue.ensures.rescued)
