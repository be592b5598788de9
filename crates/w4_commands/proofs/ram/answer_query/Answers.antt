use Rattle.std.proofs.Common.{None, ap, refl, sym}
use Rattle.std.proofs.lemmas.Result.{err_from_is_err_and}
use Rattle.w4_editor.specs.Editor.{Editing}
use Rattle.w4_answers.proofs.WritingLaws.{out_none, there_as}
use Rattle.w4_answers.specs.RamAnswers.{query_answers}
use Rattle.w4_defs.specs.ToolOutputs.{ram_text}
use Rattle.w4_commands.specs.Load.{run_files_view}
use Rattle.w4_answers.specs.Writing.{Written}
use Rattle.w4_commands.proofs.ram.answer_query.Goals as goal

pub returns-clause-out : goal.returns-clause-out
returns-clause-out g c =
    let editor = c.in_ok-editor.editor in
    let old = g.H.House.world c.args.house.now in
    let new = g.H.House.world c.answer_lines-end.new.house in
    let lines = c.args.lines.now in
    there_as (λ text. Written old new c.answer_lines-end.result text) (query_answers editor None lines).out
    (ram_text c.args.cart (record { run = run_files_view c.args.run; lines = lines }))
    (sym (ap (λ (e : Editing). (query_answers e None lines).out) c.in_ok-editor.ensures))
    c.answer_lines-end.ensures.out

pub returns-in_err-editor-clause-out : goal.returns-in_err-editor-clause-out
returns-in_err-editor-clause-out g c =
    let p = err_from_is_err_and c.from_residual.result c.from_residual.ensures.1 in
    let world = g.H.House.world c.args.house.now in
    rw (p.1, p.2) (λ text is. out_none world.events world.events text refl)
