use Rattle.std.proofs.Common.{refl}
use Rattle.w4_defs.specs.KeptList.{state_at}
use Rattle.w4_commands.specs.Serve.{opened_view}
use Rattle.w4_commands.proofs.ServeLaws.{opens}
use Rattle.w4_commands.proofs.serve.serve_run.Goals as goal

pub returns-clause-ends : goal.returns-clause-ends
returns-clause-ends g c =
    let o = opened_view c.args.file.cart c.args.run c.args.names.out.now in
    let editor = c.in_ok-desk.desk.counted.editor in
    c.serve_at-end.ensures.ends o c.args.file.meaning refl
    (opens o editor (state_at editor.session.current.kept 0) c.in_ok-desk.ensures)
