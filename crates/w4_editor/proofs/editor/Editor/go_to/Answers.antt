use Rattle.w4_editor.proofs.EditorLaws.{still_shown}
use Rattle.w4_editor.proofs.editor.Editor.go_to.Goals as goal

pub returns-then-stands_at-clause-ok : goal.returns-then-stands_at-clause-ok
returns-then-stands_at-clause-ok g c =
    let stands = c.stands_at.ensures.0 c.if-stands_at.true in
    still_shown c.args.p c.args.steps.now c.args.self.now stands.0 stands.1
