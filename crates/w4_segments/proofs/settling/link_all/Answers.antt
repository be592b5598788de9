use Rattle.w4_segments.proofs.SettlingLaws.{some_unlinked}
use Rattle.w4_segments.proofs.settling.link_all.Goals as goal

pub returns-clause-all_linked : goal.returns-clause-all_linked
returns-clause-all_linked g c linked =
    absurd (some_unlinked c.args.editor.now c.last_entry-last.result c.unlinked-owed.result
    c.last_entry-last.ensures.last c.unlinked-owed.ensures.all c.if-owed-eq0.false linked)

pub returns-clause-idle : goal.returns-clause-idle
returns-clause-idle g c linked =
    absurd (some_unlinked c.args.editor.now c.last_entry-last.result c.unlinked-owed.result
    c.last_entry-last.ensures.last c.unlinked-owed.ensures.all c.if-owed-eq0.false linked)
