use Rattle.w4_segments.proofs.SettlingLaws.{linked_after, on_ok_map, settled_after}
use Rattle.w4_segments.proofs.settling.settle_by_rounds.Goals as goal

pub returns-clause-ok : goal.returns-clause-ok
returns-clause-ok g c =
    on_ok_map c.settle.result
    (settled_after c.args.editor.now c.link_all.new.editor c.settle.new.editor c.link_all.ensures.keeps)
    c.settle.ensures.ok

pub returns-clause-linked : goal.returns-clause-linked
returns-clause-linked g c linked =
    c.settle.ensures.linked
    (linked_after c.args.editor.now c.link_all.new.editor c.link_all.ensures.keeps
    c.in_ok-link_all.ensures.linked)
