use Rattle.std.proofs.Common.{◌≡◌, sym, ◌∙◌, true, false}
use Rattle.w4_segments.proofs.RoundLaws.{link_put, replace_put}
use Rattle.w4_segments.proofs.rounds.link_or_replace.Goals as goal

pub returns-then-kept_same-clause-put : goal.returns-then-kept_same-clause-put
returns-then-kept_same-clause-put c =
    let e = c.args.editor.now in
    link_put e.disk e c.link.new.self c.args.entry c.args.found.now c.is_consistent.ensures c.requires.there
    c.requires.found
    (c.kept_same.ensures.0 c.if-kept_same.true) c.link.ensures c.args.replaced

pub returns-clause-put : goal.returns-clause-put
returns-clause-put c =
    let e = c.args.editor.now in
    replace_put e.disk e c.replace.new.self c.args.entry c.args.found.now c.is_consistent.ensures
    c.requires.there
    c.requires.found c.requires.globals
    (λ same. let e : false ≡ true = sym c.if-kept_same.false ∙ c.kept_same.ensures.1 same in cc)
    c.in_ok-replace.ensures.ok c.args.replaced
