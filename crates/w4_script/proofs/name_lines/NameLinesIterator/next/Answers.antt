use Rattle.std.proofs.Common.{◌≡◌, ◌<◌, length, sym, ap, ◌∙◌, rules}
use Rattle.w4_script.proofs.NameLaws.{named_before, empty_before, no_name_lines}
use Rattle.w4_script.proofs.name_lines.NameLinesIterator.next.Goals as goal

pub returns-then-not-is_empty-clause-steps : goal.returns-then-not-is_empty-clause-steps
returns-then-not-is_empty-clause-steps c =
    let some : 0 < length c.without_return-name.result.now = search rules in
    sym c.loop-line.invariant
    ∙ named_before c.loop-line.self.number c.loop-line.self.rest.now c.first_piece.result.0.now
    c.first_piece.result.1.now c.without_return-name.result.now c.first_piece.ensures.pieces
    c.without_return-name.ensures some

pub returns-then-not-is_empty-clause-goes : goal.returns-then-not-is_empty-clause-goes
returns-then-not-is_empty-clause-goes c =
    let shorter = ap length (returns-then-not-is_empty-clause-steps c) in
    search rules

pub loop-line-preserved : goal.loop-line-preserved
loop-line-preserved c =
    let none : length c.without_return-name.result.now ≡ 0 = search rules in
    sym (empty_before c.loop-line.self.number c.loop-line.self.rest.now c.first_piece.result.0.now
    c.first_piece.result.1.now c.without_return-name.result.now c.first_piece.ensures.pieces
    c.without_return-name.ensures none) ∙ c.loop-line.invariant

pub returns-clause-steps : goal.returns-clause-steps
returns-clause-steps c =
    let none = no_name_lines c.loop-line.self.number c.loop-line.self.rest.now (search rules) in
    (sym c.loop-line.invariant ∙ none, none)
