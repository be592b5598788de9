use Rattle.std.proofs.Common.{◌≡◌, length, false, true, sym, ap, ◌∙◌, rules}
use Rattle.w4_defs.specs.Lines.{is_skipped}
use Rattle.w4_script.specs.Words.{words_left}
use Rattle.w4_script.proofs.ReadingLaws.{line_before, skipped_before, no_lines}
use Rattle.w4_script.proofs.reading.LinesIterator.next.Goals as goal

pub returns-then-not-is_skipped-clause-steps : goal.returns-then-not-is_skipped-clause-steps
returns-then-not-is_skipped-clause-steps c =
    let shown : is_skipped (words_left c.words_of-words.result) ≡ false = search rules in
    sym c.loop-line.invariant
    ∙ line_before c.loop-line.self.number c.loop-line.self.rest.now c.first_piece.result.0.now
    c.first_piece.result.1.now (words_left c.words_of-words.result) c.first_piece.ensures.pieces
    c.words_of-words.ensures shown

pub returns-then-not-is_skipped-clause-goes : goal.returns-then-not-is_skipped-clause-goes
returns-then-not-is_skipped-clause-goes c =
    let shorter = ap length (returns-then-not-is_skipped-clause-steps c) in
    search rules

pub loop-line-preserved : goal.loop-line-preserved
loop-line-preserved c =
    let skipped : is_skipped (words_left c.words_of-words.result) ≡ true = search rules in
    sym (skipped_before c.loop-line.self.number c.loop-line.self.rest.now c.first_piece.result.0.now
    c.first_piece.result.1.now (words_left c.words_of-words.result) c.first_piece.ensures.pieces
    c.words_of-words.ensures skipped) ∙ c.loop-line.invariant

pub returns-clause-steps : goal.returns-clause-steps
returns-clause-steps c =
    let none = no_lines c.loop-line.self.number c.loop-line.self.rest.now (search rules) in
    (sym c.loop-line.invariant ∙ none, none)
