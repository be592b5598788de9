use Rattle.std.proofs.Common.{List, ℕ, Some, ap, sym, ◌∙◌}
use Rattle.w4_defs.specs.Output.{made_text}
use Rattle.w4_answers.specs.Writing.{Written}
use Rattle.w4_answers.proofs.WritingLaws.{there_is}
use Rattle.w4_commands.proofs.make.write_made.Goals as goal

pub returns-clause-out : goal.returns-clause-out
returns-clause-out g c =
    let old = g.H.House.world c.args.house.now in
    let new = g.H.House.world c.write_bytes.new.house in
    there_is (λ text. Written old new c.write_bytes.result text) (made_text c.args.number)
    c.as_slice.result.now
    (c.in_ok-text.ensures ∙ ap (λ (lines : List ℕ). Some lines) (sym c.as_slice.ensures.value))
    c.write_bytes.ensures.out
