use Rattle.std.proofs.Common.{ℕ, List, Some, length, ◌∙◌, ap, sym, arith}
use Rattle.w4_commands.specs.Stage.{stage_moment}
use Rattle.w4_answers.proofs.ScriptAnswerLaws.{if_ok_map}
use Rattle.w4_commands.proofs.SummaryLaws.{summary_is}
use Rattle.w4_commands.proofs.make.lines_of_run.Goals as goal

pub run_to-requires-clause-place : goal.run_to-requires-clause-place
run_to-requires-clause-place c =
    rw (
      c.as_slice.ensures.value,
      c.requires.inputs,
      c.generator_laws.ensures.inputs c.args.number,
    )
    (omega arith)

pub returns : goal.returns
returns c =
    let moment = stage_moment c.run_to.new.self in
    let told = summary_is c.args.number c.args.cart.now c.zero_font-font.result c.args.made.now.budget
    c.as_slice.result.now c.args.made.now.cart.items (length c.as_slice-bytes.result.now) moment
    c.requires.accepted
    c.zero_font-font.ensures c.requires.budget
    (c.as_slice.ensures.value ∙ c.requires.inputs) c.requires.shortest
    (ap (λ (items : List ℕ). length items) c.as_slice-bytes.ensures.value) c.run_to.ensures.0 in
    if_ok_map c.summary_of-lines.result (λ text h. told ∙ ap (λ (lines : List ℕ). Some lines) (sym h))
    c.summary_of-lines.ensures
