use Rattle.std.proofs.Common.{◌≡◌, ◌+◌, ◌++◌, drop}
use Rattle.w4_defs.specs.InputsText.{input_lines}
use Rattle.w4_answers.proofs.inputs_text.add_input_lines.Given as goal

abbrev pub invariant-loop-i : goal.invariant-loop-i
invariant-loop-i l =
    l.text.items ++ input_lines l.word (l.from + l.i) (drop l.i l.inputs)
    ≡ l.initial.text.items ++ input_lines l.word l.from l.inputs
