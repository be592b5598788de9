use Rattle.std.proofs.Common.{◌≡◌, ◌++◌, take}
use Rattle.std.specs.Prelude.{flat_map}
use Rattle.w4_defs.specs.FrameTexts.{spaced}
use Rattle.w4_defs.specs.Live.{val_number}
use Rattle.w4_answers.proofs.own_answer.add_globals.Given as goal

abbrev pub invariant-loop-value : goal.invariant-loop-value
invariant-loop-value l =
    l.text.items
    ≡ l.initial.text.items ++ flat_map (λ value. spaced (val_number value)) (take l.value-index l.globals)
