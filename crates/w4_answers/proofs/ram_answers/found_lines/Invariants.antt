use Rattle.std.proofs.Common.{◌≡◌, ◌++◌, take}
use Rattle.std.specs.Prelude.{decimal, flat_map}
use Rattle.w4_defs.specs.FrameTexts.{line_end}
use Rattle.w4_answers.proofs.ram_answers.found_lines.Given as goal

abbrev pub invariant-loop-address : goal.invariant-loop-address
invariant-loop-address l =
    l.lines.items
    ≡ l.initial.lines.items ++ flat_map (λ n. decimal n ++ line_end) (take l.address-index l.addresses)
