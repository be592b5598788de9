use Rattle.std.proofs.Common.{◌≡◌, ◌≤◌, true, take}
use Rattle.std.specs.Str.{all_ascii_digits}
use Rattle.w4_defs.specs.Lines.{decimal_value}
use Rattle.w4_script.proofs.number.value_of.Given as goal

abbrev pub invariant-loop-digit : goal.invariant-loop-digit
invariant-loop-digit l =
    (l.value ≤ 4294967295) × (all_ascii_digits (take l.digit-index l.digits) ≡ true)
    × (decimal_value (take l.digit-index l.digits) ≡ l.value)
