-- The value of decimal digits, within the limit of every number.
use Rattle.std.specs.Prelude.{ℕ, List, Option, None, if◌then◌else◌}
use Rattle.std.specs.Str.{all_ascii_digits}
use Rattle.w4_defs.specs.Lines.{at_most, decimal_value}

abbrev pub digit_value : List ℕ → Option ℕ
digit_value digits = if all_ascii_digits digits then at_most 4294967295 (decimal_value digits) else None
