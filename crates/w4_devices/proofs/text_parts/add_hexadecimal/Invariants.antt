use Rattle.std.proofs.Common.{◌≡◌, ◌++◌, take}
use Rattle.w4_defs.specs.MadeSummary.{hexadecimal}
use Rattle.w4_devices.proofs.text_parts.add_hexadecimal.Given as goal

abbrev pub invariant-loop-byte : goal.invariant-loop-byte
invariant-loop-byte l = l.text.items ≡ l.initial.text.items ++ hexadecimal (take l.byte-index l.bytes)
