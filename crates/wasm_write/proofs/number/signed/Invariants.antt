use Rattle.std.proofs.Common.{◌≡◌, ◌++◌, ◌<◌, ◌≤◌, ◌^◌}
use Rattle.w4_defs.specs.EncodeNumber.{signed_bytes}
use Rattle.wasm_write.proofs.number.signed.Given as goal

abbrev pub invariant-loop-out : goal.invariant-loop-out
invariant-loop-out l = record {
  positive : 0 < l.bits;
  width : l.bits ≤ 64;
  fits : l.left < 2 ^ l.bits;
  written : l.out.items ++ signed_bytes l.bits l.left ≡ l.initial.out.items ++ signed_bytes l.width l.value;
}

abbrev pub decreases-loop-out : goal.decreases-loop-out
decreases-loop-out l = l.bits
