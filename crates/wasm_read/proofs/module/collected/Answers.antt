use Rattle.std.proofs.Common.{arith}
use Rattle.wasm_read.specs.ReadModule.{contents_in}
use Rattle.wasm_read.proofs.ModuleLaws.{front_few}
use Rattle.wasm_read.proofs.module.collected.Goals as goal

pub invariant_of-result : goal.invariant_of-result
invariant_of-result c = record {
  as_many_bodies = omega (arith, c.if-len.false, c.len.ensures, c.len-2.ensures);
  results = front_few (contents_in c.args.bytes.now) _ c.in_ok-front.ensures;
}
