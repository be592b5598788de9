-- The last operation is chosen where the draw leaves none of 0 to 9.
use Rattle.std.proofs.Common.{◌≡◌, ◌%◌, ap, sym, arith}
use Rattle.std.specs.Prelude.{slice_index_or}
use Rattle.w4_defs.specs.declared.operation.Op.TheVariants.{Basic}
use Rattle.w4_defs.specs.declared.basic.Basic.TheVariants.{I32Add}
use Rattle.w4_defs.specs.Generator.{operations}
use Rattle.w4_defs.specs.Tree.{mark, plain, sequence}
use Rattle.w4_defs.specs.View.{before}
use Rattle.wasm_write.proofs.made.choice.Goals as goal

pub returns-in_default : goal.returns-in_default
unfolding before
returns-in_default c =
    let last : c.args.drawn % 11 ≡ 10 = omega arith in
    λ ops. ap (λ k. plain (mark (slice_index_or operations k (Basic I32Add))) (sequence ops)) (sym last)
