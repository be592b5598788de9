use Rattle.std.proofs.Common.{◌≡◌, length, false, ap, sym, ◌∙◌, arith}
use Rattle.std.specs.Prelude.{not, ◌==◌}
use Rattle.std.proofs.lemmas.Bool.Decides.{nat_tests}
use Rattle.wasm_link.proofs.SignatureLaws.{all_i32, another_length}
use Rattle.wasm_link.proofs.signature.are_i32.Goals as goal

pub returns-then-kinds-count : goal.returns-then-kinds-count
returns-then-kinds-count c = ap not c.any.ensures
    ∙ all_i32 c.args.kinds.now c.args.count c.if-kinds-count.true

pub returns-else-kinds-count : goal.returns-else-kinds-count
returns-else-kinds-count c =
    let differs = c.if-kinds-count.false in
    let e : (length c.args.kinds.now == c.args.count) ≡ false = grind (arith, nat_tests, differs) in
    e ∙ sym (another_length c.args.kinds.now c.args.count differs)
