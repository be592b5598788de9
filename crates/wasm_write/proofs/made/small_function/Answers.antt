use Rattle.std.proofs.Common.{◌≡◌, subst}
use Rattle.std.specs.Prelude.{IfOk}
use Rattle.w4_defs.specs.Module.{Function}
use Rattle.wasm_write.proofs.DrawLaws.{three_draws, three_seeds}
use Rattle.wasm_write.proofs.made.small_function.Goals as goal

pub returns-clause-function : goal.returns-clause-function
returns-clause-function c =
    let Made : Function → Type 0 = λ f. IfOk c.function_of_draws.result (λ b. b ≡ f) in
    let same =
    three_draws
    c.args.draws.now.number
    c.next-first.new.self.number
    c.next-value.new.self.number
    c.next-first.result
    c.next-value.result
    c.next-second.result
    c.next-first.ensures.draw
    c.next-first.ensures.next
    c.next-value.ensures.draw
    c.next-value.ensures.next
    c.next-second.ensures.draw
    in
    subst Made same c.function_of_draws.ensures

pub returns-clause-draws : goal.returns-clause-draws
returns-clause-draws c =
    three_seeds
    c.args.draws.now.number
    c.next-first.new.self.number
    c.next-value.new.self.number
    c.next-second.new.self.number
    c.next-first.ensures.next
    c.next-value.ensures.next
    c.next-second.ensures.next
