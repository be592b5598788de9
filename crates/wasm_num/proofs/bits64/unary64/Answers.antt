-- The machine counts the zeros, the definition the digits.
use Rattle.std.proofs.Common.{sym, ap, ◌∙◌}
use Rattle.w4_defs.specs.Integers.{unary}
use Rattle.wasm_num.proofs.LeadingZeros.{leading_zeros}
use Rattle.wasm_num.proofs.bits64.unary64.Goals as goal

pub returns-in-Clz : goal.returns-in-Clz
returns-in-Clz c = c.from.ensures ∙ leading_zeros 64 c.args.a
    ∙ ap (λ op. unary 64 op c.args.a) (sym c.in-Clz.is)
