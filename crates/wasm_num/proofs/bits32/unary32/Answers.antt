-- The machine counts the zeros, the definition the digits.
use Rattle.std.proofs.Common.{sym, ap, ◌∙◌}
use Rattle.w4_defs.specs.Integers.{unary}
use Rattle.wasm_num.proofs.LeadingZeros.{leading_zeros}
use Rattle.wasm_num.proofs.bits32.unary32.Goals as goal

pub returns-in-Clz : goal.returns-in-Clz
returns-in-Clz c = leading_zeros 32 c.args.a ∙ ap (λ op. unary 32 op c.args.a) (sym c.in-Clz.is)
