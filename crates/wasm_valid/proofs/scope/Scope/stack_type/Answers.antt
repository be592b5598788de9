use Rattle.std.proofs.Common.{◌≡◌, false, rules}
use Rattle.wasm_valid.proofs.PassSteps.{names, unnamed}
use Rattle.wasm_valid.proofs.scope.Scope.stack_type.Goals as goal

pub returns-in_default : goal.returns-in_default
returns-in_default c =
    let h : names c.args.op ≡ false = search rules in
    unnamed c.args.self.now c.args.op h
