use Rattle.std.proofs.Common.{List, ℕ, sym, subst}
use Rattle.std.proofs.lemmas.Result.{IfOk-weaker}
use Rattle.w4_defs.specs.BinaryModule.{SpellsModule}
use Rattle.w4_defs.specs.EncodeModule.{module_bytes}
use Rattle.wasm_write.proofs.ModuleLaws.{module_encodes}
use Rattle.wasm_write.proofs.module.write_module.Goals as goal

pub returns-clause-encodes : goal.returns-clause-encodes
returns-clause-encodes c =
    let m = c.args.wasm_module.now in
    let Spelled : List ℕ → Type 0 = λ text. SpellsModule text m in
    let encoded : Spelled (module_bytes m) = module_encodes m c.requires in
    IfOk-weaker c.module_bytes.result _ _ (λ v e. subst Spelled (sym e) encoded) c.module_bytes.ensures
