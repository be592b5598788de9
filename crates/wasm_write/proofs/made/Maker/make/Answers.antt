use Rattle.std.proofs.Common.{◌≡◌, ◌∙◌, List, ℕ, ap, sym, subst}
use Rattle.w4_defs.specs.Cart.{IsCart}
use Rattle.w4_defs.specs.Module.{WasmModule}
use Rattle.w4_defs.specs.Generator.{made_module}
use Rattle.wasm_write.specs.Draws.{inputs_from}
use Rattle.w4_defs.specs.EncodeModule.{module_bytes}
use Rattle.wasm_write.specs.Fits.{ModuleFits}
use Rattle.wasm_write.proofs.DrawLaws.{later_inputs}
use Rattle.wasm_write.proofs.MadeFits.{made_fits, made_modules_are_carts}
use Rattle.wasm_write.proofs.made.Maker.make.Goals as goal

pub write_module-requires : goal.write_module-requires
write_module-requires c =
    let Fits : WasmModule → Type 0 = λ m. ModuleFits m in
    let same = c.in_ok-module.ensures c.args.number c.in_ok-bodies.ensures.bodies in
    subst Fits (sym same) (made_fits c.args.number)

pub returns-clause-accepted : goal.returns-clause-accepted
returns-clause-accepted c =
    let m : WasmModule = made_module c.args.number in
    let written : c.in_ok-cart.cart.items ≡ module_bytes m = c.in_ok-cart.ensures.shortest
    ∙ ap module_bytes (c.in_ok-module.ensures c.args.number c.in_ok-bodies.ensures.bodies) in
    let Cart : List ℕ → Type 0 = λ bytes. IsCart bytes m in
    subst Cart (sym written) (made_modules_are_carts c.args.number)

pub returns-clause-shortest : goal.returns-clause-shortest
returns-clause-shortest c =
    c.in_ok-cart.ensures.shortest
    ∙ ap module_bytes (c.in_ok-module.ensures c.args.number c.in_ok-bodies.ensures.bodies)

pub returns-clause-inputs : goal.returns-clause-inputs
returns-clause-inputs c = c.in_ok-inputs.ensures ∙ ap inputs_from c.in_ok-bodies.ensures.draws
    ∙ later_inputs c.args.number
