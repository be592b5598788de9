use Rattle.wasm_write.proofs.PartsOfModules.{module_with, same_module}
use Rattle.wasm_write.proofs.made_module.module_around.Goals as goal

pub returns : goal.returns
unfolding module_with
returns c =
    λ number bodies.
    same_module
    c.in_ok-types.ensures
    c.in_ok-imports.ensures
    c.in_ok-functions.ensures
    c.new.ensures.items
    c.new-2.ensures.items
    c.new-3.ensures.items
    (c.in_ok-exports.ensures number)
    c.new-4.ensures.items
    bodies
    c.new-5.ensures.items
