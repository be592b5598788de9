use Rattle.std.proofs.Common.{subst, sym}
use Rattle.wasm_write.specs.Fits.{ModuleFits}
use Rattle.w4_unit_tests.proofs.WriteModulesLaws.{all_sections_fit}
use Rattle.w4_unit_tests.proofs.tests.write_modules.bytes_of_all_sections.Goals as goal

pub write_module-requires : goal.write_module-requires
write_module-requires c = subst ModuleFits (sym c.in_ok-module.ensures) all_sections_fit
