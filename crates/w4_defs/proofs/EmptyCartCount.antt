-- The smallest cart with a data count section, and the module without sections.
use Rattle.std.specs.Prelude.{refl, ℕ, List, [], ◌∷◌, ◌++◌, None}
use Rattle.std.proofs.Common.{inr, arith}
use Rattle.w4_defs.specs.Module.{WasmModule}
use Rattle.w4_defs.specs.BinaryText.{items}
use Rattle.w4_defs.specs.BinarySection.{Section, section}
use Rattle.w4_defs.specs.BinaryModule.{Collects}
use Rattle.w4_defs.specs.EmptyCart.{empty_module}
use Rattle.w4_defs.proofs.EmptyCartSections.{type_section, import_section, function_section, export_section, code_section, short, whole, collected}

abbrev pub counted_sections : List Section
counted_sections =
    (1, type_section) ∷ (2, import_section) ∷ (3, function_section) ∷ (7, export_section) ∷ (12, 0x00 ∷ [])
    ∷ (10, code_section) ∷ []

abbrev pub after_count : List ℕ
after_count = 0x0a ∷ 0x04 ∷ code_section

abbrev pub after_exports : List ℕ
after_exports = 0x0c ∷ 0x01 ∷ 0x00 ∷ after_count

abbrev pub after_functions : List ℕ
after_functions = 0x07 ∷ 0x0a ∷ (export_section ++ after_exports)

abbrev pub after_imports : List ℕ
after_imports = 0x03 ∷ 0x02 ∷ (function_section ++ after_functions)

abbrev pub after_types : List ℕ
after_types = 0x02 ∷ 0x0f ∷ (import_section ++ after_imports)

abbrev pub counted_text : List ℕ
counted_text = 0x01 ∷ 0x04 ∷ (type_section ++ after_types)

pub counted_spelled : items section counted_sections counted_text
counted_spelled = (
  0x01 ∷ 0x04 ∷ type_section,
  after_types,
  refl,
  whole 1 (0x04 ∷ []) type_section (short 4 (omega arith)),
  (
    0x02 ∷ 0x0f ∷ import_section,
    after_imports,
    refl,
    whole 2 (0x0f ∷ []) import_section (short 15 (omega arith)),
    (
      0x03 ∷ 0x02 ∷ function_section,
      after_functions,
      refl,
      whole 3 (0x02 ∷ []) function_section (short 2 (omega arith)),
      (
        0x07 ∷ 0x0a ∷ export_section,
        after_exports,
        refl,
        whole 7 (0x0a ∷ []) export_section (short 10 (omega arith)),
        (
          0x0c ∷ 0x01 ∷ 0x00 ∷ [],
          after_count,
          refl,
          whole 12 (0x01 ∷ []) (0x00 ∷ []) (short 1 (omega arith)),
          (after_count, [], refl, whole 10 (0x04 ∷ []) code_section (short 4 (omega arith)), refl),
        ),
      ),
    ),
  ),
)

pub counted : Collects counted_sections empty_module
counted =
    record {
      order =
          inr (
            omega arith,
            omega arith,
            omega arith,
            inr (
              omega arith,
              omega arith,
              omega arith,
              inr (
                omega arith,
                omega arith,
                omega arith,
                inr (
                  omega arith,
                  omega arith,
                  omega arith,
                  inr (
                    omega arith,
                    omega arith,
                    omega arith,
                    inr (omega arith, omega arith, omega arith, tt),
                  ),
                ),
              ),
            ),
          );
      types = collected.types;
      imports = collected.imports;
      functions = collected.functions;
      tables = refl;
      memories = refl;
      globals = refl;
      exports = collected.exports;
      start = refl;
      elements = refl;
      data_count = short 0 (omega arith);
      bodies = collected.bodies;
      segments = refl;
      as_many = refl;
    }

abbrev pub no_module : WasmModule
no_module =
    record {
      types = [];
      imports = [];
      functions = [];
      tables = [];
      memories = [];
      globals = [];
      exports = [];
      start = None;
      elements = [];
      bodies = [];
      segments = [];
    }

pub nothing_collected : Collects [] no_module
nothing_collected =
    record {
      order = tt;
      types = refl;
      imports = refl;
      functions = refl;
      tables = refl;
      memories = refl;
      globals = refl;
      exports = refl;
      start = refl;
      elements = refl;
      data_count = tt;
      bodies = refl;
      segments = refl;
      as_many = refl;
    }
