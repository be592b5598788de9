-- What a cart keeps beside its module: that the console's profile lets the module through, that
-- the module is valid, and what is made once of it.
use Rattle.std.specs.Prelude.{◌≡◌, ℕ, ◌^◌, ◌<◌, List, [], length, map, codes, Option, None}
use Rattle.w4_defs.specs.declared.value.Val.{Val}
use Rattle.w4_defs.specs.EntryPoints.{first_globals}
use Rattle.w4_defs.specs.Module.{WasmModule}
use Rattle.w4_defs.specs.Profile.{profile_refusal}
use Rattle.w4_defs.specs.Program.{callees, table_of}
use Rattle.w4_defs.specs.Validity.{IsValid}
use Rattle.wasm_tree.specs.Layout.{marks}
use Rattle.wasm_valid.specs.declared.call.Call.{Call}
use Rattle.wasm_valid.specs.declared.entry_point.Entry.{Entry}
use Rattle.wasm_valid.specs.declared.entry_point.Entry.TheVariants.{Update, CrtStart, Initialize, Start}
use Rattle.wasm_valid.specs.Calls.{number_of_type, AreCalls}

-- the name of an exported function that the console calls
abbrev pub entry_name : Entry → List ℕ
entry_name Update = codes "update"
entry_name CrtStart = codes "_start"
entry_name Initialize = codes "_initialize"
entry_name Start = codes "start"

-- the number of each type
abbrev pub type_numbers : WasmModule → List ℕ
type_numbers m = map (number_of_type m.types) m.types

pub record IsKept (m : WasmModule) (filled : List (Option ℕ)) (firsts : List Val) (functions : List Call)
    (operands : List ℕ) : Type 0 where
  pub profile : profile_refusal m ≡ None
  pub valid : IsValid m
  pub table : filled ≡ table_of m
  pub globals : firsts ≡ first_globals m
  pub calls : AreCalls m (callees m) functions
  pub numbers : operands ≡ type_numbers m
  pub bound : length (marks m) < 2 ^ 32
