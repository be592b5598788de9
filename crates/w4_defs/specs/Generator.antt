-- The generator (project rule): from a number, a made cart and its inputs, as a large valid case that anyone
-- can make again. A linear congruential generator (Numerical Recipes in C, second edition, section 7.1) gives
-- the draws: the next number is 1664525 times the last and 1013904223 more, modulo 2^32, and a draw is its
-- upper 16 bits. The made cart has 64 small functions of three draws each; its `update` calls each of them on
-- a word of the page and on gamepad 1, and then draws a rectangle. Each frame's gamepad 1 is one more draw.
use Rattle.std.specs.Prelude.{◌≡◌, ℕ, zero, suc, ◌+◌, ◌*◌, ◌/◌, ◌%◌, ◌^◌, List, [], ◌∷◌, ◌++◌, map, flat_map, replicate, slice_index_or, codes, pos, Some, None, false, refl}
use Rattle.std.specs.List.{range_with_len}
use Rattle.w4_defs.specs.declared.console.Input.{Input}
use Rattle.w4_defs.specs.declared.operation.Op.{Op}
use Rattle.w4_defs.specs.declared.operation.Op.TheVariants.{LocalGet, Call, Basic}
use Rattle.w4_defs.specs.declared.basic.Basic.TheVariants.{I32Const, I32Load, I32Load8U, I32Store, I32Add, I32Sub, I32Mul, I32And, I32Or, I32Xor, I32Shl, I32ShrS, I32ShrU, I32Rotl, I32Rotr}
use Rattle.w4_defs.specs.declared.module.ImportKind.TheVariants as imports
use Rattle.w4_defs.specs.declared.module.ExportKind.TheVariants as exports
use Rattle.w4_defs.specs.Tree.{sequence}
use Rattle.w4_defs.specs.Module.{Signature, Imported, Function, WasmModule, nothing_to_nothing}
use Rattle.w4_defs.specs.Imports.{import_module, memory_name, returns_i32, takes_i32s}

-- the generator's number after so many draws
unfoldable pub seed_after : ℕ → ℕ → ℕ
seed_after number zero = number
seed_after number (suc draws) = (seed_after number draws * 1664525 + 1013904223) % 2 ^ 32

-- draw k of a number, counted from 0
abbrev pub draw : ℕ → ℕ → ℕ
draw number k = seed_after number (suc k) / 65536

-- the operations that a draw chooses from, in the order of their codes: 6a to 6c, and 71 to 78
abbrev pub operations : List Op
operations = map Basic (I32Add ∷ I32Sub ∷ I32Mul ∷ I32And ∷ I32Or ∷ I32Xor ∷ I32Shl ∷ I32ShrS ∷ I32ShrU
    ∷ I32Rotl ∷ I32Rotr ∷ [])

abbrev pub chosen : ℕ → Op
chosen drawn = slice_index_or operations (drawn % 11) (Basic I32Add)

-- how many small functions there are, and how many frames
abbrev pub small_functions : ℕ
small_functions = 64

abbrev pub made_frames : ℕ
made_frames = 600

-- small function g: its two parameters, the operation of draw 3g, the number of the draw after it, and the
-- operation of the one after that
unfoldable pub small_function : ℕ → ℕ → Function
small_function number g = record {
  runs = [];
  list = sequence
      (LocalGet 0 ∷ LocalGet 1 ∷ chosen (draw number (3 * g)) ∷ Basic (I32Const (draw number (3 * g + 1)))
      ∷ chosen (draw number (3 * g + 2)) ∷ []);
}

-- word g behind the framebuffer becomes function g + 1 of itself and of gamepad 1
abbrev pub step_of : ℕ → List Op
step_of g =
    Basic (I32Const (6560 + 4 * g))
    ∷ Basic (I32Const (6560 + 4 * g)) ∷ Basic (I32Load 2 0)
    ∷ Basic (I32Const 22) ∷ Basic (I32Load8U 0 0)
    ∷ Call (g + 1)
    ∷ Basic (I32Store 2 0)
    ∷ []

-- the byte at an address
abbrev pub byte_at : ℕ → List Op
byte_at address = Basic (I32Const address) ∷ Basic (I32Load8U 0 0) ∷ []

-- all steps, and then a rectangle whose place and size are the lowest bytes of the first four words
unfoldable pub update_function : Function
update_function = record {
  runs = [];
  list = sequence
      (flat_map step_of (range_with_len 0 small_functions)
      ++ flat_map byte_at (6560 ∷ 6564 ∷ 6568 ∷ 6572 ∷ [])
      ++ Call 0 ∷ []);
}

-- nothing to nothing, two i32 to an i32, and four i32 to nothing
abbrev pub made_types : List Signature
made_types =
    nothing_to_nothing ∷ returns_i32 2 ∷ takes_i32s 4 ∷ []

-- `rect`, which is function 0, and a memory of exactly one page
abbrev pub made_imports : List Imported
made_imports =
    record { module_name = import_module; name = codes "rect"; kind = imports.Func 2 }
    ∷ record {
      module_name = import_module;
      name = memory_name;
      kind = imports.Memory (record { least = 1; greatest = Some 1 });
    }
    ∷ []

-- the made cart's module
abbrev pub made_module : ℕ → WasmModule
made_module number = record {
  types = made_types;
  imports = made_imports;
  functions = replicate small_functions 1 ++ 0 ∷ [];
  tables = [];
  memories = [];
  globals = [];
  exports = record { name = codes "update"; kind = exports.Func; index = 65 } ∷ [];
  start = None;
  elements = [];
  bodies = map (small_function number) (range_with_len 0 small_functions) ++ update_function ∷ [];
  segments = [];
}

-- frame k's input: gamepad 1 is the lowest byte of the draw after the 192 of the functions, all else is 0
abbrev pub made_input : ℕ → ℕ → Input
made_input number k = record {
  pads = draw number (3 * small_functions + k) % 256 ∷ 0 ∷ 0 ∷ 0 ∷ [];
  mouse_x = pos 0;
  mouse_y = pos 0;
  buttons = 0;
  reset = false;
}

unfoldable pub made_inputs : ℕ → List Input
made_inputs number = map (made_input number) (range_with_len 0 made_frames)

-- the budget of the reset and of each frame
abbrev pub made_budget : ℕ
made_budget = 100000

-- Worked cases: number 0 draws 15,470, 18,256 and 53,708 first, so that its first function is `local.get 0`,
-- `local.get 1`, `i32.or`, `i32.const 18256`, `i32.shl`; its 193rd draw is 65,044, so that its first frame
-- has gamepad 1 at 20. Of number 4,294,967,295, whose first step wraps: the draws of its first and last small
-- functions and of its first and last frames, and these.
abbrev pub GeneratorCases : Type 0
GeneratorCases =
    (map (draw 0) (0 ∷ 1 ∷ 2 ∷ 192 ∷ []) ≡ 15470 ∷ 18256 ∷ 53708 ∷ 65044 ∷ [])
    × (small_function 0 0 ≡ record {
      runs = [];
      list = sequence (LocalGet 0 ∷ LocalGet 1 ∷ Basic I32Or ∷ Basic (I32Const 18256) ∷ Basic I32Shl ∷ []);
    })
    × ((made_input 0 0).pads ≡ 20 ∷ 0 ∷ 0 ∷ 0 ∷ [])
    × (map (draw 4294967295) (0 ∷ 1 ∷ 2 ∷ 189 ∷ 190 ∷ 191 ∷ 192 ∷ 791 ∷ [])
    ≡ 15445 ∷ 12311 ∷ 8835 ∷ 43465 ∷ 21507 ∷ 48829 ∷ 9397 ∷ 46152 ∷ [])
    × (small_function 4294967295 0 ≡ record {
      runs = [];
      list = sequence (LocalGet 0 ∷ LocalGet 1 ∷ Basic I32Sub ∷ Basic (I32Const 12311) ∷ Basic I32Mul ∷ []);
    })
    × (small_function 4294967295 63 ≡ record {
      runs = [];
      list = sequence (LocalGet 0 ∷ LocalGet 1 ∷ Basic I32Or ∷ Basic (I32Const 21507) ∷ Basic I32Add ∷ []);
    })
    × ((made_input 4294967295 0).pads ≡ 181 ∷ 0 ∷ 0 ∷ 0 ∷ [])
    × ((made_input 4294967295 599).pads ≡ 72 ∷ 0 ∷ 0 ∷ 0 ∷ [])

pub generator-cases : GeneratorCases
unfolding seed_after small_function
generator-cases = (refl, refl, refl, refl, refl, refl, refl, refl)
