-- Worked cases of the binary format and of typing: the smallest cart, whose `update` does nothing; the
-- same with a longer encoding of a size; and a body whose operands nobody pushes.
use Rattle.std.specs.Prelude.{◌≡◌, ℕ, List, [], ◌∷◌, ◌++◌, codes, None}
use Rattle.w4_defs.specs.declared.operation.Op.TheVariants.{Unreachable, Drop, Basic}
use Rattle.w4_defs.specs.declared.basic.Basic.TheVariants.{I32Add, I64Const}
use Rattle.w4_defs.specs.declared.module.ImportKind.TheVariants as imports
use Rattle.w4_defs.specs.declared.module.ExportKind.TheVariants as exports
use Rattle.w4_defs.specs.declared.refusal.CartKind.TheVariants.{Profile}
use Rattle.w4_defs.specs.declared.refusal.ProfileRefusal.TheVariants.{NoMemory}
use Rattle.w4_defs.specs.Tree.{Expr, mark, done, plain}
use Rattle.w4_defs.specs.Module.{Function, WasmModule, nothing_to_nothing}
use Rattle.w4_defs.specs.Imports.{import_module, memory_name}
use Rattle.w4_defs.specs.BinaryModule.{preamble, SpellsModule}
use Rattle.w4_defs.specs.Typing.{body_context, BodyHasType}
use Rattle.w4_defs.specs.Cart.{IsRefused, IsCart}
use Rattle.w4_defs.specs.AbstractStack.{abstract_stack}

-- the preamble, a type, an import, a function and an export
abbrev pub empty_cart_head : List ℕ
empty_cart_head =
    0x00 ∷ 0x61 ∷ 0x73 ∷ 0x6d ∷ 0x01 ∷ 0x00 ∷ 0x00 ∷ 0x00
    ∷ 0x01 ∷ 0x04 ∷ 0x01 ∷ 0x60 ∷ 0x00 ∷ 0x00
    ∷ 0x02 ∷ 0x0f ∷ 0x01 ∷ 0x03 ∷ 0x65 ∷ 0x6e ∷ 0x76 ∷ 0x06 ∷ 0x6d ∷ 0x65 ∷ 0x6d ∷ 0x6f ∷ 0x72 ∷ 0x79 ∷ 0x02
    ∷ 0x00 ∷ 0x01
    ∷ 0x03 ∷ 0x02 ∷ 0x01 ∷ 0x00
    ∷ 0x07 ∷ 0x0a ∷ 0x01 ∷ 0x06 ∷ 0x75 ∷ 0x70 ∷ 0x64 ∷ 0x61 ∷ 0x74 ∷ 0x65 ∷ 0x00 ∷ 0x00 ∷ []

-- with its code section, 53 bytes
abbrev pub empty_cart : List ℕ
empty_cart = empty_cart_head ++ 0x0a ∷ 0x04 ∷ 0x01 ∷ 0x02 ∷ 0x00 ∷ 0x0b ∷ []

-- the size of the code section in five bytes
abbrev pub empty_cart_with_long_size : List ℕ
empty_cart_with_long_size =
    empty_cart_head ++ 0x0a ∷ 0x84 ∷ 0x80 ∷ 0x80 ∷ 0x80 ∷ 0x00 ∷ 0x01 ∷ 0x02 ∷ 0x00 ∷ 0x0b ∷ []

abbrev pub empty_module : WasmModule
empty_module =
    record {
      types = nothing_to_nothing ∷ [];
      imports =
          record {
            module_name = import_module;
            name = memory_name;
            kind = imports.Memory (record { least = 1; greatest = None });
          } ∷ [];
      functions = 0 ∷ [];
      tables = [];
      memories = [];
      globals = [];
      exports = record { name = codes "update"; kind = exports.Func; index = 0 } ∷ [];
      start = None;
      elements = [];
      bodies = record { runs = []; list = done } ∷ [];
      segments = [];
    }

abbrev pub EmptyCartIsSpelled : Type 0
EmptyCartIsSpelled = SpellsModule empty_cart empty_module

abbrev pub LongSizeIsSpelled : Type 0
LongSizeIsSpelled = SpellsModule empty_cart_with_long_size empty_module

-- with a data count section before the code section
abbrev pub empty_cart_with_data_count : List ℕ
empty_cart_with_data_count =
    empty_cart_head ++ 0x0c ∷ 0x01 ∷ 0x00 ∷ 0x0a ∷ 0x04 ∷ 0x01 ∷ 0x02 ∷ 0x00 ∷ 0x0b ∷ []

abbrev pub DataCountIsSpelled : Type 0
DataCountIsSpelled = SpellsModule empty_cart_with_data_count empty_module

-- a module without sections imports no memory
abbrev pub PreambleIsRefused : Type 0
PreambleIsRefused = IsRefused preamble (Profile NoMemory)

abbrev pub EmptyCartIsCart : Type 0
EmptyCartIsCart = IsCart empty_cart empty_module

-- unreachable, i32.add, drop
abbrev pub adds_nothing : Function
adds_nothing =
    record {
      runs = [];
      list = plain (mark Unreachable) (plain (mark (Basic I32Add)) (plain (mark Drop) done));
    }

-- unreachable, i64.const, i32.add, drop
abbrev pub adds_mixed : Expr
adds_mixed =
    plain (mark Unreachable)
    (plain (mark (Basic (I64Const 0))) (plain (mark (Basic I32Add)) (plain (mark Drop) done)))

abbrev pub UnreachableCodeHasType : Type 0
UnreachableCodeHasType = BodyHasType empty_module 0 adds_nothing

abbrev pub MixedCodeHasNoStack : Type 0
MixedCodeHasNoStack =
    abstract_stack (body_context empty_module nothing_to_nothing adds_nothing) adds_mixed ≡ None
