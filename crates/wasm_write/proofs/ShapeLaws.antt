-- An instruction without floats is encoded by its code and its row.
use Rattle.std.proofs.Common.{◌≡◌, ℕ, refl}
use Rattle.w4_defs.specs.declared.basic.Basic.{Basic}
use Rattle.w4_defs.specs.declared.basic.Basic.TheVariants.{F32Const, F64Const, FloatMemory, FloatPlain}
use Rattle.w4_defs.specs.declared.basic.Basic.TheVariants.{FloatCut}
use Rattle.w4_defs.specs.InstructionTable.{opcode, row}
use Rattle.w4_defs.specs.EncodeInstruction.{shaped_bytes, basic_bytes}

pub shape_encodes : (i : Basic) → ((bits : ℕ) → i ≡ F32Const bits → ⊥) → ((bits : ℕ) → i ≡ F64Const bits → ⊥)
    → ((code align offset : ℕ) → i ≡ FloatMemory code align offset → ⊥)
    → ((code : ℕ) → i ≡ FloatPlain code → ⊥) → ((code : ℕ) → i ≡ FloatCut code → ⊥)
    → shaped_bytes (opcode i) (row i) ≡ basic_bytes i
shape_encodes (F32Const bits) f32 f64 access plain cut = absurd (f32 bits refl)
shape_encodes (F64Const bits) f32 f64 access plain cut = absurd (f64 bits refl)
shape_encodes (FloatMemory code align offset) f32 f64 access plain cut =
    absurd (access code align offset refl)
shape_encodes (FloatPlain code) f32 f64 access plain cut = absurd (plain code refl)
shape_encodes (FloatCut code) f32 f64 access plain cut = absurd (cut code refl)
shape_encodes _ f32 f64 access plain cut = refl
