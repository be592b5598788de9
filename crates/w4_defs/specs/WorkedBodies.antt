-- Worked bodies of small carts, each run by computation on a page that is as short as the case allows.
use Rattle.std.specs.Prelude.{◌≡◌, ℕ, List, [], ◌∷◌, ◌++◌, replicate, refl}
use Rattle.w4_defs.specs.declared.value.Cause.TheVariants as cause
use Rattle.w4_defs.specs.declared.operation.Op.TheVariants as op
use Rattle.w4_defs.specs.declared.basic.Basic.TheVariants.{I32Load8U, I32Add, I32Extend8S, I32Store, MemoryCopy}
use Rattle.w4_defs.specs.Tree.{Expr, sequence}
use Rattle.w4_defs.specs.Outcome.{RunDone, RunTrap}
use Rattle.w4_defs.specs.Evaluation.{eval, eval_within}
use Rattle.w4_defs.specs.MemoryMap.{palette}
use Rattle.w4_defs.specs.WorkedRuns.{i32_const, worked_store, worked_run}

-- it loads at 65,535 plus gamepad 1: the page's last byte, or past it
abbrev pub loading : Expr
loading =
    sequence (i32_const 65535 ∷ i32_const 22 ∷ op.Basic (I32Load8U 0 0) ∷ op.Basic I32Add
    ∷ op.Basic (I32Load8U 0 0) ∷ op.Drop ∷ [])

-- a page that ends with gamepad 1
abbrev pub page_to_pad : ℕ → List ℕ
page_to_pad pad = replicate 22 0 ++ pad ∷ []

abbrev pub LastByteIsLoaded : Type 0
LastByteIsLoaded =
    (worked_run loading (page_to_pad 0) 6 ≡ RunDone (worked_store (page_to_pad 0)) 0)
    × (worked_run loading (page_to_pad 1) 6 ≡ RunTrap cause.Memory (worked_store (page_to_pad 1)))

pub last_byte_is_loaded : LastByteIsLoaded
unfolding eval eval_within
last_byte_is_loaded = (refl, refl)

-- 128 as a signed byte, stored as 32 bits
abbrev pub ByteIsExtended : Type 0
ByteIsExtended =
    worked_run (sequence (i32_const 0 ∷ i32_const 128 ∷ op.Basic I32Extend8S ∷ op.Basic (I32Store 2 0) ∷ []))
    (replicate 4 0) 4
    ≡ RunDone (worked_store (128 ∷ 255 ∷ 255 ∷ 255 ∷ [])) 0

pub byte_is_extended : ByteIsExtended
unfolding eval eval_within
byte_is_extended = refl

-- three bytes from address 4 are copied over themselves to 5, so that palette entry 0 is f8 cf cf
abbrev pub shifted_page : List ℕ
shifted_page = 0 ∷ 0 ∷ 0 ∷ 0 ∷ 207 ∷ 207 ∷ 248 ∷ 224 ∷ []

abbrev pub PaletteIsCopied : Type 0
PaletteIsCopied =
    (worked_run (sequence (i32_const 5 ∷ i32_const 4 ∷ i32_const 3 ∷ op.Basic MemoryCopy ∷ []))
    (0 ∷ 0 ∷ 0 ∷ 0 ∷ 207 ∷ 248 ∷ 224 ∷ 0 ∷ []) 4 ≡ RunDone (worked_store shifted_page) 0)
    × (palette shifted_page 0 ≡ 248 ∷ 207 ∷ 207 ∷ [])

pub palette_is_copied : PaletteIsCopied
unfolding eval eval_within
palette_is_copied = (refl, refl)

-- a copy of four bytes to 65,533 would pass the page's end, and changes nothing
abbrev pub CopyPastTheEndTraps : Type 0
CopyPastTheEndTraps =
    worked_run (sequence (i32_const 65533 ∷ i32_const 0 ∷ i32_const 4 ∷ op.Basic MemoryCopy ∷ []))
    (7 ∷ 8 ∷ []) 4
    ≡ RunTrap cause.Memory (worked_store (7 ∷ 8 ∷ []))

pub copy_past_the_end_traps : CopyPastTheEndTraps
unfolding eval eval_within
copy_past_the_end_traps = refl
