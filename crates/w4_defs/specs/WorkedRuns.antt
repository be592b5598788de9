-- Worked cases of the evaluation, each by computation, on pages that are as short as the case allows.
use Rattle.std.specs.Prelude.{◌≡◌, ℕ, List, [], ◌∷◌, ◌++◌, None, codes, replicate, refl}
use Rattle.w4_defs.specs.declared.value.ValType.TheVariants as type
use Rattle.w4_defs.specs.declared.value.Cause.TheVariants as cause
use Rattle.w4_defs.specs.declared.value.Limits.{Limits}
use Rattle.w4_defs.specs.declared.module.ImportKind.TheVariants.{Func}
use Rattle.w4_defs.specs.declared.operation.Op.{Op}
use Rattle.w4_defs.specs.declared.operation.Op.TheVariants as op
use Rattle.w4_defs.specs.declared.basic.Basic.TheVariants.{I32Const, I32Load8U, I32Add, I32Store8, I32LtU, I32Load, I32Store, I32Store16, MemoryCopy, MemoryFill, MemorySize, MemoryGrow}
use Rattle.w4_defs.specs.Tree.{Expr, done, block, loop, if_else, sequence}
use Rattle.w4_defs.specs.Module.{Signature, WasmModule, nothing_to_nothing}
use Rattle.w4_defs.specs.Imports.{import_module, returns_i32, takes_i32s}
use Rattle.w4_defs.specs.Outcome.{Store, HostFunctions, Ended, RunDone, RunTrap, RunSpent}
use Rattle.w4_defs.specs.Program.{reserve_of}
use Rattle.w4_defs.specs.Evaluation.{run_entry, eval, eval_within}

abbrev pub i32_const : ℕ → Op
i32_const n = op.Basic (I32Const n)

-- a module with these types and tables, an import `trace`, and one own function, number 1, with this body
abbrev pub worked_module : List Signature → List Limits → Expr → WasmModule
worked_module types tables body = record {
  types = nothing_to_nothing ∷ (takes_i32s 1 ∷ types);
  imports = record { module_name = import_module; name = codes "trace"; kind = Func 1 } ∷ [];
  functions = 0 ∷ [];
  tables = tables;
  memories = [];
  globals = [];
  exports = [];
  start = None;
  elements = record { table = 0; offset = sequence (i32_const 0 ∷ []); functions = 1 ∷ [] } ∷ [];
  bodies = record { runs = []; list = body } ∷ [];
  segments = [];
}

-- each import weighs 256 and leaves its arguments as the page
abbrev pub marking : HostFunctions (Unit {0})
marking = record {
  weight = λ h i args page. 256;
  effect = λ h i args page. record { page = args; host = h; answer = None };
}

abbrev pub worked_store : List ℕ → Store (Unit {0})
worked_store page = record { page = page; globals = []; host = tt }

-- the run of the own function with this body, on this page, with this budget
abbrev pub worked_run : Expr → List ℕ → ℕ → Ended (Unit {0})
worked_run body page budget = run_entry (worked_module [] [] body) marking 1 (worked_store page) budget

-- ---- the budget

-- each instruction takes one unit before its effect
abbrev pub NopsTakeUnits : Type 0
NopsTakeUnits =
    (worked_run (sequence (op.Nop ∷ op.Nop ∷ op.Nop ∷ [])) [] 3 ≡ RunDone (worked_store []) 0)
    × (worked_run (sequence (op.Nop ∷ op.Nop ∷ op.Nop ∷ [])) [] 2 ≡ RunSpent (worked_store []))

pub nops_take_units : NopsTakeUnits
unfolding eval eval_within
nops_take_units = (refl, refl)

-- also one that traps
abbrev pub TrapTakesUnit : Type 0
TrapTakesUnit =
    (worked_run (sequence (op.Unreachable ∷ [])) [] 0 ≡ RunSpent (worked_store []))
    × (worked_run (sequence (op.Unreachable ∷ [])) [] 1 ≡ RunTrap cause.Unreachable (worked_store []))

pub trap_takes_unit : TrapTakesUnit
unfolding eval eval_within
trap_takes_unit = (refl, refl)

-- an endless loop is spent
abbrev pub EndlessLoopIsSpent : Type 0
EndlessLoopIsSpent = worked_run (loop None (sequence (op.Br 0 ∷ [])) done) [] 100 ≡ RunSpent (worked_store [])

pub endless_loop_is_spent : EndlessLoopIsSpent
unfolding eval eval_within
endless_loop_is_spent = refl

-- a branch back doesn't charge the loop again: three turns of eleven instructions, counted in the page,
-- take 34 units
abbrev pub counting : Expr
counting =
    loop None (sequence (i32_const 0 ∷ i32_const 0 ∷ op.Basic (I32Load8U 0 0) ∷ i32_const 1 ∷ op.Basic I32Add
    ∷ op.Basic (I32Store8 0 0)
    ∷ i32_const 0 ∷ op.Basic (I32Load8U 0 0) ∷ i32_const 3 ∷ op.Basic I32LtU ∷ op.BrIf 0 ∷ [])) done

abbrev pub LoopIsChargedOnce : Type 0
LoopIsChargedOnce =
    (worked_run counting (0 ∷ []) 34 ≡ RunDone (worked_store (3 ∷ [])) 0)
    × (worked_run counting (0 ∷ []) 33 ≡ RunSpent (worked_store (3 ∷ [])))

pub loop_is_charged_once : LoopIsChargedOnce
unfolding eval eval_within
loop_is_charged_once = (refl, refl)

-- an import's weight is taken besides its unit, and before its effect
abbrev pub ImportTakesWeight : Type 0
ImportTakesWeight =
    (worked_run (sequence (i32_const 8 ∷ op.Call 0 ∷ [])) [] 258 ≡ RunDone (worked_store (8 ∷ [])) 0)
    × (worked_run (sequence (i32_const 8 ∷ op.Call 0 ∷ [])) [] 257 ≡ RunSpent (worked_store []))

pub import_takes_weight : ImportTakesWeight
unfolding eval eval_within
import_takes_weight = (refl, refl)

-- ---- the page

-- a load or a store past the end traps, and a store that traps changes nothing
abbrev pub PastTheEndTraps : Type 0
PastTheEndTraps =
    (worked_run (sequence (i32_const 65535 ∷ op.Basic (I32Load 2 0) ∷ op.Drop ∷ [])) [] 9
    ≡ RunTrap cause.Memory (worked_store []))
    × (worked_run (sequence (i32_const 4294967295 ∷ op.Basic (I32Load8U 0 1) ∷ op.Drop ∷ [])) [] 9
    ≡ RunTrap cause.Memory (worked_store []))
    × (worked_run (sequence (i32_const 0 ∷ i32_const 5 ∷ op.Basic (I32Store8 0 0) ∷ i32_const 65533
    ∷ i32_const 4294967295 ∷ op.Basic (I32Store 2 0) ∷ []))
    (9 ∷ (9 ∷ [])) 9 ≡ RunTrap cause.Memory (worked_store (5 ∷ (9 ∷ []))))

pub past_the_end_traps : PastTheEndTraps
unfolding eval eval_within
past_the_end_traps = (refl, refl, refl)

-- numbers are little-endian, and a narrow store keeps the low bytes
abbrev pub StoresAreLittleEndian : Type 0
StoresAreLittleEndian =
    worked_run (sequence (i32_const 1 ∷ i32_const 0x12345678 ∷ op.Basic (I32Store16 1 0) ∷ []))
    (0 ∷ (0 ∷ (0 ∷ (0 ∷ [])))) 3
    ≡ RunDone (worked_store (0 ∷ (0x78 ∷ (0x56 ∷ (0 ∷ []))))) 0

pub stores_are_little_endian : StoresAreLittleEndian
unfolding eval eval_within
stores_are_little_endian = refl

-- a copy onto itself: the bytes become those that stood
abbrev pub CopyTakesOldBytes : Type 0
CopyTakesOldBytes =
    (worked_run (sequence (i32_const 1 ∷ i32_const 0 ∷ i32_const 5 ∷ op.Basic MemoryCopy ∷ []))
    (0 ∷ (1 ∷ (2 ∷ (3 ∷ (4 ∷ (5 ∷ (6 ∷ []))))))) 4
    ≡ RunDone (worked_store (0 ∷ (0 ∷ (1 ∷ (2 ∷ (3 ∷ (4 ∷ (6 ∷ [])))))))) 0)
    × (worked_run (sequence (i32_const 0 ∷ i32_const 1 ∷ i32_const 5 ∷ op.Basic MemoryCopy ∷ []))
    (0 ∷ (1 ∷ (2 ∷ (3 ∷ (4 ∷ (5 ∷ (6 ∷ []))))))) 4
    ≡ RunDone (worked_store (1 ∷ (2 ∷ (3 ∷ (4 ∷ (5 ∷ (5 ∷ (6 ∷ [])))))))) 0)

pub copy_takes_old_bytes : CopyTakesOldBytes
unfolding eval eval_within
copy_takes_old_bytes = (refl, refl)

-- a fill of n bytes with the value's low byte takes floor(n / 64) further units, and has no effect where
-- fewer are left
abbrev pub filling : ℕ → Expr
filling n = sequence (i32_const 0 ∷ i32_const 0x107 ∷ i32_const n ∷ op.Basic MemoryFill ∷ [])

abbrev pub FillTakesFurtherUnits : Type 0
FillTakesFurtherUnits =
    (worked_run (filling 63) (replicate 128 0) 4
    ≡ RunDone (worked_store (replicate 63 7 ++ replicate 65 0)) 0)
    × (worked_run (filling 64) (replicate 128 0) 4 ≡ RunSpent (worked_store (replicate 128 0)))
    × (worked_run (filling 64) (replicate 128 0) 5
    ≡ RunDone (worked_store (replicate 64 7 ++ replicate 64 0)) 0)
    × (worked_run (filling 128) (replicate 128 0) 5 ≡ RunSpent (worked_store (replicate 128 0)))
    × (worked_run (filling 128) (replicate 128 0) 6 ≡ RunDone (worked_store (replicate 128 7)) 0)

pub fill_takes_further_units : FillTakesFurtherUnits
unfolding eval eval_within
fill_takes_further_units = (refl, refl, refl, refl, refl)

-- one that runs past the end traps whatever is left, and takes no further units
abbrev pub FillPastTheEndTraps : Type 0
FillPastTheEndTraps =
    worked_run (sequence (i32_const 65500 ∷ i32_const 7 ∷ i32_const 64 ∷ op.Basic MemoryFill ∷ [])) (0 ∷ []) 4
    ≡ RunTrap cause.Memory (worked_store (0 ∷ []))

pub fill_past_the_end_traps : FillPastTheEndTraps
unfolding eval eval_within
fill_past_the_end_traps = refl

-- there is one page, and no more is granted
abbrev pub MemoryIsOnePage : Type 0
MemoryIsOnePage =
    worked_run (sequence (i32_const 0 ∷ op.Basic MemorySize ∷ op.Basic (I32Store8 0 0)
    ∷ i32_const 1 ∷ i32_const 0 ∷ op.Basic MemoryGrow ∷ op.Basic (I32Store8 0 0)
    ∷ i32_const 2 ∷ i32_const 1 ∷ op.Basic MemoryGrow ∷ op.Basic (I32Store 0 0) ∷ []))
    (0 ∷ (0 ∷ (0 ∷ (0 ∷ (0 ∷ (0 ∷ [])))))) 11
    ≡ RunDone (worked_store (1 ∷ (1 ∷ (255 ∷ (255 ∷ (255 ∷ (255 ∷ []))))))) 0

pub memory_is_one_page : MemoryIsOnePage
unfolding eval eval_within
memory_is_one_page = refl

-- ---- calls

-- 4,096 functions may be active: the 4,096th nested call traps, after its unit
abbrev pub DepthIsBounded : Type 0
DepthIsBounded =
    (worked_run (sequence (op.Call 1 ∷ [])) [] 4095 ≡ RunSpent (worked_store []))
    × (worked_run (sequence (op.Call 1 ∷ [])) [] 4096 ≡ RunTrap cause.Stack (worked_store []))

pub depth_is_bounded : DepthIsBounded
unfolding eval eval_within
depth_is_bounded = (refl, refl)

-- a table of two elements, of which the first holds function 1, of type 0
abbrev pub run_indirect : ℕ → ℕ → ℕ → Ended (Unit {0})
run_indirect t index budget = run_entry
    (worked_module (returns_i32 0 ∷ []) (record { least = 2; greatest = None } ∷ [])
    (sequence (i32_const index ∷ op.CallIndirect t 0 ∷ []))) marking 1 (worked_store []) budget

abbrev pub IndirectCallsAreJudged : Type 0
IndirectCallsAreJudged =
    (run_indirect 0 2 9 ≡ RunTrap cause.Table (worked_store []))
    × (run_indirect 0 1 9 ≡ RunTrap cause.EmptyEntry (worked_store []))
    × (run_indirect 2 0 9 ≡ RunTrap cause.Type_ (worked_store []))
    × (run_indirect 0 0 9 ≡ RunSpent (worked_store []))

pub indirect_calls_are_judged : IndirectCallsAreJudged
unfolding eval eval_within
indirect_calls_are_judged = (refl, refl, refl, refl)

-- parameters, locals and instructions at every depth; `else` and `end` aren't counted
abbrev pub ReserveCounts : Type 0
ReserveCounts =
    reserve_of (record {
      signature = record { params = type.I32 ∷ (type.I64 ∷ []); results = [] };
      function = record {
        runs = record { count = 3; kind = type.I32 } ∷ [];
        list = if_else None (sequence (op.Nop ∷ [])) (block None (sequence (op.Nop ∷ op.Nop ∷ [])) done)
            (sequence (op.Drop ∷ []));
      };
    })
    ≡ 11

pub reserve_counts : ReserveCounts
reserve_counts = refl
