-- Worked cases of calls, globals and branches, each by computation: a function of two arguments with a
-- result, a global, a branch that keeps a value, an indirect call of an import, and the stack rule at its two
-- bounds.
use Rattle.std.specs.Prelude.{◌≡◌, ℕ, List, [], ◌∷◌, true, false, Some, None, codes, refl}
use Rattle.w4_defs.specs.declared.value.Val.TheVariants as val
use Rattle.w4_defs.specs.declared.value.ValType.TheVariants as type
use Rattle.w4_defs.specs.declared.module.ImportKind.TheVariants.{Func}
use Rattle.w4_defs.specs.declared.operation.Op.TheVariants as op
use Rattle.w4_defs.specs.declared.basic.Basic.TheVariants.{I32Sub, I32Store8, I32Add}
use Rattle.w4_defs.specs.Tree.{Expr, mark, done, plain, block, sequence}
use Rattle.w4_defs.specs.Module.{WasmModule, nothing_to_nothing}
use Rattle.w4_defs.specs.Imports.{import_module, returns_i32, takes_i32s}
use Rattle.w4_defs.specs.Outcome.{Store, Ended, RunDone, RunSpent}
use Rattle.w4_defs.specs.Program.{Own}
use Rattle.w4_defs.specs.Evaluation.{Env, allowed, run_entry, eval, eval_within}
use Rattle.w4_defs.specs.WorkedRuns.{i32_const, marking}

-- function 0 is the import `trace`, which a table of one element holds too; function 1 takes nothing;
-- function 2 takes two numbers and answers their difference; there is one global
abbrev pub two_functions : Expr → WasmModule
two_functions body = record {
  types =
      nothing_to_nothing
      ∷ takes_i32s 1
      ∷ returns_i32 2 ∷ [];
  imports = record { module_name = import_module; name = codes "trace"; kind = Func 1 } ∷ [];
  functions = 0 ∷ 2 ∷ [];
  tables = record { least = 1; greatest = None } ∷ [];
  memories = [];
  globals = record {
    global = record { value = type.I32; mutable = true };
    first = sequence (i32_const 5 ∷ []);
  } ∷ [];
  exports = [];
  start = None;
  elements = record { table = 0; offset = sequence (i32_const 0 ∷ []); functions = 0 ∷ [] } ∷ [];
  bodies =
      record { runs = []; list = body }
      ∷ record { runs = []; list = sequence (op.LocalGet 0 ∷ op.LocalGet 1 ∷ op.Basic I32Sub ∷ []) } ∷ [];
  segments = [];
}

abbrev pub stored : List ℕ → ℕ → Store (Unit {0})
stored page global = record { page = page; globals = val.I32 global ∷ []; host = tt }

-- the run of function 1 with this body, on a page of one byte, where the global is 5
abbrev pub run_first : Expr → ℕ → Ended (Unit {0})
run_first body budget = run_entry (two_functions body) marking 1 (stored (0 ∷ []) 5) budget

-- 7 less 2: the first argument is the one that was pushed first
abbrev pub subtracting : Expr
subtracting = sequence (i32_const 0 ∷ i32_const 7 ∷ i32_const 2 ∷ op.Call 2 ∷ op.Basic (I32Store8 0 0) ∷ [])

abbrev pub ArgumentsAreInOrder : Type 0
ArgumentsAreInOrder =
    (run_first subtracting 8 ≡ RunDone (stored (5 ∷ []) 5) 0)
    × (run_first subtracting 7 ≡ RunSpent (stored (0 ∷ []) 5))

pub arguments_are_in_order : ArgumentsAreInOrder
unfolding eval eval_within
arguments_are_in_order = (refl, refl)

-- the global is read, set to one more, and read again
abbrev pub GlobalIsSet : Type 0
GlobalIsSet =
    run_first
    (sequence (i32_const 0 ∷ op.GlobalGet 0 ∷ i32_const 1 ∷ op.Basic I32Add ∷ op.GlobalSet 0 ∷ op.GlobalGet 0
    ∷ op.Basic (I32Store8 0 0) ∷ []))
    7 ≡ RunDone (stored (6 ∷ []) 6) 0

pub global_is_set : GlobalIsSet
unfolding eval eval_within
global_is_set = refl

-- a block with a result: the branch takes 9 along; where it isn't taken, 9 stays as an operand
abbrev pub keeping : ℕ → Expr
keeping condition =
    plain
    (mark (i32_const 0))
    (block
    (Some type.I32)
    (sequence (i32_const 9 ∷ i32_const condition ∷ op.BrIf 0 ∷ i32_const 4 ∷ op.Basic I32Add ∷ []))
    (sequence (op.Basic (I32Store8 0 0) ∷ [])))

abbrev pub BranchKeepsValue : Type 0
BranchKeepsValue =
    (run_first (keeping 1) 6 ≡ RunDone (stored (9 ∷ []) 5) 0)
    × (run_first (keeping 0) 8 ≡ RunDone (stored (13 ∷ []) 5) 0)

pub branch_keeps_value : BranchKeepsValue
unfolding eval eval_within
branch_keeps_value = (refl, refl)

-- an import that a table holds has its weight, 256, and its effect
abbrev pub tracing : Expr
tracing = sequence (i32_const 77 ∷ i32_const 0 ∷ op.CallIndirect 1 0 ∷ [])

abbrev pub ImportIsCalledIndirectly : Type 0
ImportIsCalledIndirectly =
    (run_first tracing 259 ≡ RunDone (stored (77 ∷ []) 5) 0)
    × (run_first tracing 258 ≡ RunSpent (stored (0 ∷ []) 5))

pub import_is_called_indirectly : ImportIsCalledIndirectly
unfolding eval eval_within
import_is_called_indirectly = (refl, refl)

-- reserves up to 1,048,576 in sum and 4,096 active functions are allowed, and one more of either isn't
abbrev pub thousand_locals : Own
thousand_locals = record {
  signature = nothing_to_nothing;
  function = record { runs = record { count = 1000; kind = type.I32 } ∷ []; list = done };
}

abbrev pub standing : ℕ → ℕ → Env
standing depth reserve = record { labels = []; results = 0; depth = depth; reserve = reserve }

abbrev pub StackRuleHasTwoBounds : Type 0
StackRuleHasTwoBounds =
    (allowed thousand_locals (standing 4095 1047576) ≡ true)
    × (allowed thousand_locals (standing 4095 1047577) ≡ false)
    × (allowed thousand_locals (standing 4096 1047576) ≡ false)

pub stack_rule_has_two_bounds : StackRuleHasTwoBounds
stack_rule_has_two_bounds = (refl, refl, refl)
