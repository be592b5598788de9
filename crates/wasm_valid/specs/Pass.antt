-- The pass over the marks of a flattening: one abstract stack for each open block, the innermost first. A
-- mark that opens a block begins an abstract stack, and one that closes it asks whether the abstract stack
-- stands for the block's results.
use Rattle.std.specs.Prelude.{◌≡◌, ℕ, cond, List, [], ◌∷◌, Option, Some, None, option_map, option_and_then}
use Rattle.w4_defs.specs.declared.value.ValType.{ValType}
use Rattle.w4_defs.specs.declared.value.ValType.TheVariants.{I32}
use Rattle.w4_defs.specs.declared.operation.Op.{Op}
use Rattle.w4_defs.specs.declared.operation.Op.TheVariants.{Block, Loop, If, Else, End}
use Rattle.w4_defs.specs.Tree.{Mark, flat}
use Rattle.w4_defs.specs.Flattening.{IsProper}
use Rattle.w4_defs.specs.Module.{Signature, Function, WasmModule}
use Rattle.w4_defs.specs.Typing.{Context, body_context}
use Rattle.w4_defs.specs.ValueTypes.{result_types}
use Rattle.w4_defs.specs.AbstractStack.{AbstractStack, empty, stands, taken, given, step}
use Rattle.wasm_valid.specs.AbstractStackLaw.{body_stands}

-- an open block: the types of its label and of its results, and its abstract stack so far
pub record OpenBlock : Type 0 where
  pub label : List ValType
  pub result : List ValType
  pub stack : AbstractStack

abbrev pub opened : List ValType → List ValType → OpenBlock
opened label result = record { label = label; result = result; stack = empty }

abbrev pub with_stack : OpenBlock → AbstractStack → OpenBlock
with_stack o s = record o { stack = s }

abbrev pub label_types : List OpenBlock → List (List ValType)
label_types [] = []
label_types (o ∷ os) = o.label ∷ label_types os

abbrev pub context : Context → List OpenBlock → Context
context c os = record c { labels = label_types os }

-- the innermost list is closed, and its results go to the next
abbrev pub closed : OpenBlock → List OpenBlock → Option (List OpenBlock)
closed o [] = cond (stands o.stack o.result) (Some []) None
closed o (p ∷ os) = cond (stands o.stack o.result) (Some (with_stack p (given o.result p.stack) ∷ os)) None

-- a condition is taken, and a list is opened
abbrev pub chosen_list : List ValType → OpenBlock → List OpenBlock → Option (List OpenBlock)
chosen_list result o os =
    option_map (λ s. opened result result ∷ with_stack o s ∷ os) (taken (I32 ∷ []) o.stack)

abbrev pub opened_if : Option ValType → OpenBlock → List OpenBlock → Option (List OpenBlock)
opened_if None o os = chosen_list [] o os
opened_if (Some t) o os = None

-- the open lists after a mark
abbrev pub blocks_after_mark : Context → Op → List ℕ → OpenBlock → List OpenBlock → Option (List OpenBlock)
blocks_after_mark c (Block r end) labels o os = Some (opened (result_types r) (result_types r) ∷ o ∷ os)
blocks_after_mark c (Loop r end) labels o os = Some (opened [] (result_types r) ∷ o ∷ os)
blocks_after_mark c (If r None end) labels o os = opened_if r o os
blocks_after_mark c (If r (Some other) end) labels o os = chosen_list (result_types r) o os
blocks_after_mark c Else labels o os =
    cond (stands o.stack o.result) (Some (opened o.label o.result ∷ os)) None
blocks_after_mark c End labels o os = closed o os
blocks_after_mark c op labels o os =
    option_map (λ s. with_stack o s ∷ os) (step (context c (o ∷ os)) op labels o.stack)

abbrev pub blocks_after : Context → List Mark → List OpenBlock → Option (List OpenBlock)
blocks_after c [] os = Some os
blocks_after c (m ∷ ms) [] = None
blocks_after c (m ∷ ms) (o ∷ os) = option_and_then (blocks_after c ms) (blocks_after_mark c m.0 m.1 o os)

-- the pass over a body comes to its end, with no list open, if and only if the body's abstract stack stands
-- for the function's results; else it stops
abbrev pub PassDecidesBodies : Type 0
PassDecidesBodies =
    (m : WasmModule) (s : Signature) (f : Function) → IsProper f.list
    → blocks_after (body_context m s f) (flat f.list) (opened s.results s.results ∷ [])
    ≡ cond (body_stands m s f) (Some []) None
