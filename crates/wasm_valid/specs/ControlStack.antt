-- The open blocks of a pass over a body: how each part of a step changes them, and how the control stack
-- stands for them (as in the Core Specification's appendix on validation).
use Rattle.std.specs.Prelude.{◌≡◌, ℕ, ◌-◌, ◌≤◌, Bool, true, false, cond, if◌then◌else◌, slice_get, List, []}
use Rattle.std.specs.Prelude.{◌∷◌, length, take, drop, reverse, Option, Some, None, option_map}
use Rattle.std.specs.Prelude.{option_and_then}
use Rattle.std.specs.List.{list_all}
use Rattle.w4_defs.specs.declared.value.ValType.{ValType}
use Rattle.w4_defs.specs.declared.value.ValType.TheVariants.{I32}
use Rattle.w4_defs.specs.declared.operation.Op.{Op}
use Rattle.w4_defs.specs.declared.operation.Op.TheVariants.{BrIf, CallIndirect}
use Rattle.w4_defs.specs.OperandTypes.{StackType}
use Rattle.w4_defs.specs.Typing.{Context, only_type}
use Rattle.w4_defs.specs.AbstractStack.{OperandType, AbstractStack, topmost, with_operands, stands, taken}
use Rattle.w4_defs.specs.AbstractStack.{passed, is_label, step}
use Rattle.wasm_valid.specs.Pass.{OpenBlock, opened, with_stack, context, label_types, chosen_list, closed}
use Rattle.wasm_valid.specs.Pass.{blocks_after_mark}
use Rattle.wasm_valid.specs.declared.control_stack.ControlFrame.{ControlFrame}

-- the innermost abstract stack is replaced by what the function gives, if it gives one
abbrev pub at_top : (AbstractStack → Option AbstractStack) → List OpenBlock → Option (List OpenBlock)
at_top f [] = None
at_top f (o ∷ os) = option_map (λ s. with_stack o s ∷ os) (f o.stack)

abbrev pub on_top : (AbstractStack → AbstractStack) → List OpenBlock → List OpenBlock
on_top f [] = []
on_top f (o ∷ os) = with_stack o (f o.stack) ∷ os

-- no operands, reachable or not
abbrev pub without_operands : Bool → AbstractStack → AbstractStack
without_operands unreachable s = record { operands = []; unreachable = unreachable }

abbrev pub with_operand : OperandType → AbstractStack → AbstractStack
with_operand k s = with_operands s (k ∷ s.operands)

-- the innermost list's topmost operand type, and what is left
abbrev pub popped : List OpenBlock → Option (OperandType × List OpenBlock)
popped [] = None
popped (o ∷ os) =
    option_map (λ top. (top.0, with_stack o (with_operands o.stack top.1) ∷ os))
    (topmost o.stack.unreachable o.stack.operands)

-- a list is opened inside those that are open
abbrev pub with_block : List ValType → List ValType → List OpenBlock → List OpenBlock
with_block label result [] = []
with_block label result (o ∷ os) = opened label result ∷ o ∷ os

abbrev pub is_open : List OpenBlock → Bool
is_open [] = false
is_open (o ∷ os) = true

abbrev pub is_nil : List OperandType → Bool
is_nil [] = true
is_nil (k ∷ ks) = false

-- the innermost list has no operand types
abbrev pub has_no_operands : List OpenBlock → Bool
has_no_operands [] = false
has_no_operands (o ∷ os) = is_nil o.stack.operands

-- what was asked for, and whether it was there
abbrev pub Becomes : Bool → List OpenBlock → Option (List OpenBlock) → Type 0
Becomes went after asked = asked ≡ cond went (Some after) None

-- a step of the pass, and one of an operation that opens and closes no block
abbrev pub after_mark : Context → Op → List ℕ → List OpenBlock → Option (List OpenBlock)
after_mark c op labels [] = None
after_mark c op labels (o ∷ os) = blocks_after_mark c op labels o os

abbrev pub after_operation : Context → Op → List ℕ → List OpenBlock → Option (List OpenBlock)
after_operation c op labels os = at_top (step (context c os) op labels) os

-- ---- in one stack

-- the open block of a control frame, where so many operands are its own
abbrev pub block_of_frame : ControlFrame → ℕ → List OperandType → OpenBlock
block_of_frame f n ks =
    let own : AbstractStack = record { operands = take n ks; unreachable = f.unreachable } in
    record { label = f.label.now; result = f.results.now; stack = own }

-- the open blocks of control frames, the innermost first, over operands from the top
abbrev pub blocks_of_frames : List ControlFrame → List OperandType → List OpenBlock
blocks_of_frames [] ks = []
blocks_of_frames (f ∷ fs) ks =
    block_of_frame f (length ks - f.height) ks ∷ blocks_of_frames fs (drop (length ks - f.height) ks)

abbrev pub all_frames : Option ControlFrame → List ControlFrame → List ControlFrame
all_frames None outer = []
all_frames (Some inner) outer = inner ∷ reverse outer

-- each control frame's operands lie over those of the one outside it
abbrev pub AreNested : List ControlFrame → ℕ → Type 0
AreNested [] count = Unit {0}
AreNested (f ∷ fs) count = (f.height ≤ count) × AreNested fs f.height

-- ---- steps that open a block, go on to its `else`, and close it

abbrev pub with_block_begun : List ValType → List ValType → List OpenBlock → Option (List OpenBlock)
with_block_begun label result [] = None
with_block_begun label result (o ∷ os) = Some (opened label result ∷ o ∷ os)

abbrev pub chosen_on : List ValType → List OpenBlock → Option (List OpenBlock)
chosen_on result [] = None
chosen_on result (o ∷ os) = chosen_list result o os

-- whether the innermost abstract stack stands for its results
abbrev pub finishes : List OpenBlock → Bool
finishes [] = false
finishes (o ∷ os) = stands o.stack o.result

abbrev pub closed_on : List OpenBlock → Option (List OpenBlock)
closed_on [] = None
closed_on (o ∷ os) = closed o os

abbrev pub else_begun : List OpenBlock → Option (List OpenBlock)
else_begun [] = None
else_begun (o ∷ os) = cond (stands o.stack o.result) (Some (opened o.label o.result ∷ os)) None

-- whether all these labels have a type
abbrev pub all_have : List ValType → List (List ValType) → List ℕ → Bool
all_have label known labels = list_all (λ other. is_label label (slice_get known other)) labels

-- the one type that all these labels have
abbrev pub shared : List OpenBlock → List ℕ → Option (List ValType)
shared os [] = None
shared os (l ∷ labels) =
    option_and_then (λ label. if all_have label (label_types os) labels then Some label else None)
    (slice_get (label_types os) l)

-- ---- operations that take and give types

-- the types of an operation that looks at no label and no table
abbrev pub direct_type : Context → Op → Option StackType
direct_type c (BrIf label) = None
direct_type c (CallIndirect signature table) = None
direct_type c op = only_type c op

abbrev pub after_stack_type : Option StackType → List OpenBlock → Option (List OpenBlock)
after_stack_type stack_type os = at_top (λ s. option_and_then (passed s) stack_type) os

-- after a condition is taken
abbrev pub with_condition : (AbstractStack → Option AbstractStack) → List OpenBlock → Option (List OpenBlock)
with_condition f os = at_top (λ s. option_and_then f (taken (I32 ∷ []) s)) os

-- an `if` without an `else` has no result
abbrev pub chosen_if : Option ValType → Option ℕ → List OpenBlock → Option (List OpenBlock)
chosen_if None other os = chosen_on [] os
chosen_if (Some t) None os = None
chosen_if (Some t) (Some other) os = chosen_on (t ∷ []) os
