-- The abstract stack of a list decides its typing (Core Specification, appendix A.3): where no float stands
-- in the context and the list, a list leads from nothing to these types if and only if its abstract stack is
-- there and stands for them.
use Rattle.std.specs.Prelude.{◌≡◌, ◌↔◌, ℕ, slice_get, Bool, true, false, List, [], ◌∷◌, Some, None, All}
use Rattle.w4_defs.specs.declared.value.ValType.{ValType}
use Rattle.w4_defs.specs.Tree.{Expr}
use Rattle.w4_defs.specs.Floats.{has_float, module_has_float}
use Rattle.w4_defs.specs.Module.{Signature, Function, WasmModule}
use Rattle.w4_defs.specs.Lookup.{global_types}
use Rattle.w4_defs.specs.Typing.{Context, HasType, IsInt, AreInt, body_context, BodyHasType}
use Rattle.w4_defs.specs.AbstractStack.{OperandType, AbstractStack, stack_after, abstract_stack, stands}
use Rattle.w4_defs.specs.AbstractStack.{stands_in}

-- no f32 or f64 stands in the context
pub record HasNoFloat (c : Context) : Type 0 where
  pub locals : AreInt c.locals
  pub labels : All AreInt c.labels
  pub results : AreInt c.results
  pub signatures : All (λ s. AreInt s.params × AreInt s.results) c.within.types
  pub globals : All (λ g. IsInt g.value) (global_types c.within)

-- an operand type that is no float type
abbrev pub IsIntOperand : OperandType → Type 0
IsIntOperand None = Unit {0}
IsIntOperand (Some t) = IsInt t

abbrev pub AreIntOperands : List OperandType → Type 0
AreIntOperands [] = Unit {0}
AreIntOperands (k ∷ ks) = IsIntOperand k × AreIntOperands ks

abbrev pub StackDecides : Type 0
StackDecides =
    (c : Context) (e : Expr) (ts : List ValType)
    → HasNoFloat c → has_float e ≡ false → AreInt ts
    → HasType c e [] ts ↔ (stands_in (abstract_stack c e) ts ≡ true)

-- some types for which the abstract stack stands lead to outs
abbrev pub LeadsFrom : Context → Expr → AbstractStack → List ValType → Type 0
LeadsFrom c e s outs = (ins : List ValType) × AreInt ins × (stands s ins ≡ true) × HasType c e ins outs

-- from any abstract stack without floats
abbrev pub StackDecidesFrom : Type 0
StackDecidesFrom =
    (c : Context) (e : Expr) (s : AbstractStack) (outs : List ValType)
    → HasNoFloat c → has_float e ≡ false → AreIntOperands s.operands → AreInt outs
    → LeadsFrom c e s outs ↔ (stands_in (stack_after c e s) outs ≡ true)

-- the abstract stack of a body stands for its function's results
abbrev pub body_stands : WasmModule → Signature → Function → Bool
body_stands m s f = stands_in (abstract_stack (body_context m s f) f.list) s.results

-- in a module without floats a body has its type if and only if its abstract stack stands for the results
abbrev pub StackDecidesBodies : Type 0
StackDecidesBodies =
    (m : WasmModule) (index k : ℕ) (s : Signature) (f : Function)
    → module_has_float m ≡ false → slice_get m.types index ≡ Some s → slice_get m.bodies k ≡ Some f
    → BodyHasType m index f ↔ (body_stands m s f ≡ true)
