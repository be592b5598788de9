-- The first value of a global, by the operations of its expression.
use Rattle.std.proofs.Common.{◌≡◌, ℕ, List, Option, Some, None, refl, sym, ◌∙◌, ap}
use Rattle.std.specs.Prelude.{slice_get, option_map, All}
use Rattle.std.proofs.lemmas.Option.{same_Some}
use Rattle.w4_defs.specs.declared.operation.Op.{Op}
use Rattle.w4_defs.specs.declared.operation.Op.TheVariants.{Basic}
use Rattle.w4_defs.specs.declared.basic.Basic.TheVariants.{I32Const, I64Const}
use Rattle.w4_defs.specs.declared.value.Val.{Val}
use Rattle.w4_defs.specs.declared.value.ValType.{ValType}
use Rattle.w4_defs.specs.EntryPoints as entries
use Rattle.w4_defs.specs.Module.{Global}
use Rattle.w4_defs.specs.Program.{constant_number, constant_of, value_of}
use Rattle.w4_defs.specs.Tree.{Expr, done, plain, block, loop, if_then, if_else, flat}
use Rattle.w4_defs.specs.Validity.{IsConstant, constant_type}
use Rattle.wasm_tree.specs.Pool.{operations_of}
use Rattle.wasm_valid.specs.Constants.{constant_value, first_constant}
use Rattle.wasm_valid.proofs.NoneLaws.{all_at}

value_is : (op : Op) (t : ValType) → constant_type op ≡ Some t
    → constant_value op ≡ value_of t (constant_number op)
value_is (Basic (I32Const n)) t e = ap (λ k. value_of k n) (same_Some _ _ e)
value_is (Basic (I64Const n)) t e = ap (λ k. value_of k n) (same_Some _ _ e)
value_is op t e = absurd cc

first_is : (e : Expr) (t : ValType) → IsConstant t e
    → first_constant (operations_of (flat e)) ≡ value_of t (constant_of e)
first_is done t h = absurd (cc h)
first_is (plain m done) t h = value_is m.0 t h
first_is (plain m (plain n rest)) t h = absurd (cc h)
first_is (plain m (block r inner rest)) t h = absurd (cc h)
first_is (plain m (loop r inner rest)) t h = absurd (cc h)
first_is (plain m (if_then r taken rest)) t h = absurd (cc h)
first_is (plain m (if_else r taken other rest)) t h = absurd (cc h)
first_is (block r inner rest) t h = absurd (cc h)
first_is (loop r inner rest) t h = absurd (cc h)
first_is (if_then r taken rest) t h = absurd (cc h)
first_is (if_else r taken other rest) t h = absurd (cc h)

first_value_given : (o : Option Global) (ops : List Op) (v : Val)
    → ((g : Global) → o ≡ Some g → IsConstant g.global.value g.first)
    → option_map (λ g. operations_of (flat g.first)) o ≡ Some ops
    → v ≡ first_constant ops → option_map entries.first_value o ≡ Some v
first_value_given None ops v h e is = absurd cc
first_value_given (Some g) ops v h e is =
    ap Some (sym (first_is g.first g.global.value (h g refl)) ∙ ap first_constant (same_Some _ _ e) ∙ sym is)

pub global_given : (gs : List Global) (i : ℕ) (ops : List Op) (v : Val)
    → All (λ g. IsConstant g.global.value g.first) gs
    → option_map (λ g. operations_of (flat g.first)) (slice_get gs i) ≡ Some ops
    → v ≡ first_constant ops → option_map entries.first_value (slice_get gs i) ≡ Some v
global_given gs i ops v h e is =
    first_value_given (slice_get gs i) ops v
    (λ g at. all_at (λ z. IsConstant z.global.value z.first) gs i g h at) e is
