-- The types of globals: a valid module's first values have those of its globals.
use Rattle.std.proofs.Common.{◌≡◌, ℕ, zero, suc, List, [], ◌∷◌, map, length, refl, sym, ◌∙◌, ap, subst, arith}
use Rattle.std.specs.Prelude.{All, Some}
use Rattle.std.proofs.lemmas.Option.{same_Some}
use Rattle.w4_defs.specs.declared.operation.Op.{Op}
use Rattle.w4_defs.specs.declared.operation.Op.TheVariants.{Basic}
use Rattle.w4_defs.specs.declared.basic.Basic.TheVariants.{I32Const, I64Const}
use Rattle.w4_defs.specs.declared.value.Val.{Val}
use Rattle.w4_defs.specs.declared.value.ValType.{ValType}
use Rattle.w4_defs.specs.EntryPoints.{first_globals, first_value}
use Rattle.w4_defs.specs.Lookup.{own_global_types}
use Rattle.w4_defs.specs.ValueTypes.{type_of}
use Rattle.w4_defs.specs.Module.{Global, WasmModule}
use Rattle.w4_defs.specs.Program.{constant_number, constant_of, value_of}
use Rattle.w4_defs.specs.RunLaws.{types_of}
use Rattle.w4_defs.specs.Tree.{Expr, done, plain, block, loop, if_then, if_else}
use Rattle.w4_defs.specs.Validity.{constant_type, IsConstant, IsValid}

of_op : (op : Op) (t : ValType) (n : ℕ) → constant_type op ≡ Some t → type_of (value_of t n) ≡ t
of_op (Basic (I32Const value)) t n e =
    subst (λ (k : ValType). type_of (value_of k n) ≡ k) (same_Some _ _ e) refl
of_op (Basic (I64Const value)) t n e =
    subst (λ (k : ValType). type_of (value_of k n) ≡ k) (same_Some _ _ e) refl
of_op op t n e = absurd cc

of_first : (e : Expr) (t : ValType) → IsConstant t e → type_of (value_of t (constant_of e)) ≡ t
of_first done t h = absurd (cc h)
of_first (plain m done) t h = of_op m.0 t (constant_number m.0) h
of_first (plain m (plain n rest)) t h = absurd (cc h)
of_first (plain m (block r inner rest)) t h = absurd (cc h)
of_first (plain m (loop r inner rest)) t h = absurd (cc h)
of_first (plain m (if_then r taken rest)) t h = absurd (cc h)
of_first (plain m (if_else r taken other rest)) t h = absurd (cc h)
of_first (block r inner rest) t h = absurd (cc h)
of_first (loop r inner rest) t h = absurd (cc h)
of_first (if_then r taken rest) t h = absurd (cc h)
of_first (if_else r taken other rest) t h = absurd (cc h)

of_all : (globals : List Global) → All (λ g. IsConstant g.global.value g.first) globals
    → types_of (map first_value globals) ≡ map (λ g. g.global.value) globals
of_all [] h = refl
of_all (g ∷ globals) h =
    rw (
      of_first g.first g.global.value (h zero g (omega arith)),
      of_all globals (λ k d l. h (suc k) d (omega arith)),
    )
    refl

pub first_types : (m : WasmModule) → IsValid m
    → types_of (first_globals m) ≡ own_global_types m
first_types m valid = of_all m.globals valid.0.globals

length_of : (values : List Val) → length (types_of values) ≡ length values
length_of [] = refl
length_of (v ∷ values) = ap suc (length_of values)

pub values_as_long : (values others : List Val) (types : List ValType) → types_of values ≡ types
    → types_of others ≡ types → length values ≡ length others
values_as_long values others types a b = sym (length_of values) ∙ ap length (a ∙ sym b) ∙ length_of others
