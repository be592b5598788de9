-- One more import is counted.
use Rattle.std.proofs.Common.{◌≡◌, ℕ, ◌+◌, ◌<◌, List, [], ◌∷◌, ◌++◌, length, take, get_or, Option, sym, subst}
use Rattle.std.proofs.Common.{◌∙◌, ap, arith, length-append}
use Rattle.std.specs.Prelude.{filter_map}
use Rattle.std.proofs.lemmas.List.Elements.{filter_map-append}
use Rattle.std.proofs.lemmas.List.{take_more}
use Rattle.w4_defs.specs.declared.module.ImportKind.{ImportKind}
use Rattle.w4_defs.specs.declared.module.ImportKind.TheVariants.{Func, Table, Memory, Global}
use Rattle.w4_defs.specs.Lookup.{imported_function, imported_table, imported_memory, imported_global}
use Rattle.w4_defs.specs.Module.{Imported}
use Rattle.wasm_valid.specs.declared.counts.Counts.{Counts}
use Rattle.wasm_valid.specs.Counting.{counted_with, CountKinds, FitKinds}

length_with : {X Y : Type 0} (f : X → Option Y) (xs : List X) (x : X)
    → length (filter_map f (xs ++ x ∷ [])) ≡ length (filter_map f xs) + length (filter_map f (x ∷ []))
length_with f xs x =
    ap length (filter_map-append f xs (x ∷ [])) ∙ length-append (filter_map f xs) (filter_map f (x ∷ []))

-- the four counts, where one of them is one more
abbrev named : List ℕ → List ℕ → ImportKind → Imported
named a b kind = record { module_name = a; name = b; kind = kind }

kinds_named : (c : Counts) (is : List Imported) (a b : List ℕ) (kind : ImportKind) → CountKinds c is
    → CountKinds (counted_with c kind) (is ++ named a b kind ∷ [])
kinds_named c is a b (Func index) h =
    let i = named a b (Func index) in record {
      functions = omega (arith, h.functions, length_with (λ i. imported_function i.kind) is i);
      tables = omega (arith, h.tables, length_with (λ i. imported_table i.kind) is i);
      memories = omega (arith, h.memories, length_with (λ i. imported_memory i.kind) is i);
      globals = omega (arith, h.globals, length_with (λ i. imported_global i.kind) is i);
    }
kinds_named c is a b (Table limits) h =
    let i = named a b (Table limits) in record {
      functions = omega (arith, h.functions, length_with (λ i. imported_function i.kind) is i);
      tables = omega (arith, h.tables, length_with (λ i. imported_table i.kind) is i);
      memories = omega (arith, h.memories, length_with (λ i. imported_memory i.kind) is i);
      globals = omega (arith, h.globals, length_with (λ i. imported_global i.kind) is i);
    }
kinds_named c is a b (Memory limits) h =
    let i = named a b (Memory limits) in record {
      functions = omega (arith, h.functions, length_with (λ i. imported_function i.kind) is i);
      tables = omega (arith, h.tables, length_with (λ i. imported_table i.kind) is i);
      memories = omega (arith, h.memories, length_with (λ i. imported_memory i.kind) is i);
      globals = omega (arith, h.globals, length_with (λ i. imported_global i.kind) is i);
    }
kinds_named c is a b (Global global) h =
    let i = named a b (Global global) in record {
      functions = omega (arith, h.functions, length_with (λ i. imported_function i.kind) is i);
      tables = omega (arith, h.tables, length_with (λ i. imported_table i.kind) is i);
      memories = omega (arith, h.memories, length_with (λ i. imported_memory i.kind) is i);
      globals = omega (arith, h.globals, length_with (λ i. imported_global i.kind) is i);
    }

fit_with : (c : Counts) (bound : ℕ) (kind : ImportKind) → FitKinds c bound
    → FitKinds (counted_with c kind) (bound + 1)
fit_with c bound (Func index) h = record {
  functions = omega (arith, h.functions);
  tables = omega (arith, h.tables);
  memories = omega (arith, h.memories);
  globals = omega (arith, h.globals);
}
fit_with c bound (Table limits) h = record {
  functions = omega (arith, h.functions);
  tables = omega (arith, h.tables);
  memories = omega (arith, h.memories);
  globals = omega (arith, h.globals);
}
fit_with c bound (Memory limits) h = record {
  functions = omega (arith, h.functions);
  tables = omega (arith, h.tables);
  memories = omega (arith, h.memories);
  globals = omega (arith, h.globals);
}
fit_with c bound (Global global) h = record {
  functions = omega (arith, h.functions);
  tables = omega (arith, h.tables);
  memories = omega (arith, h.memories);
  globals = omega (arith, h.globals);
}

-- the next import of a list
pub kinds_more : (c next : Counts) (is : List Imported) (i : ℕ) (x : Imported) (kind : ImportKind)
    → i < length is → x ≡ get_or is i x → kind ≡ x.kind → next ≡ counted_with c kind
    → CountKinds c (take i is) → CountKinds next (take (i + 1) is)
kinds_more c next is i x kind below at ek en h =
    let grown : CountKinds (counted_with c x.kind) (take i is ++ x ∷ []) =
    kinds_named c (take i is) x.module_name x.name x.kind h in
    let list : take i is ++ x ∷ [] ≡ take (i + 1) is =
    ap (λ y. take i is ++ y ∷ []) at ∙ sym (take_more is i x below) in
    subst (λ (n : Counts). CountKinds n (take (i + 1) is)) (ap (counted_with c) (sym ek) ∙ sym en)
    (subst (λ (xs : List Imported). CountKinds (counted_with c x.kind) xs) list grown)

pub fit_more : (c next : Counts) (i : ℕ) (kind : ImportKind) → next ≡ counted_with c kind → FitKinds c i
    → FitKinds next (i + 1)
fit_more c next i kind e h = subst (λ (n : Counts). FitKinds n (i + 1)) (sym e) (fit_with c i kind h)
