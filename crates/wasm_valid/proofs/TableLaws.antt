-- The table, as one element segment after another fills it.
use Rattle.std.proofs.Common.{◌≡◌, ℕ, zero, suc, ◌+◌, ◌<◌, ◌≤◌, List, [], ◌∷◌, ◌++◌, length, take, drop}
use Rattle.std.proofs.Common.{get_or, false, Option, Some, None, refl, sym, subst, ◌∙◌, ap, arith}
use Rattle.std.specs.Prelude.{slice_get, slice_set, option_map}
use Rattle.std.proofs.lemmas.Option.{same_Some}
use Rattle.std.proofs.lemmas.List.{at_drop_more, drop_all, take_all, append-nil, length-set, length-replicate}
use Rattle.w4_defs.specs.declared.operation.Op.{Op}
use Rattle.w4_defs.specs.declared.value.Limits.{Limits}
use Rattle.w4_defs.specs.declared.value.ValType.TheVariants.{I32}
use Rattle.w4_defs.specs.Module.{ElementSegment, WasmModule}
use Rattle.w4_defs.specs.Profile.{profile_refusal, exceeds_size, single_constant, table_size}
use Rattle.w4_defs.specs.Program.{constant_of, put_functions, fill_table, empty_table}
use Rattle.w4_defs.specs.Tree.{flat}
use Rattle.w4_defs.specs.Validity.{IsConstant, IsElementSegment, KeepsModuleRules}
use Rattle.wasm_tree.specs.Pool.{operations_of}
use Rattle.wasm_valid.specs.Constants.{first_number32}
use Rattle.wasm_valid.proofs.CartLaws.{offset_number, offset_fits}
use Rattle.wasm_valid.proofs.NoneLaws.{none_at, all_at}
use Rattle.wasm_valid.proofs.ProfileFacts.{no_cause, element_passes}

pub put_length : (table : List (Option ℕ)) (at : ℕ) (fs : List ℕ)
    → length (put_functions table at fs) ≡ length table
put_length table at [] = refl
put_length table at (f ∷ fs) =
    put_length (slice_set table at (Some f)) (at + 1) fs ∙ length-set table at (Some f)

empty_size : (ls : List Limits) → length (empty_table ls) ≡ table_size (slice_get ls 0)
empty_size [] = refl
empty_size (l ∷ ls) = length-replicate l.least None

-- what the readers give of an element segment
pub record IsElementRead (o : Option ElementSegment) (offset : ℕ) (functions : List ℕ) (size : ℕ) : Type
    0 where
  pub fits : offset + length functions ≤ size
  pub fills : (table : List (Option ℕ)) (es : List ElementSegment) (i : ℕ) → slice_get es i ≡ o
      → fill_table table (drop i es) ≡ fill_table (put_functions table offset functions) (drop (i + 1) es)

fill_step : (table : List (Option ℕ)) (es : List ElementSegment) (i : ℕ) (s : ElementSegment)
    → slice_get es i ≡ Some s
    → fill_table table (drop i es)
    ≡ fill_table (put_functions table (constant_of s.offset) s.functions) (drop (suc i) es)
fill_step table [] i s e = absurd cc
fill_step table (x ∷ es) zero s e =
    ap (λ (z : ElementSegment). fill_table (put_functions table (constant_of z.offset) z.functions) es)
    (same_Some _ _ e)
fill_step table (x ∷ es) (suc i) s e = fill_step table es i s e

element_read : (o : Option ElementSegment) (ops : List Op) (functions : List ℕ) (offset size : ℕ)
    → ((s : ElementSegment) → o ≡ Some s
    → IsConstant I32 s.offset × (exceeds_size (single_constant s.offset) (length s.functions) size ≡ false))
    → option_map (λ s. operations_of (flat s.offset)) o ≡ Some ops
    → option_map (λ s. s.functions) o ≡ Some functions → offset ≡ first_number32 ops
    → IsElementRead o offset functions size
element_read None ops functions offset size h e f n = absurd cc
element_read (Some s) ops functions offset size h e f n =
    let g = h s refl in
    let is : offset ≡ constant_of s.offset = n ∙ offset_number s.offset ops g.0 (sym (same_Some _ _ e)) in
    let listed : s.functions ≡ functions = same_Some _ _ f in
    let fits : constant_of s.offset + length s.functions ≤ size =
    offset_fits s.offset (length s.functions) size g.0 g.1 in
    record {
      fits = omega (arith, is, fits, ap length listed);
      fills = λ table es i at.
          fill_step table es i s at
          ∙ ap (λ n. fill_table (put_functions table n s.functions) (drop (suc i) es)) (sym is)
          ∙ ap (λ fs. fill_table (put_functions table offset fs) (drop (suc i) es)) listed
          ∙ ap (λ n. fill_table (put_functions table offset functions) (drop n es)) {x = suc i} (omega arith);
    }

pub element_is_read : (m : WasmModule) (i : ℕ) (ops : List Op) (functions : List ℕ) (offset : ℕ)
    → profile_refusal m ≡ None → KeepsModuleRules m
    → option_map (λ s. operations_of (flat s.offset)) (slice_get m.elements i) ≡ Some ops
    → option_map (λ s. s.functions) (slice_get m.elements i) ≡ Some functions
    → offset ≡ first_number32 ops
    → IsElementRead (slice_get m.elements i) offset functions (length (empty_table m.tables))
element_is_read m i ops functions offset none rules e f n =
    element_read (slice_get m.elements i) ops functions offset (length (empty_table m.tables))
    (λ s is. (
      (all_at (IsElementSegment m) m.elements i s rules.elements is).2,
      subst (λ (n : ℕ). exceeds_size (single_constant s.offset) (length s.functions) n ≡ false)
          (sym (empty_size m.tables))
          (none_at (element_passes m) m.elements i s (no_cause m none).elements is),
    ))
    e f n

-- one more function is put
pub put_more_functions : (table next : List (Option ℕ)) (at from : ℕ) (fs : List ℕ) (i f : ℕ) → i < length fs
    → f ≡ get_or fs i f → next ≡ slice_set table at (Some f) → from ≡ at + 1
    → put_functions next from (drop (i + 1) fs) ≡ put_functions table at (drop i fs)
put_more_functions table next at from fs i f h e en ef =
    ap (λ t. put_functions t from (drop (i + 1) fs)) en
    ∙ ap (λ n. put_functions (slice_set table at (Some f)) n (drop (i + 1) fs)) ef
    ∙ ap (λ g. put_functions (slice_set table at (Some g)) (at + 1) (drop (i + 1) fs)) e
    ∙ sym (at_drop_more (λ gs. put_functions table at gs) fs i f h)

-- a list that was written as a whole
pub written : {X : Type 0} (p xs : List X) (n : ℕ) → length p ≡ length xs → n ≡ length xs
    → take n (p ++ drop (length p) xs) ≡ p
written p xs n e en =
    ap (λ ys. take n (p ++ ys)) (drop_all (length p) xs (omega arith)) ∙ ap (λ ys. take n ys) (append-nil p)
    ∙ take_all n p (omega arith)
