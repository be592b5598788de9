-- A memory or numeric instruction finds the operands that its type takes, and leaves what it gives.
use Rattle.std.proofs.Common.{◌≡◌, ℕ, ◌+◌, ◌*◌, ◌%◌, ◌^◌, List, [], ◌∷◌, Some, Bool, true, false, cond, ◌&&◌, nat_le, Result, Ok, Err, refl, ap, subst, ◌∙◌}
use Rattle.w4_defs.specs.declared.value.Val.{Val}
use Rattle.w4_defs.specs.declared.value.Val.TheVariants as val
use Rattle.w4_defs.specs.declared.value.ValType.{ValType}
use Rattle.w4_defs.specs.declared.value.ValType.TheVariants.{I32, I64}
use Rattle.w4_defs.specs.declared.value.Cause.{Cause}
use Rattle.w4_defs.specs.declared.value.Cause.TheVariants as cause
use Rattle.w4_defs.specs.declared.integer.Unary.{Unary}
use Rattle.w4_defs.specs.declared.integer.Binary.{Binary}
use Rattle.w4_defs.specs.declared.integer.Compare.{Compare}
use Rattle.w4_defs.specs.declared.instruction_table.IntegerType.{IntegerType}
use Rattle.w4_defs.specs.declared.instruction_table.IntegerType.TheVariants as integer
use Rattle.w4_defs.specs.declared.instruction_table.Signedness.{Signedness}
use Rattle.w4_defs.specs.declared.instruction_table.Signedness.TheVariants.{Unsigned, Signed}
use Rattle.w4_defs.specs.declared.instruction_table.Row.{Row}
use Rattle.w4_defs.specs.declared.instruction_table.Row.TheVariants as shape
use Rattle.w4_defs.specs.InstructionTable.{value_type_of, row}
use Rattle.w4_defs.specs.ValueTypes.{type_of}
use Rattle.w4_defs.specs.Program.{value_of}
use Rattle.w4_defs.specs.Integers.{binary}
use Rattle.w4_defs.specs.Bytes.{number_at}
use Rattle.w4_defs.specs.Control.{on_i32, on_number}
use Rattle.w4_defs.specs.Effects.{Effect, Does, Traps, Lacks, Plain, width_of, in_page, load, store, calculated, eqz, comparison, one_operand, two_operands, loaded_value, conversion, push_value, memory_grow, memory_copy, memory_fill, page_after_copy, row_effect}
use Rattle.w4_defs.specs.OperandTypes.{StackType, stack_type_if, row_type}
use Rattle.w4_defs.specs.RunLaws.{types_of}
use Rattle.w4_defs.specs.InstructionSoundness.{Suits, Sound, PlainInstructionsAreSound}

on_i32_suits : (types locals us : List ValType) (ops : List Val) (go : ℕ → List Val → Effect)
    → types_of ops ≡ I32 ∷ us
    → ((n : ℕ) (ops : List Val) → types_of ops ≡ us → Suits types locals (go n ops))
    → Suits types locals (on_i32 Lacks ops go)
on_i32_suits types locals us [] go h k = absurd (cc h)
on_i32_suits types locals us (val.I32 n ∷ ops) go h k = k n ops (cc h)
on_i32_suits types locals us (val.I64 n ∷ ops) go h k = absurd (cc h)

on_number_suits : (t : IntegerType) (types locals us : List ValType) (ops : List Val)
    (go : ℕ → List Val → Effect) → types_of ops ≡ value_type_of t ∷ us
    → ((n : ℕ) (ops : List Val) → types_of ops ≡ us → Suits types locals (go n ops))
    → Suits types locals (on_number (value_type_of t) Lacks ops go)
on_number_suits integer.I32 types locals us ops go h k = on_i32_suits types locals us ops go h k
on_number_suits integer.I64 types locals us [] go h k = absurd (cc h)
on_number_suits integer.I64 types locals us (val.I32 n ∷ ops) go h k = absurd (cc h)
on_number_suits integer.I64 types locals us (val.I64 n ∷ ops) go h k = k n ops (cc h)

type_of_value : (t : IntegerType) (n : ℕ) → type_of (value_of (value_type_of t) n) ≡ value_type_of t
type_of_value integer.I32 n = refl
type_of_value integer.I64 n = refl

type_of_read : (t : IntegerType) (sign : Signedness) (bits n : ℕ)
    → type_of (loaded_value (value_type_of t) sign bits n) ≡ value_type_of t
type_of_read integer.I32 Unsigned bits n = refl
type_of_read integer.I32 Signed bits n = refl
type_of_read integer.I64 Unsigned bits n = refl
type_of_read integer.I64 Signed bits n = refl

cond_suits : (types locals : List ValType) (test : Bool) (f g : Effect) → Suits types locals f
    → Suits types locals g → Suits types locals (cond test f g)
cond_suits types locals true f g h k = h
cond_suits types locals false f g h k = k

in_page_suits : (types locals : List ValType) (address count : ℕ) (f : Effect) → Suits types locals f
    → Suits types locals (in_page address count f)
in_page_suits types locals address count f h =
    cond_suits types locals (nat_le (address + count) 65536) f (Traps cause.Memory) h tt

-- a value of this type on top of these operands
on_top : (t : ValType) (v : Val) (us : List ValType) (ops ls : List Val) (page : List ℕ) → type_of v ≡ t
    → types_of ops ≡ us → Suits (t ∷ us) (types_of ls) (Does (v ∷ ops) ls page)
on_top t v us ops ls page e h = (ap (λ x. x ∷ types_of ops) e ∙ ap (λ xs. t ∷ xs) h, refl)

calculated_suits : (t : IntegerType) (us : List ValType) (r : Result ℕ Cause) (ops ls : List Val)
    (page : List ℕ) → types_of ops ≡ us
    → Suits (value_type_of t ∷ us) (types_of ls) (calculated (value_of (value_type_of t)) r ops ls page)
calculated_suits t us (Ok n) ops ls page h =
    on_top (value_type_of t) (value_of (value_type_of t) n) us ops ls page (type_of_value t n) h
calculated_suits t us (Err c) ops ls page h = tt

-- ---- the shapes

pushed_sound : (t : ValType) (v : Val) → type_of v ≡ t → Sound (push_value v) ([], t ∷ [])
pushed_sound t v e = record { suits = λ us ops ls page h. on_top t v us ops ls page e h }

one_sound : (t : IntegerType) (o : Unary)
    → Sound (one_operand (value_type_of t) o) (value_type_of t ∷ [], value_type_of t ∷ [])
one_sound t o = record {
  suits = λ us ops ls page h. on_number_suits t (value_type_of t ∷ us) (types_of ls) us ops _ h (λ a ops k.
      on_top (value_type_of t) _ us ops ls page (type_of_value t _) k);
}

two_sound : (t : IntegerType) (o : Binary)
    → Sound (two_operands (value_type_of t) o) (value_type_of t ∷ value_type_of t ∷ [], value_type_of t ∷ [])
two_sound t o = record {
  suits = λ us ops ls page h.
      on_number_suits t (value_type_of t ∷ us) (types_of ls) (value_type_of t ∷ us) ops _ h (λ b ops k.
      on_number_suits t (value_type_of t ∷ us) (types_of ls) us ops _ k (λ a ops k.
      calculated_suits t us (binary (width_of (value_type_of t)) o a b) ops ls page k));
}

comparison_sound : (t : IntegerType) (o : Compare)
    → Sound (comparison (value_type_of t) o) (value_type_of t ∷ value_type_of t ∷ [], I32 ∷ [])
comparison_sound t o = record {
  suits = λ us ops ls page h.
      on_number_suits t (I32 ∷ us) (types_of ls) (value_type_of t ∷ us) ops _ h (λ b ops k.
      on_number_suits t (I32 ∷ us) (types_of ls) us ops _ k (λ a ops k.
      (ap (λ xs. I32 ∷ xs) k, refl)));
}

eqz_sound : (t : IntegerType) → Sound (eqz (value_type_of t)) (value_type_of t ∷ [], I32 ∷ [])
eqz_sound t = record {
  suits = λ us ops ls page h. on_number_suits t (I32 ∷ us) (types_of ls) us ops _ h (λ a ops k.
      (ap (λ xs. I32 ∷ xs) k, refl));
}

conversion_sound : (t to : IntegerType) (value : ℕ → Val) → ((n : ℕ) → type_of (value n) ≡ value_type_of to)
    → Sound (conversion (value_type_of t) value) (value_type_of t ∷ [], value_type_of to ∷ [])
conversion_sound t to value v = record {
  suits = λ us ops ls page h. on_number_suits t (value_type_of to ∷ us) (types_of ls) us ops _ h (λ a ops k.
      on_top (value_type_of to) (value a) us ops ls page (v a) k);
}

load_sound : (offset count : ℕ) (t : IntegerType) (value : ℕ → Val)
    → ((n : ℕ) → type_of (value n) ≡ value_type_of t)
    → Sound (load offset count value) (I32 ∷ [], value_type_of t ∷ [])
load_sound offset count t value v = record {
  suits = λ us ops ls page h. on_i32_suits (value_type_of t ∷ us) (types_of ls) us ops _ h (λ a ops k.
      let n = number_at page (a + offset) count in
      in_page_suits (value_type_of t ∷ us) (types_of ls) (a + offset) count (Does (value n ∷ ops) ls page)
      (on_top (value_type_of t) (value n) us ops ls page (v n) k));
}

store_sound : (offset count : ℕ) (t : IntegerType)
    → Sound (store (value_type_of t) offset count) (I32 ∷ value_type_of t ∷ [], [])
store_sound offset count t = record {
  suits = λ us ops ls page h. on_number_suits t us (types_of ls) (I32 ∷ us) ops _ h (λ n ops k.
      on_i32_suits us (types_of ls) us ops _ k (λ a ops k.
      in_page_suits us (types_of ls) (a + offset) count (Does ops ls _) (k, refl)));
}

grow_sound : Sound memory_grow (I32 ∷ [], I32 ∷ [])
grow_sound = record {
  suits = λ us ops ls page h. on_i32_suits (I32 ∷ us) (types_of ls) us ops _ h (λ n ops k.
      (ap (λ xs. I32 ∷ xs) k, refl));
}

copy_sound : Sound memory_copy (I32 ∷ I32 ∷ I32 ∷ [], [])
copy_sound = record {
  suits = λ us ops ls page h. on_i32_suits us (types_of ls) (I32 ∷ I32 ∷ us) ops _ h (λ n ops k.
      on_i32_suits us (types_of ls) (I32 ∷ us) ops _ k (λ s ops k.
      on_i32_suits us (types_of ls) us ops _ k (λ d ops k.
      cond_suits us (types_of ls) (nat_le (s + n) 65536 && nat_le (d + n) 65536)
      (Does ops ls (page_after_copy page d s n)) (Traps cause.Memory) (k, refl) tt)));
}

fill_sound : Sound memory_fill (I32 ∷ I32 ∷ I32 ∷ [], [])
fill_sound = record {
  suits = λ us ops ls page h. on_i32_suits us (types_of ls) (I32 ∷ I32 ∷ us) ops _ h (λ n ops k.
      on_i32_suits us (types_of ls) (I32 ∷ us) ops _ k (λ value ops k.
      on_i32_suits us (types_of ls) us ops _ k (λ d ops k.
      in_page_suits us (types_of ls) d n (Does ops ls _) (k, refl))));
}

-- ---- the rows

given : (plain : Plain) (stack_type found : StackType) → Sound plain stack_type → Some stack_type ≡ Some found
    → Sound plain found
given plain stack_type found s h = subst (Sound plain) (cc h) s

where_memory : (has : Bool) (plain : Plain) (a b : List ValType) (found : StackType) → Sound plain (a, b)
    → stack_type_if has a b ≡ Some found → Sound plain found
where_memory true plain a b found s h = given plain (a, b) found s h
where_memory false plain a b found s h = absurd (cc h)

row_sound : (has : Bool) (r : Row) (stack_type : StackType) → row_type has r ≡ Some stack_type
    → Sound (row_effect r) stack_type
row_sound has (shape.Const t n) stack_type h =
    given _ _ stack_type (pushed_sound (value_type_of t) (value_of (value_type_of t) n) (type_of_value t n)) h
row_sound has (shape.Test t) stack_type h = given _ _ stack_type (eqz_sound t) h
row_sound has (shape.Compare t o) stack_type h = given _ _ stack_type (comparison_sound t o) h
row_sound has (shape.Unary t o) stack_type h = given _ _ stack_type (one_sound t o) h
row_sound has (shape.Binary t o) stack_type h = given _ _ stack_type (two_sound t o) h
row_sound has shape.Wrap stack_type h =
    given _ _ stack_type (conversion_sound integer.I64 integer.I32 (λ a. val.I32 (a % 2 ^ 32)) (λ n. refl)) h
row_sound has (shape.Extend sign) stack_type h =
    given _ _ stack_type
    (conversion_sound integer.I32 integer.I64 (loaded_value I64 sign 32) (type_of_read integer.I64 sign 32)) h
row_sound has (shape.ExtendWithin t bits) stack_type h =
    given _ _ stack_type
    (conversion_sound t t (loaded_value (value_type_of t) Signed bits) (type_of_read t Signed bits)) h
row_sound has (shape.Load t bytes sign align offset) stack_type h =
    where_memory (has && nat_le (2 ^ align) bytes) _ _ _ stack_type
    (load_sound offset bytes t (loaded_value (value_type_of t) sign (8 * bytes))
    (type_of_read t sign (8 * bytes))) h
row_sound has (shape.Store t bytes align offset) stack_type h =
    where_memory (has && nat_le (2 ^ align) bytes) _ _ _ stack_type (store_sound offset bytes t) h
row_sound has shape.MemorySize stack_type h =
    where_memory has _ _ _ stack_type (pushed_sound I32 (val.I32 1) refl) h
row_sound has shape.MemoryGrow stack_type h = where_memory has _ _ _ stack_type grow_sound h
row_sound has shape.MemoryCopy stack_type h = where_memory has _ _ _ stack_type copy_sound h
row_sound has shape.MemoryFill stack_type h = where_memory has _ _ _ stack_type fill_sound h
row_sound has shape.Float stack_type h = absurd (cc h)

pub plain_sound : PlainInstructionsAreSound
plain_sound has i stack_type h = row_sound has (row i) stack_type h
