-- What the readers of a cart say, from what the cart keeps.
use Rattle.std.proofs.Common.{◌≡◌, ℕ, ◌+◌, ◌≤◌, List, length, true, false, Option, Some, None, refl, sym}
use Rattle.std.proofs.Common.{subst, ◌∙◌, ap, arith}
use Rattle.std.specs.Prelude.{slice_get, option_map, IfSome}
use Rattle.std.proofs.lemmas.Bool.Decides.{nat_tests}
use Rattle.std.proofs.lemmas.Option.{same_Some}
use Rattle.w4_defs.specs.declared.operation.Op.{Op}
use Rattle.w4_defs.specs.declared.operation.Op.TheVariants.{Basic}
use Rattle.w4_defs.specs.declared.basic.Basic.TheVariants.{I32Const, I64Const}
use Rattle.w4_defs.specs.declared.value.ValType.TheVariants.{I32}
use Rattle.w4_defs.specs.Lookup.{signature_of}
use Rattle.w4_defs.specs.Module.{DataSegment, WasmModule, nothing_to_nothing}
use Rattle.w4_defs.specs.Profile as profile
use Rattle.w4_defs.specs.Profile.{exceeds_size, single_constant, is_entry_name, profile_refusal}
use Rattle.w4_defs.specs.Program.{callees, constant_number, constant_of}
use Rattle.w4_defs.specs.Tree.{Expr, done, plain, block, loop, if_then, if_else, flat}
use Rattle.w4_defs.specs.Validity.{IsConstant, IsStart, IsDataSegment, IsValid, constant_type}
use Rattle.wasm_tree.specs.Pool.{operations_of}
use Rattle.wasm_valid.specs.declared.call.Call.{Call}
use Rattle.wasm_valid.specs.declared.entry_point.Entry.{Entry}
use Rattle.wasm_valid.specs.declared.entry_point.Entry.TheVariants.{Update, CrtStart, Initialize, Start}
use Rattle.wasm_valid.specs.Calls.{AreCalls}
use Rattle.wasm_valid.specs.Carts.{entry_name}
use Rattle.wasm_valid.proofs.NoneLaws.{none_at, all_at}
use Rattle.wasm_valid.proofs.ProfileFacts.{no_cause, data_passes}
use Rattle.wasm_valid.specs.Constants.{number32, first_number32}

pub kept_calls : (m n : WasmModule) (xs ys : List Call) → m ≡ n → xs ≡ ys → AreCalls m (callees m) xs
    → AreCalls n (callees n) ys
kept_calls m n xs ys em es h =
    subst (λ (zs : List Call). AreCalls n (callees n) zs) es
    (subst (λ (k : WasmModule). AreCalls k (callees k) xs) em h)

pub entry_is_named : (which : Entry) → is_entry_name (entry_name which) ≡ true
entry_is_named Update = refl
entry_is_named CrtStart = refl
entry_is_named Initialize = refl
entry_is_named Start = refl

-- the start function, if there is one
pub start_type : (m : WasmModule) (start : Option ℕ) → IsStart m start
    → IfSome start (λ f. signature_of m f ≡ Some nothing_to_nothing)
start_type m None h = tt
start_type m (Some f) h = h

-- an operation that is a constant of type i32
number_is : (op : Op) → constant_type op ≡ Some I32 → number32 op ≡ constant_number op
number_is (Basic (I32Const n)) e = refl
number_is (Basic (I64Const n)) e = absurd cc
number_is op e = refl

-- an offset that is a single i32.const, by the first operation of its flattening
pub offset_number : (e : Expr) (ops : List Op) → IsConstant I32 e → ops ≡ operations_of (flat e)
    → first_number32 ops ≡ constant_of e
offset_number done ops h is = absurd (cc h)
offset_number (plain m done) ops h is = ap first_number32 is ∙ number_is m.0 h
offset_number (plain m (plain n rest)) ops h is = absurd (cc h)
offset_number (plain m (block r inner rest)) ops h is = absurd (cc h)
offset_number (plain m (loop r inner rest)) ops h is = absurd (cc h)
offset_number (plain m (if_then r taken rest)) ops h is = absurd (cc h)
offset_number (plain m (if_else r taken other rest)) ops h is = absurd (cc h)
offset_number (block r inner rest) ops h is = absurd (cc h)
offset_number (loop r inner rest) ops h is = absurd (cc h)
offset_number (if_then r taken rest) ops h is = absurd (cc h)
offset_number (if_else r taken other rest) ops h is = absurd (cc h)

constant_fits : (op : Op) (count size : ℕ) → constant_type op ≡ Some I32
    → exceeds_size (profile.i32_constant op) count size ≡ false → constant_number op + count ≤ size
constant_fits (Basic (I32Const n)) count size e h = grind (arith, nat_tests)
constant_fits (Basic (I64Const n)) count size e h = absurd cc
constant_fits op count size e h = absurd cc

-- a constant offset of a segment that doesn't pass the end
pub offset_fits : (e : Expr) (count size : ℕ) → IsConstant I32 e
    → exceeds_size (single_constant e) count size ≡ false → constant_of e + count ≤ size
offset_fits done count size h p = absurd (cc h)
offset_fits (plain m done) count size h p = constant_fits m.0 count size h p
offset_fits (plain m (plain n rest)) count size h p = absurd (cc h)
offset_fits (plain m (block r inner rest)) count size h p = absurd (cc h)
offset_fits (plain m (loop r inner rest)) count size h p = absurd (cc h)
offset_fits (plain m (if_then r taken rest)) count size h p = absurd (cc h)
offset_fits (plain m (if_else r taken other rest)) count size h p = absurd (cc h)
offset_fits (block r inner rest) count size h p = absurd (cc h)
offset_fits (loop r inner rest) count size h p = absurd (cc h)
offset_fits (if_then r taken rest) count size h p = absurd (cc h)
offset_fits (if_else r taken other rest) count size h p = absurd (cc h)

-- what a data segment's reader gives
pub record IsSegmentRead (o : Option DataSegment) (offset : ℕ) (bytes : List ℕ) : Type 0 where
  pub offset_is : option_map (λ s. constant_of s.offset) o ≡ Some offset
  pub fits : offset + length bytes ≤ 65536

segment_read : (o : Option DataSegment) (ops : List Op) (bytes : List ℕ) (offset : ℕ)
    → ((s : DataSegment) → o ≡ Some s → IsConstant I32 s.offset × (data_passes s ≡ false))
    → option_map (λ s. operations_of (flat s.offset)) o ≡ Some ops → option_map (λ s. s.bytes) o ≡ Some bytes
    → offset ≡ first_number32 ops → IsSegmentRead o offset bytes
segment_read None ops bytes offset h e b n = absurd cc
segment_read (Some s) ops bytes offset h e b n =
    let g = h s refl in
    let is : offset ≡ constant_of s.offset = n ∙ offset_number s.offset ops g.0 (sym (same_Some _ _ e)) in
    let fits : constant_of s.offset + length s.bytes ≤ 65536 =
    offset_fits s.offset (length s.bytes) 65536 g.0 g.1 in
    record {
      offset_is = ap Some (sym is);
      fits = omega (arith, is, fits, ap length (same_Some _ _ b));
    }

pub segment_is_read : (m : WasmModule) (i : ℕ) (ops : List Op) (bytes : List ℕ) (offset : ℕ)
    → profile_refusal m ≡ None → IsValid m
    → option_map (λ s. operations_of (flat s.offset)) (slice_get m.segments i) ≡ Some ops
    → option_map (λ s. s.bytes) (slice_get m.segments i) ≡ Some bytes
    → offset ≡ first_number32 ops → IsSegmentRead (slice_get m.segments i) offset bytes
segment_is_read m i ops bytes offset none valid e b n =
    segment_read (slice_get m.segments i) ops bytes offset
    (λ s is. (
      (all_at (IsDataSegment m) m.segments i s valid.0.segments is).2,
      none_at data_passes m.segments i s (no_cause m none).segments is,
    ))
    e b n
