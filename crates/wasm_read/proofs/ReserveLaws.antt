-- How large the reserves of an accepted cart's functions can be.
use Rattle.std.proofs.Common.{◌≡◌, ℕ, zero, suc, ◌+◌, ◌<◌, ◌≤◌, nat_lt, Bool, true, false, List, [], ◌∷◌}
use Rattle.std.proofs.Common.{◌++◌, length, slice_get, Option, Some, None, refl, ap, sym, ◌∙◌, subst, arith}
use Rattle.std.specs.List.{list_any}
use Rattle.std.specs.Prelude.{◌==◌, if◌then◌else◌, ◌||◌, zip}
use Rattle.std.proofs.lemmas.List.{length-append}
use Rattle.std.proofs.lemmas.Bool.{ltb-false, or_parts}
use Rattle.std.proofs.lemmas.Option.{same_Some}
use Rattle.w4_defs.specs.declared.module.ImportKind.{ImportKind}
use Rattle.w4_defs.specs.declared.module.ImportKind.TheVariants.{Func, Table, Memory, Global}
use Rattle.w4_defs.specs.declared.console.Import.{Import}
use Rattle.w4_defs.specs.declared.refusal.ProfileRefusal.TheVariants.{TooManyLocals}
use Rattle.w4_defs.specs.Tree.{Expr, done, plain, block, loop, if_then, if_else}
use Rattle.w4_defs.specs.Module.{Signature, Imported, Function, WasmModule}
use Rattle.w4_defs.specs.Lookup.{local_count}
use Rattle.w4_defs.specs.ImportNames.{import_named}
use Rattle.w4_defs.specs.BinaryText.{items}
use Rattle.w4_defs.specs.BinaryInstruction.{list}
use Rattle.w4_defs.specs.BinarySection.{Section, section, contents, Part}
use Rattle.w4_defs.specs.BinaryModule.{preamble, body, SpellsModule}
use Rattle.w4_defs.specs.Program.{Own, Callee, own_function, host_function, no_function, instructions}
use Rattle.w4_defs.specs.Program.{reserve_of, own_callee, own_callees, imported_callee, with_import}
use Rattle.w4_defs.specs.Program.{imported_callees, callees}
use Rattle.w4_defs.specs.Profile.{param_count, has_many_locals, causes, profile_refusal}
use Rattle.w4_defs.proofs.CauseLaws.{none_there, not_so}
use Rattle.wasm_read.specs.Reserves.{ReservesAreSmall}
use Rattle.wasm_read.proofs.MarkLaws.{instruction_mark, mark_long}

-- ---- each instruction takes a byte

list_long : (k : ℕ) (e : Expr) (text : List ℕ) → list k e text → instructions e ≤ length text
list_long k done text h = omega arith
list_long k (plain m rest) text (a, b, e, first, others) =
    omega (
      arith,
      ap (λ t. length t) e,
      length-append a b,
      mark_long m.0 m.1 a (instruction_mark m.0 m.1 a first),
      list_long k rest b others,
    )
list_long k (block r inner rest) text (a, b, e, code, (c, d, f, type, (g, i, j, within, others))) =
    omega (
      arith,
      ap (λ t. length t) e,
      length-append a b,
      ap (λ t. length t) code,
      ap (λ t. length t) f,
      length-append c d,
      ap (λ t. length t) j,
      length-append g i,
      list_long 0x0b inner g within,
      list_long k rest i others,
    )
list_long k (loop r inner rest) text (a, b, e, code, (c, d, f, type, (g, i, j, within, others))) =
    omega (
      arith,
      ap (λ t. length t) e,
      length-append a b,
      ap (λ t. length t) code,
      ap (λ t. length t) f,
      length-append c d,
      ap (λ t. length t) j,
      length-append g i,
      list_long 0x0b inner g within,
      list_long k rest i others,
    )
list_long k (if_then r taken rest) text (a, b, e, code, (c, d, f, type, (g, i, j, within, others))) =
    omega (
      arith,
      ap (λ t. length t) e,
      length-append a b,
      ap (λ t. length t) code,
      ap (λ t. length t) f,
      length-append c d,
      ap (λ t. length t) j,
      length-append g i,
      list_long 0x0b taken g within,
      list_long k rest i others,
    )
list_long k (if_else r taken other rest) text
    (a, b, e, code, (c, d, f, type, (g, i, j, within, (l, m, n, parted, others)))) =
    omega (
      arith,
      ap (λ t. length t) e,
      length-append a b,
      ap (λ t. length t) code,
      ap (λ t. length t) f,
      length-append c d,
      ap (λ t. length t) j,
      length-append g i,
      ap (λ t. length t) n,
      length-append l m,
      list_long 0x05 taken g within,
      list_long 0x0b other l parted,
      list_long k rest m others,
    )

-- every body has at most so many instructions
abbrev AreShort : ℕ → List Function → Type 0
AreShort n [] = Unit {0}
AreShort n (f ∷ fs) = (instructions f.list ≤ n) × AreShort n fs

body_short : (f : Function) (text : List ℕ) → body f text → instructions f.list ≤ length text
body_short f text (size, whole, e, sized, (bound, (a, b, g, runs, h))) =
    omega (
      arith,
      ap (λ t. length t) e,
      length-append size whole,
      ap (λ t. length t) g,
      length-append a b,
      list_long 0x0b f.list b h,
    )

bodies_short : (fs : List Function) (text : List ℕ) (n : ℕ) → length text ≤ n → items body fs text
    → AreShort n fs
bodies_short [] text n bound h = tt
bodies_short (f ∷ fs) text n bound (a, b, e, first, others) = (
  omega (arith, bound, ap (λ t. length t) e, length-append a b, body_short f a first),
  bodies_short fs b n (omega (arith, bound, ap (λ t. length t) e, length-append a b)) others,
)

found_short : (test : Bool) (contents found : List ℕ) (others : Option (List ℕ)) (n : ℕ) → length contents ≤ n
    → (others ≡ Some found → length found ≤ n) → (if test then Some contents else others) ≡ Some found
    → length found ≤ n
found_short true contents found others n h k is = omega (arith, h, ap (λ t. length t) (same_Some _ _ is))
found_short false contents found others n h k is = k is

contents_short : (id : ℕ) (ss : List Section) (text found : List ℕ) → items section ss text
    → contents id ss ≡ Some found → length found ≤ length text
contents_short id [] text found h is = absurd cc
contents_short id (s ∷ ss) text found (a, b, e, (c, d, f, code, (size, whole, g, sized, same)), others) is =
    found_short (s.0 == id) s.1 found (contents id ss) (length text)
    (omega (
      arith,
      ap (λ t. length t) e,
      length-append a b,
      ap (λ t. length t) f,
      length-append c d,
      ap (λ t. length t) g,
      length-append size whole,
      ap (λ t. length t) same,
    ))
    (λ there. omega (
      arith,
      ap (λ t. length t) e,
      length-append a b,
      contents_short id ss b found others there,
    ))
    is

part_short : (found : Option (List ℕ)) (fs : List Function) (n : ℕ)
    → ((text : List ℕ) → found ≡ Some text → length text ≤ n) → Part body found fs → AreShort n fs
part_short None fs n bound h = subst (AreShort n) (sym h) tt
part_short (Some text) fs n bound (a, b, e, count, h) =
    bodies_short fs b n (omega (arith, bound text refl, ap (λ t. length t) e, length-append a b)) h

spelled_short : (bytes : List ℕ) (m : WasmModule) → SpellsModule bytes m → length bytes ≤ 65536
    → AreShort 65536 m.bodies
spelled_short bytes m (ss, others, e, sections, c) small =
    part_short (contents 10 ss) m.bodies 65536
    (λ text there. omega (
      arith,
      small,
      ap (λ t. length t) e,
      length-append preamble others,
      contents_short 10 ss others text sections there,
    ))
    c.bodies

-- ---- parameters and locals are few

few_locals : (m : WasmModule) → profile_refusal m ≡ None
    → list_any (has_many_locals m) (zip m.functions m.bodies) ≡ false
few_locals m e = not_so _ TooManyLocals (none_there (causes m) 1 _ e refl)

-- ---- so every own function's reserve is small

abbrev IsSmall : Callee → Type 0
IsSmall (own_function f) = reserve_of f ≤ 1048576
IsSmall (host_function s i) = Unit {0}
IsSmall no_function = Unit {0}

abbrev AreSmall : List Callee → Type 0
AreSmall [] = Unit {0}
AreSmall (c ∷ cs) = IsSmall c × AreSmall cs

one_small : (s : Option Signature) (f : Function) → nat_lt 1024 (param_count s + local_count f.runs) ≡ false
    → instructions f.list ≤ 65536
    → IsSmall (own_callee s f)
one_small None f few short = tt
one_small (Some s) f few short =
    omega (arith, short, ltb-false 1024 (param_count (Some s) + local_count f.runs) few)

none_small : (types : List Signature) (ts : List ℕ) → AreSmall (own_callees types ts [])
none_small types [] = tt
none_small types (t ∷ ts) = (tt, none_small types ts)

own_small : (m : WasmModule) (ts : List ℕ) (fs : List Function)
    → list_any (has_many_locals m) (zip ts fs) ≡ false → AreShort 65536 fs
    → AreSmall (own_callees m.types ts fs)
own_small m [] fs few short = tt
own_small m (t ∷ ts) [] few short = none_small m.types (t ∷ ts)
own_small m (t ∷ ts) (f ∷ fs) few short =
    let parts = or_parts _ _ few in
    (one_small (slice_get m.types t) f parts.0 short.0, own_small m ts fs parts.1 short.1)

callee_small : (s : Option Signature) (i : Option Import) → IsSmall (imported_callee s i)
callee_small None i = tt
callee_small (Some s) None = tt
callee_small (Some s) (Some i) = tt

with_small : (types : List Signature) (kind : ImportKind) (i : Option Import) (rest : List Callee)
    → AreSmall rest → AreSmall (with_import types kind i rest)
with_small types (Func t) i rest h = (callee_small (slice_get types t) i, h)
with_small types (Table l) i rest h = h
with_small types (Memory l) i rest h = h
with_small types (Global g) i rest h = h

imported_small : (types : List Signature) (is : List Imported) → AreSmall (imported_callees types is)
imported_small types [] = tt
imported_small types (i ∷ is) =
    with_small types i.kind (import_named i.module_name i.name) (imported_callees types is)
    (imported_small types is)

both_small : (cs ds : List Callee) → AreSmall cs → AreSmall ds → AreSmall (cs ++ ds)
both_small [] ds h k = k
both_small (c ∷ cs) ds h k = (h.0, both_small cs ds h.1 k)

found_small : (cs : List Callee) (index : ℕ) (f : Own) → AreSmall cs
    → slice_get cs index ≡ Some (own_function f) → reserve_of f ≤ 1048576
found_small [] index f h e = absurd cc
found_small (c ∷ cs) zero f h e = subst IsSmall (same_Some _ _ e) h.0
found_small (c ∷ cs) (suc index) f h e = found_small cs index f h.1 e

pub reserves_are_small : ReservesAreSmall
reserves_are_small bytes m (small, spelled, within, valid) index f e =
    found_small (callees m) index f
    (both_small (imported_callees m.types m.imports) (own_callees m.types m.functions m.bodies)
    (imported_small m.types m.imports)
    (own_small m m.functions m.bodies (few_locals m within) (spelled_short bytes m spelled small)))
    e
