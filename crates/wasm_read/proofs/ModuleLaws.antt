-- A module is read exactly.
use Rattle.std.proofs.Common.{◌≡◌, ℕ, ◌≤◌, eqb, if◌then◌else◌, ◌&&◌, true, List, [], ◌∷◌, ◌++◌, length}
use Rattle.std.proofs.Common.{Option, Some, None, Result, Ok, Err, refl, ap, sym, ◌∙◌, subst, arith, eq-eqb}
use Rattle.std.specs.Prelude.{All}
use Rattle.std.proofs.lemmas.Bool.{eqb-true}
use Rattle.std.proofs.lemmas.List.Elements.{All-cons}
use Rattle.w4_defs.specs.Module.{Signature, WasmModule}
use Rattle.w4_defs.specs.BinaryText.{Texts, items}
use Rattle.w4_defs.specs.BinaryNumber.{unsigned}
use Rattle.w4_defs.specs.BinaryType.{vector, func_type, limits, table_type}
use Rattle.w4_defs.specs.BinarySection.{contents, Part, Alone, Counted}
use Rattle.w4_defs.specs.BinaryModule.{preamble, imported, global, exported, element, body, segment}
use Rattle.w4_defs.specs.BinaryModule.{SpellsModule}
use Rattle.w4_defs.specs.Reading.{◌>>=◌}
use Rattle.w4_defs.proofs.OptionLaws.{bind_some, held_if}
use Rattle.wasm_read.specs.declared.refusal.ReadRefusal.{ReadRefusal}
use Rattle.wasm_read.specs.Reader.{Reader, Reads, Answers}
use Rattle.wasm_read.specs.ReadNumber.{unsigned_at}
use Rattle.wasm_read.specs.Combine.{vector_at, whole_at}
use Rattle.wasm_read.specs.ReadType.{limits_at, table_type_at, func_type_at}
use Rattle.wasm_read.specs.ReadPart.{import_at, global_at, export_at, element_at, body_at, segment_at}
use Rattle.wasm_read.specs.ReadSection.{ordered_at, part_at, alone_at, is_number, is_counted}
use Rattle.wasm_read.specs.ReadModule.{both_some, Contents, Front, front_sections, Middle, middle_sections}
use Rattle.wasm_read.specs.ReadModule.{Back, back_sections, module_of, module_from, contents_in, sections_at}
use Rattle.wasm_read.specs.ReadModule.{after_these, module_at}
use Rattle.wasm_read.specs.Unique.{AtMostOneModule}
use Rattle.wasm_read.proofs.Basics.{and_true}
use Rattle.wasm_read.proofs.NumberLaws.{unsigned_reads}
use Rattle.wasm_read.proofs.CombineLaws.{vector_reads, whole_reads}
use Rattle.wasm_read.proofs.TypeLaws.{limits_reads, table_type_reads, func_type_reads}
use Rattle.wasm_read.proofs.PartLaws.{import_reads, global_reads, export_reads, element_reads, body_reads}
use Rattle.wasm_read.proofs.PartLaws.{segment_reads}
use Rattle.wasm_read.proofs.SectionLaws.{ordered_sound, ordered_complete, contents_found}
use Rattle.wasm_read.proofs.LoopLaws.{refused}

part_sound : {A : Type 0} (P : A → Texts) (p : Reader A) → Reads P p → (o : Option (List ℕ)) (xs : List A)
    → part_at p o ≡ Some xs → Part P o xs
part_sound P p r None xs e = sym (ap (λ q. elim q [ Some ys ↦ ys | None ↦ xs ]) e)
part_sound P p r (Some text) xs e = (whole_reads (vector P) (vector_at p) (vector_reads P p r)).sound text xs
    e

part_complete : {A : Type 0} (P : A → Texts) (p : Reader A) → Reads P p → (o : Option (List ℕ)) (xs : List A)
    → Part P o xs → part_at p o ≡ Some xs
part_complete P p r None xs h = ap (λ ys. Some ys) (sym h)
part_complete P p r (Some text) xs h =
    (whole_reads (vector P) (vector_at p) (vector_reads P p r)).complete text xs h

abbrev some_some : {A : Type 0} → A → Option (Option A)
some_some x = Some (Some x)

abbrev pair_some : {A B : Type 0} → A → B → Option (A × B)
pair_some x y = Some (x, y)

alone_sound : {A : Type 0} (P : A → Texts) (p : Reader A) → Reads P p → (o : Option (List ℕ)) (x : Option A)
    → alone_at p o ≡ Some x → Alone P o x
alone_sound P p r None x e = sym (ap (λ q. elim q [ Some y ↦ y | None ↦ x ]) e)
alone_sound {A} P p r (Some text) x e =
    let s = bind_some (whole_at p text) (λ (y : A). some_some y) x e in
    let same : Some s.0 ≡ x = ap (λ q. elim q [ Some y ↦ y | None ↦ x ]) s.2 in
    (s.0, sym same, (whole_reads P p r).sound text s.0 s.1)

alone_complete : {A : Type 0} (P : A → Texts) (p : Reader A) → Reads P p
    → (o : Option (List ℕ)) (x : Option A) → Alone P o x → alone_at p o ≡ Some x
alone_complete P p r None x h = ap (λ y. Some y) (sym h)
alone_complete P p r (Some text) x h =
    let e = (whole_reads P p r).complete text h.0 h.2 in
    (rw e refl) ∙ ap (λ y. Some y) (sym h.1)

number_sound : (n : ℕ) (o : Option ℕ) → is_number n o ≡ true → o ≡ Some n
number_sound n None e = absurd cc
number_sound n (Some m) e = ap (λ k. Some k) (eqb-true m n e)

counted_sound : (o : Option (List ℕ)) (n : ℕ) → is_counted o n ≡ true → Counted o n
counted_sound None n e = tt
counted_sound (Some text) n e = (whole_reads (unsigned 32) (unsigned_at 32) (unsigned_reads 32)).sound text n
    (number_sound n (whole_at (unsigned_at 32) text) e)

counted_complete : (o : Option (List ℕ)) (n : ℕ) → Counted o n → is_counted o n ≡ true
counted_complete None n h = refl
counted_complete (Some text) n h =
    let e = (whole_reads (unsigned 32) (unsigned_at 32) (unsigned_reads 32)).complete text n h in
    ap (λ o. is_number n o) e ∙ eq-eqb n n refl

both_sound : {A B : Type 0} (a : Option A) (b : Option B) (x : A × B) → both_some a b ≡ Some x
    → (a ≡ Some x.0) × (b ≡ Some x.1)
both_sound None b x e = absurd cc
both_sound (Some y) None x e = absurd cc
both_sound (Some y) (Some z) x e = (
  ap (λ o. elim o [ Some p ↦ Some p.0 | None ↦ None ]) e,
  ap (λ o. elim o [ Some p ↦ Some p.1 | None ↦ None ]) e,
)

both_found : {A B : Type 0} (a : Option A) (b : Option B) (x : A) (y : B) → a ≡ Some x → b ≡ Some y
    → both_some a b ≡ pair_some x y
both_found a b x y e f = ap (λ o. both_some o b) e ∙ ap (λ o. both_some (Some x) o) f

-- the module has what these contents hold
record Gathers (c : Contents) (m : WasmModule) : Type 0 where
  types : Part func_type (c 1) m.types
  imports : Part imported (c 2) m.imports
  functions : Part (unsigned 32) (c 3) m.functions
  tables : Part table_type (c 4) m.tables
  memories : Part limits (c 5) m.memories
  globals : Part global (c 6) m.globals
  exports : Part exported (c 7) m.exports
  start : Alone (unsigned 32) (c 8) m.start
  elements : Part element (c 9) m.elements
  data_count : Counted (c 12) (length m.segments)
  bodies : Part body (c 10) m.bodies
  segments : Part segment (c 11) m.segments
  as_many : length m.functions ≡ length m.bodies

gathered : (c : Contents) (f : Front) (k : Middle) (b : Back) → front_sections c ≡ Some f
    → middle_sections c ≡ Some k → back_sections c ≡ Some b
    → length f.1.1.0 ≡ length b.1.0 → Counted (c 12) (length b.1.1) → Gathers c (module_of f k b)
unfolding front_sections middle_sections back_sections
gathered c f k b ef ek eb many count =
    let f1 = both_sound (part_at func_type_at (c 1))
    (both_some (part_at import_at (c 2))
    (both_some (part_at (unsigned_at 32) (c 3)) (part_at table_type_at (c 4)))) f ef in
    let f2 = both_sound (part_at import_at (c 2))
    (both_some (part_at (unsigned_at 32) (c 3)) (part_at table_type_at (c 4))) f.1 f1.1 in
    let f3 = both_sound (part_at (unsigned_at 32) (c 3)) (part_at table_type_at (c 4)) f.1.1 f2.1 in
    let k1 = both_sound (part_at limits_at (c 5))
    (both_some (part_at global_at (c 6))
    (both_some (part_at export_at (c 7)) (alone_at (unsigned_at 32) (c 8)))) k ek in
    let k2 = both_sound (part_at global_at (c 6))
    (both_some (part_at export_at (c 7)) (alone_at (unsigned_at 32) (c 8))) k.1 k1.1 in
    let k3 = both_sound (part_at export_at (c 7)) (alone_at (unsigned_at 32) (c 8)) k.1.1 k2.1 in
    let b1 = both_sound (part_at element_at (c 9))
    (both_some (part_at body_at (c 10)) (part_at segment_at (c 11))) b eb in
    let b2 = both_sound (part_at body_at (c 10)) (part_at segment_at (c 11)) b.1 b1.1 in
    record {
      types = part_sound func_type func_type_at func_type_reads (c 1) f.0 f1.0;
      imports = part_sound imported import_at import_reads (c 2) f.1.0 f2.0;
      functions = part_sound (unsigned 32) (unsigned_at 32) (unsigned_reads 32) (c 3) f.1.1.0 f3.0;
      tables = part_sound table_type table_type_at table_type_reads (c 4) f.1.1.1 f3.1;
      memories = part_sound limits limits_at limits_reads (c 5) k.0 k1.0;
      globals = part_sound global global_at global_reads (c 6) k.1.0 k2.0;
      exports = part_sound exported export_at export_reads (c 7) k.1.1.0 k3.0;
      start = alone_sound (unsigned 32) (unsigned_at 32) (unsigned_reads 32) (c 8) k.1.1.1 k3.1;
      elements = part_sound element element_at element_reads (c 9) b.0 b1.0;
      data_count = count;
      bodies = part_sound body body_at body_reads (c 10) b.1.0 b2.0;
      segments = part_sound segment segment_at segment_reads (c 11) b.1.1 b2.1;
      as_many = many;
    }

collected_sound : (c : Contents) (m : WasmModule) → module_from c ≡ Some m → Gathers c m
unfolding module_from
collected_sound c m e =
    let f = bind_some (front_sections c)
    (λ (f : Front). middle_sections c >>= λ k. back_sections c >>= λ b. if eqb (length f.1.1.0)
    (length b.1.0) && is_counted (c 12) (length b.1.1) then Some (module_of f k b) else None) m e in
    let k = bind_some (middle_sections c)
    (λ (k : Middle). back_sections c >>= λ b. if eqb (length f.0.1.1.0) (length b.1.0) && is_counted
    (c 12) (length b.1.1) then Some (module_of f.0 k b) else None) m f.2 in
    let b = bind_some (back_sections c)
    (λ (b : Back). if eqb (length f.0.1.1.0) (length b.1.0) && is_counted (c 12) (length b.1.1)
    then Some (module_of f.0 k.0 b) else None) m k.2 in
    let i = held_if (eqb (length f.0.1.1.0) (length b.0.1.0) && is_counted (c 12) (length b.0.1.1))
    (Some (module_of f.0 k.0 b.0)) m b.2 in
    let t = and_true (eqb (length f.0.1.1.0) (length b.0.1.0)) (is_counted (c 12) (length b.0.1.1)) i.0 in
    let g = gathered c f.0 k.0 b.0 f.1 k.1 b.1 (eqb-true (length f.0.1.1.0) (length b.0.1.0) t.0)
    (counted_sound (c 12) (length b.0.1.1) t.1) in
    let P : WasmModule → Type 0 = λ x. Gathers c x in
    let same : module_of f.0 k.0 b.0 ≡ m = ap (λ o. elim o [ Some x ↦ x | None ↦ m ]) i.1 in
    subst P same g

collected_complete : (c : Contents) (m : WasmModule) → Gathers c m → module_from c ≡ Some m
unfolding module_from front_sections middle_sections back_sections
collected_complete c m g =
    let f : front_sections c ≡ Some (m.types, (m.imports, (m.functions, m.tables))) =
    both_found (part_at func_type_at (c 1)) _ m.types _
    (part_complete func_type func_type_at func_type_reads (c 1) m.types g.types)
    (both_found (part_at import_at (c 2)) _ m.imports _
    (part_complete imported import_at import_reads (c 2) m.imports g.imports)
    (both_found (part_at (unsigned_at 32) (c 3)) (part_at table_type_at (c 4)) m.functions m.tables
    (part_complete (unsigned 32) (unsigned_at 32) (unsigned_reads 32) (c 3) m.functions g.functions)
    (part_complete table_type table_type_at table_type_reads (c 4) m.tables g.tables))) in
    let k : middle_sections c ≡ Some (m.memories, (m.globals, (m.exports, m.start))) =
    both_found (part_at limits_at (c 5)) _ m.memories _
    (part_complete limits limits_at limits_reads (c 5) m.memories g.memories)
    (both_found (part_at global_at (c 6)) _ m.globals _
    (part_complete global global_at global_reads (c 6) m.globals g.globals)
    (both_found (part_at export_at (c 7)) (alone_at (unsigned_at 32) (c 8)) m.exports m.start
    (part_complete exported export_at export_reads (c 7) m.exports g.exports)
    (alone_complete (unsigned 32) (unsigned_at 32) (unsigned_reads 32) (c 8) m.start g.start))) in
    let b : back_sections c ≡ Some (m.elements, (m.bodies, m.segments)) =
    both_found (part_at element_at (c 9)) _ m.elements _
    (part_complete element element_at element_reads (c 9) m.elements g.elements)
    (both_found (part_at body_at (c 10)) (part_at segment_at (c 11)) m.bodies m.segments
    (part_complete body body_at body_reads (c 10) m.bodies g.bodies)
    (part_complete segment segment_at segment_reads (c 11) m.segments g.segments)) in
    let many : eqb (length m.functions) (length m.bodies) ≡ true =
    eq-eqb (length m.functions) (length m.bodies) g.as_many in
    let count = counted_complete (c 12) (length m.segments) g.data_count in
    rw (f, k, b, many, count) refl

part_moved : {A : Type 0} (P : A → Texts) (o q : Option (List ℕ)) (xs : List A) → o ≡ q → Part P o xs
    → Part P q xs
part_moved P o q xs e h =
    let Q : Option (List ℕ) → Type 0 = λ z. Part P z xs in
    subst Q e h

alone_moved : {A : Type 0} (P : A → Texts) (o q : Option (List ℕ)) (x : Option A) → o ≡ q → Alone P o x
    → Alone P q x
alone_moved P o q x e h =
    let Q : Option (List ℕ) → Type 0 = λ z. Alone P z x in
    subst Q e h

counted_moved : (o q : Option (List ℕ)) (n : ℕ) → o ≡ q → Counted o n → Counted q n
counted_moved o q n e h =
    let Q : Option (List ℕ) → Type 0 = λ z. Counted z n in
    subst Q e h

gathers_moved : (c d : Contents) (m : WasmModule) → ((id : ℕ) → c id ≡ d id) → Gathers c m → Gathers d m
gathers_moved c d m e g = record {
  types = part_moved func_type (c 1) (d 1) m.types (e 1) g.types;
  imports = part_moved imported (c 2) (d 2) m.imports (e 2) g.imports;
  functions = part_moved (unsigned 32) (c 3) (d 3) m.functions (e 3) g.functions;
  tables = part_moved table_type (c 4) (d 4) m.tables (e 4) g.tables;
  memories = part_moved limits (c 5) (d 5) m.memories (e 5) g.memories;
  globals = part_moved global (c 6) (d 6) m.globals (e 6) g.globals;
  exports = part_moved exported (c 7) (d 7) m.exports (e 7) g.exports;
  start = alone_moved (unsigned 32) (c 8) (d 8) m.start (e 8) g.start;
  elements = part_moved element (c 9) (d 9) m.elements (e 9) g.elements;
  data_count = counted_moved (c 12) (d 12) (length m.segments) (e 12) g.data_count;
  bodies = part_moved body (c 10) (d 10) m.bodies (e 10) g.bodies;
  segments = part_moved segment (c 11) (d 11) m.segments (e 11) g.segments;
  as_many = g.as_many;
}

these_sound : (cs bytes rest : List ℕ) → after_these cs bytes ≡ Some rest → bytes ≡ cs ++ rest
these_sound [] bytes rest e = ap (λ o. elim o [ Some x ↦ x | None ↦ bytes ]) e
these_sound (c ∷ cs) [] rest e = absurd cc
these_sound (c ∷ cs) (b ∷ bs) rest e =
    let i = held_if (eqb b c) (after_these cs bs) rest e in
    ap (λ k. k ∷ bs) (eqb-true b c i.0) ∙ ap (λ xs. c ∷ xs) (these_sound cs bs rest i.1)

these_found : (cs rest : List ℕ) → after_these cs (cs ++ rest) ≡ Some rest
these_found [] rest = refl
these_found (c ∷ cs) rest =
    let test : eqb c c ≡ true = eq-eqb c c refl in
    let others = these_found cs rest in
    (rw test refl) ∙ others

module_sound : (bytes : List ℕ) (m : WasmModule) → module_at bytes ≡ Some m → SpellsModule bytes m
unfolding module_at sections_at
module_sound bytes m e =
    let r = bind_some (after_these preamble bytes) (λ (rest : List ℕ). sections_at rest) m e in
    let rest : List ℕ = r.0 in
    let o = bind_some (ordered_at (length rest) 0 rest) (λ last. module_from (contents_in rest)) m r.2 in
    let s = ordered_sound (length rest) 0 rest o.0 o.1 in
    let found = λ (id : ℕ). contents_found s.0 (length rest) id rest s.1 (omega arith) in
    let g = gathers_moved (contents_in rest) (λ id. contents id s.0) m found
    (collected_sound (contents_in rest) m o.2) in (
      s.0,
      rest,
      these_sound preamble bytes rest r.1,
      s.1,
      record {
        order = s.2;
        types = g.types;
        imports = g.imports;
        functions = g.functions;
        tables = g.tables;
        memories = g.memories;
        globals = g.globals;
        exports = g.exports;
        start = g.start;
        elements = g.elements;
        data_count = g.data_count;
        bodies = g.bodies;
        segments = g.segments;
        as_many = g.as_many;
      },
    )

-- each type that is read has at most one result
items_few : (ts : List Signature) (text : List ℕ) → items func_type ts text
    → All (λ s. length s.results ≤ 1) ts
items_few [] text h = λ k d below. absurd (omega (arith, below))
items_few (t ∷ ts) text h = All-cons (λ s. length s.results ≤ 1) t ts h.3.0 (items_few ts h.1 h.4)

part_few : (o : Option (List ℕ)) (ts : List Signature) → Part func_type o ts
    → All (λ s. length s.results ≤ 1) ts
part_few None ts h = subst (λ (xs : List Signature). All (λ s. length s.results ≤ 1) xs) (sym h)
    (λ k d below. absurd (omega (arith, below)))
part_few (Some text) ts h = items_few ts h.1 h.4

pub front_few : (c : Contents) (f : Front) → front_sections c ≡ Some f → All (λ s. length s.results ≤ 1) f.0
unfolding front_sections
front_few c f e =
    let f1 = both_sound (part_at func_type_at (c 1))
    (both_some (part_at import_at (c 2))
    (both_some (part_at (unsigned_at 32) (c 3)) (part_at table_type_at (c 4)))) f e in
    part_few (c 1) f.0 (part_sound func_type func_type_at func_type_reads (c 1) f.0 f1.0)

pub module_complete : (bytes : List ℕ) (m : WasmModule) → SpellsModule bytes m → module_at bytes ≡ Some m
unfolding module_at sections_at
module_complete bytes m (ss, rest, e, spelled, c) =
    let order = ordered_complete ss (length rest) 0 rest spelled c.order (omega arith) in
    let back = λ (id : ℕ). sym (contents_found ss (length rest) id rest spelled (omega arith)) in
    let g : Gathers (λ id. contents id ss) m = record {
      types = c.types;
      imports = c.imports;
      functions = c.functions;
      tables = c.tables;
      memories = c.memories;
      globals = c.globals;
      exports = c.exports;
      start = c.start;
      elements = c.elements;
      data_count = c.data_count;
      bodies = c.bodies;
      segments = c.segments;
      as_many = c.as_many;
    } in
    let last = order.1 in
    let all = collected_complete (contents_in rest) m
    (gathers_moved (λ id. contents id ss) (contents_in rest) m back g) in
    ap (λ b. after_these preamble b >>= λ t. sections_at t) e
    ∙ ap (λ o. o >>= λ t. sections_at t) (these_found preamble rest) ∙ (rw last all)

pub no_module_is_read : (bytes : List ℕ) (m : WasmModule) → module_at bytes ≡ None → module_at bytes ≡ Some m
    → ⊥
no_module_is_read bytes m none some = let e : Some m ≡ None = sym some ∙ none in absurd cc

pub read_exactly : (bytes : List ℕ) (r : Result WasmModule ReadRefusal)
    → Answers (λ c. module_at bytes ≡ Some c) (module_at bytes ≡ None) r
    → Answers (λ c. SpellsModule bytes c) ((m : WasmModule) → SpellsModule bytes m → ⊥) r
read_exactly bytes (Ok c) h = module_sound bytes c h
read_exactly bytes (Err e) h = refused (module_at bytes ≡ None) ((m : WasmModule) → SpellsModule bytes m → ⊥)
    (λ none m s. no_module_is_read bytes m none (module_complete bytes m s)) e h

pub at_most_one_module : AtMostOneModule
at_most_one_module bytes m n h k =
    ap (λ o. elim o [ Some x ↦ x | None ↦ m ]) (sym (module_complete bytes m h) ∙ module_complete bytes n k)
