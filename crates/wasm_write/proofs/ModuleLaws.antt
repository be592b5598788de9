-- The bytes of a module encode it.
use Rattle.std.proofs.Common.{◌≡◌, ℕ, ◌+◌, ◌-◌, ◌*◌, ◌≤◌, inl, inr, List, [], ◌∷◌, ◌++◌, length, Option, Some}
use Rattle.std.proofs.Common.{None, refl, ap, sym, subst, ◌∙◌, append_assoc, append-nil, arith}
use Rattle.std.specs.Prelude.{flat_map, IfSome, option_map}
use Rattle.w4_defs.specs.BinaryText.{Texts}
use Rattle.w4_defs.specs.BinaryNumber.{leb, LastUnsigned, unsigned}
use Rattle.w4_defs.specs.BinaryType.{func_type, limits, table_type}
use Rattle.w4_defs.specs.BinarySection.{contents, Part, Alone, Counted}
use Rattle.w4_defs.specs.BinaryModule.{preamble, imported, global, exported, element, body, segment, Collects}
use Rattle.w4_defs.specs.BinaryModule.{SpellsModule}
use Rattle.w4_defs.specs.Module.{WasmModule}
use Rattle.w4_defs.specs.EncodeNumber.{unsigned_bytes}
use Rattle.w4_defs.specs.EncodeType.{func_type_bytes, limits_bytes, table_type_bytes}
use Rattle.w4_defs.specs.EncodeModule.{imported_bytes, global_bytes, exported_bytes, element_bytes}
use Rattle.w4_defs.specs.EncodeModule.{body_bytes, data_segment_bytes, part, section_bytes, first_sections}
use Rattle.w4_defs.specs.EncodeModule.{last_sections, module_bytes}
use Rattle.wasm_write.specs.Fits.{IndexFits, SectionFits, TypeFits, LimitsFit, ImportFits, GlobalFits}
use Rattle.wasm_write.specs.Fits.{ExportFits, ElementFits, FunctionFits, SegmentFits, ModuleFits}
use Rattle.wasm_write.specs.Sections.{slots, present, held, IdsRise}
use Rattle.wasm_write.proofs.NumberLaws.{unsigned_encodes}
use Rattle.wasm_write.proofs.CombineLaws.{vector_encodes}
use Rattle.wasm_write.proofs.ItemLaws.{func_type_encodes, limits_encode, table_type_encodes, import_encodes}
use Rattle.wasm_write.proofs.ItemLaws.{global_encodes, export_encodes, element_encodes, body_encodes}
use Rattle.wasm_write.proofs.ItemLaws.{segment_encodes}
use Rattle.wasm_write.proofs.SectionLaws.{in_order, contents_present, SlotsFit, slot_bytes, sections_encode}

-- ---- sizes

-- a number of w bits has at most w / 7 + 1 bytes
pub leb_is_short : (Last : ℕ → ℕ → ℕ → Type 0) (w n : ℕ) (text : List ℕ) → leb Last w n text
    → 7 * length text ≤ w + 7
leb_is_short Last w n [] h = absurd h
leb_is_short Last w n (b ∷ bs) (inl (e, h)) = omega (arith, ap length e)
leb_is_short Last w n (b ∷ bs) (inr (up, wide, m, sum, h)) = omega (arith, leb_is_short Last (w - 7) m bs h)

start_fits : (start : Option ℕ) → IfSome start IndexFits
    → IfSome (option_map unsigned_bytes start) (λ text. IndexFits (length text))
start_fits None h = tt
start_fits (Some index) h =
    let short : 7 * length (unsigned_bytes index) ≤ 32 + 7 =
    leb_is_short LastUnsigned 32 index (unsigned_bytes index) (unsigned_encodes 32 index h) in
    omega arith

part_fits : {A : Type 0} (Fits : A → Type 0) (encode : A → List ℕ) (xs : List A) → SectionFits Fits encode xs
    → IfSome (part encode xs) (λ text. IndexFits (length text))
part_fits Fits encode [] h = tt
part_fits Fits encode (x ∷ xs) h = h.1

slots_fit : (m : WasmModule) → ModuleFits m → SlotsFit (slots m)
slots_fit m h = (
  part_fits TypeFits func_type_bytes m.types h.types,
  (
    part_fits ImportFits imported_bytes m.imports h.imports,
    (
      part_fits IndexFits unsigned_bytes m.functions h.functions,
      (
        part_fits LimitsFit table_type_bytes m.tables h.tables,
        (
          part_fits LimitsFit limits_bytes m.memories h.memories,
          (
            part_fits GlobalFits global_bytes m.globals h.globals,
            (
              part_fits ExportFits exported_bytes m.exports h.exports,
              (
                start_fits m.start h.start,
                (
                  part_fits ElementFits element_bytes m.elements h.elements,
                  (
                    part_fits FunctionFits body_bytes m.bodies h.bodies,
                    (part_fits SegmentFits data_segment_bytes m.segments h.segments, tt),
                  ),
                ),
              ),
            ),
          ),
        ),
      ),
    ),
  ),
)

-- ---- order and contents

ids_rise : (m : WasmModule) → IdsRise 0 (slots m)
ids_rise m = (
  omega arith,
  (
    omega arith,
    (
      omega arith,
      (
        omega arith,
        (
          omega arith,
          (
            omega arith,
            (
              omega arith,
              (
                omega arith,
                (
                  omega arith,
                  (
                    omega arith,
                    (
                      omega arith,
                      (
                        omega arith,
                        (
                          omega arith,
                          (
                            omega arith,
                            (
                              omega arith,
                              (
                                omega arith,
                                (
                                  omega arith,
                                  (
                                    omega arith,
                                    (omega arith, (omega arith, (omega arith, (omega arith, tt)))),
                                  ),
                                ),
                              ),
                            ),
                          ),
                        ),
                      ),
                    ),
                  ),
                ),
              ),
            ),
          ),
        ),
      ),
    ),
  ),
)

part_encodes : {A : Type 0} (spelled : A → Texts) (encode : A → List ℕ) (Fits : A → Type 0)
    → ((x : A) → Fits x → spelled x (encode x))
    → (xs : List A) → SectionFits Fits encode xs → Part spelled (part encode xs) xs
part_encodes spelled encode Fits one [] h = refl
part_encodes spelled encode Fits one (x ∷ xs) h = vector_encodes spelled encode Fits one (x ∷ xs) h.0

-- what the slot of an id has is what the sections hold by it
placed : {A : Type 0} (spelled : A → Texts) (xs : List A) (m : WasmModule) (id : ℕ)
    → Part spelled (held id (slots m)) xs → Part spelled (contents id (present (slots m))) xs
placed spelled xs m id h =
    let P : Option (List ℕ) → Type 0 = λ o. Part spelled o xs in
    subst P (sym (contents_present id 0 (slots m) (ids_rise m))) h

start_encodes : (start : Option ℕ) → IfSome start IndexFits
    → Alone (unsigned 32) (option_map unsigned_bytes start) start
start_encodes None h = refl
start_encodes (Some index) h = (index, refl, unsigned_encodes 32 index h)

start_placed : (m : WasmModule) → IfSome m.start IndexFits
    → Alone (unsigned 32) (contents 8 (present (slots m))) m.start
start_placed m h =
    let P : Option (List ℕ) → Type 0 = λ o. Alone (unsigned 32) o m.start in
    subst P (sym (contents_present 8 0 (slots m) (ids_rise m))) (start_encodes m.start h)

uncounted : (m : WasmModule) → Counted (contents 12 (present (slots m))) (length m.segments)
uncounted m =
    let P : Option (List ℕ) → Type 0 = λ o. Counted o (length m.segments) in
    subst P (sym (contents_present 12 0 (slots m) (ids_rise m))) tt

collects : (m : WasmModule) → ModuleFits m → Collects (present (slots m)) m
collects m h = record {
  order = in_order 0 (slots m) (omega arith) (ids_rise m);
  types = placed func_type m.types m 1
      (part_encodes func_type func_type_bytes TypeFits func_type_encodes m.types h.types);
  imports = placed imported m.imports m 2
      (part_encodes imported imported_bytes ImportFits import_encodes m.imports h.imports);
  functions = placed (unsigned 32) m.functions m 3
      (part_encodes (unsigned 32) unsigned_bytes IndexFits (unsigned_encodes 32) m.functions h.functions);
  tables = placed table_type m.tables m 4
      (part_encodes table_type table_type_bytes LimitsFit table_type_encodes m.tables h.tables);
  memories = placed limits m.memories m 5
      (part_encodes limits limits_bytes LimitsFit limits_encode m.memories h.memories);
  globals = placed global m.globals m 6
      (part_encodes global global_bytes GlobalFits global_encodes m.globals h.globals);
  exports = placed exported m.exports m 7
      (part_encodes exported exported_bytes ExportFits export_encodes m.exports h.exports);
  start = start_placed m h.start;
  elements = placed element m.elements m 9
      (part_encodes element element_bytes ElementFits element_encodes m.elements h.elements);
  data_count = uncounted m;
  bodies = placed body m.bodies m 10
      (part_encodes body body_bytes FunctionFits body_encodes m.bodies h.bodies);
  segments = placed segment m.segments m 11
      (part_encodes segment data_segment_bytes SegmentFits segment_encodes m.segments h.segments);
  as_many = h.as_many;
}

-- ---- bytes

regrouped : (a b c d e f g h i j k : List ℕ) → (a ++ b ++ c ++ d ++ e ++ f) ++ (g ++ h ++ i ++ j ++ k)
    ≡ a ++ (b ++ (c ++ (d ++ (e ++ (f ++ (g ++ (h ++ (i ++ (j ++ (k ++ []))))))))))
regrouped a b c d e f g h i j k = simp (append_assoc, append-nil)

sections_together : (m : WasmModule) → first_sections m ++ last_sections m ≡ flat_map slot_bytes (slots m)
unfolding first_sections last_sections
sections_together m =
    regrouped
    (section_bytes 1 (part func_type_bytes m.types))
    (section_bytes 2 (part imported_bytes m.imports))
    (section_bytes 3 (part unsigned_bytes m.functions))
    (section_bytes 4 (part table_type_bytes m.tables))
    (section_bytes 5 (part limits_bytes m.memories))
    (section_bytes 6 (part global_bytes m.globals))
    (section_bytes 7 (part exported_bytes m.exports))
    (section_bytes 8 (option_map unsigned_bytes m.start))
    (section_bytes 9 (part element_bytes m.elements))
    (section_bytes 10 (part body_bytes m.bodies))
    (section_bytes 11 (part data_segment_bytes m.segments))

pub module_encodes : (m : WasmModule) → ModuleFits m → SpellsModule (module_bytes m) m
unfolding module_bytes
module_encodes m h = (
  present (slots m),
  flat_map slot_bytes (slots m),
  append_assoc preamble (first_sections m) (last_sections m) ∙ ap (λ t. preamble ++ t) (sections_together m),
  sections_encode (slots m) (slots_fit m h),
  collects m h,
)
