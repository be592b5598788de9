use Rattle.std.proofs.Common.{◌≡◌, ap, sym, ◌∙◌, ◌<◌, length, arith}
use Rattle.std.specs.Prelude.{slice_get, Some, nat_eq}
use Rattle.std.specs.Vec.{vec_len}
use Rattle.std.proofs.lemmas.Option.{slice_get_within, slice_get-get_or}
use Rattle.w4_defs.specs.ImportNames.{import_named}
use Rattle.wasm_valid.specs.Calls.{number_of_type}
use Rattle.wasm_valid.proofs.CallLaws.{function_import, import_call_is}
use Rattle.wasm_valid.proofs.calls.import_call.Goals as goal

pub bounds-types-index : goal.bounds-types-index
bounds-types-index c =
    let f = function_import c.args.code.now c.args.import.now c.args.index c.requires.kind c.requires.right in
    omega (arith, slice_get_within c.args.code.now.types c.args.index _ f.typed, ap length c.types.ensures)

pub unreachable-requires : goal.unreachable-requires
unreachable-requires c =
    let x = c.args.import.now in
    let f = function_import c.args.code.now x c.args.index c.requires.kind c.requires.right in
    let named =
    c.import_named.ensures ∙ ap (λ n. import_named n c.deref-2.result.now)
    (c.deref.ensures.value ∙ ap (λ i. i.module_name) c.import.view_is)
    ∙ ap (import_named x.module_name) (c.deref-2.ensures.value ∙ ap (λ i. i.name) c.import.view_is)
    ∙ f.named in
    c.in_default.not-Some f.name named

pub returns : goal.returns
returns c =
    let m = c.args.code.now in
    let x = c.args.import.now in
    let s = c.index-types-index.result in
    let f = function_import m x c.args.index c.requires.kind c.requires.right in
    let named =
    ap (λ n. import_named n c.deref-2.result.now)
    (c.deref.ensures.value ∙ ap (λ i. i.module_name) c.import.view_is)
    ∙ ap (import_named x.module_name) (c.deref-2.ensures.value ∙ ap (λ i. i.name) c.import.view_is) in
    let below : c.args.index < length c.types.result.now =
    omega (arith, slice_get_within m.types c.args.index _ f.typed, ap length c.types.ensures) in
    let typed =
    ap (λ xs. slice_get xs c.args.index) (sym c.types.ensures)
    ∙ slice_get-get_or c.types.result.now c.args.index s below ∙ ap Some (sym c.index-types-index.is) in
    let params : c.len.result ≡ length s.params =
    omega (
      arith,
      c.len.ensures,
      c.signature.inside.params.ok,
      ap (λ t. length t.params) c.signature.view_is,
    ) in
    let results : vec_len c.signature.inside.results ≡ length s.results =
    omega (arith, c.signature.inside.results.ok, ap (λ t. length t.results) c.signature.view_is) in
    import_call_is m x c.args.index c.in-Some.name s c.number_of_type.result c.len.result c.is_empty.result
    c.requires.kind c.requires.right
    (sym named ∙ sym c.import_named.ensures ∙ c.in-Some.is) typed
    (c.number_of_type.ensures ∙ ap (λ ts. number_of_type ts s) c.types-2.ensures) params
    (c.is_empty.ensures ∙ ap (λ n. nat_eq n 0) results)
