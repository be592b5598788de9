use Rattle.std.proofs.Common.{◌∷◌, ◌∙◌, ap, sym, append-nil, [], get_or, length, refl}
use Rattle.std.proofs.lemmas.Option.{slice_get_read}
use Rattle.wasm_valid.proofs.CallLaws.{imports_more, no_call, import_right}
use Rattle.wasm_valid.proofs.calls.with_import.Goals as goal

pub returns-in_default : goal.returns-in_default
returns-in_default c =
    let m = c.args.code.now in
    let x = c.index-imports-i.result in
    imports_more m c.args.i x [] c.args.calls.items c.args.calls.items c.requires.within
    (c.index-imports-i.is ∙ ap (λ xs. get_or xs c.args.i x) c.imports.ensures)
    (sym (append-nil c.args.calls.items))
    (no_call m x (λ index e. c.in_default.not-Func index (ap (λ i. i.kind) c.import.view_is ∙ e)))

pub import_call-requires-clause-right : goal.import_call-requires-clause-right
import_call-requires-clause-right c =
    let m = c.args.code.now in
    let x = c.index-imports-i.result in
    import_right m c.args.i x c.requires.ready.profile
    (slice_get_read m.imports (length m.imports) c.args.i x refl c.requires.within
    (c.index-imports-i.is ∙ ap (λ xs. get_or xs c.args.i x) c.imports.ensures))

pub returns : goal.returns
returns c =
    let m = c.args.code.now in
    let x = c.index-imports-i.result in
    imports_more m c.args.i x (c.import_call.result ∷ []) c.args.calls.items _ c.requires.within
    (c.index-imports-i.is ∙ ap (λ xs. get_or xs c.args.i x) c.imports.ensures)
    c.in_ok-push.ensures.items c.import_call.ensures
