use Rattle.std.proofs.Common.{◌≡◌, ap, sym, ◌∙◌, ◌++◌}
use Rattle.std.specs.Prelude.{◌||◌}
use Rattle.std.specs.List.{list_any}
use Rattle.w4_defs.specs.Floats.{is_float}
use Rattle.wasm_link.specs.Judging.{imports_float}
use Rattle.wasm_link.proofs.FloatLaws.{global_floats}
use Rattle.wasm_link.proofs.floats.has_float_globals.Goals as goal

pub returns-then-imported : goal.returns-then-imported
returns-then-imported c =
    let m = c.args.code.now in
    let own = c.any-own.ensures ∙ ap (list_any (λ g. is_float g.global.value)) c.globals.ensures in
    let imported = c.any-imported.ensures ∙ ap (list_any (λ i. imports_float i.kind)) c.imports.ensures in
    c.if-imported.true ∙ sym (ap (λ b. b || c.any-own.result) c.if-imported.true)
    ∙ ap (λ b. b || c.any-own.result) imported
    ∙ ap (λ b. list_any (λ i. imports_float i.kind) m.imports || b) own
    ∙ global_floats m.imports m.globals

pub returns-else-imported : goal.returns-else-imported
returns-else-imported c =
    let m = c.args.code.now in
    let own = c.any-own.ensures ∙ ap (list_any (λ g. is_float g.global.value)) c.globals.ensures in
    let imported = c.any-imported.ensures ∙ ap (list_any (λ i. imports_float i.kind)) c.imports.ensures in
    sym (ap (λ b. b || c.any-own.result) c.if-imported.false)
    ∙ ap (λ b. b || c.any-own.result) imported
    ∙ ap (λ b. list_any (λ i. imports_float i.kind) m.imports || b) own
    ∙ global_floats m.imports m.globals
