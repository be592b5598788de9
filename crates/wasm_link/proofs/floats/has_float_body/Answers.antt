use Rattle.std.proofs.Common.{Some, ap, sym, ◌∙◌}
use Rattle.std.specs.Prelude.{◌||◌, slice_get}
use Rattle.std.specs.List.{list_any}
use Rattle.wasm_link.specs.Judging.{is_float_mark}
use Rattle.wasm_link.proofs.FloatLaws.{body_flag}
use Rattle.wasm_link.proofs.floats.has_float_body.Goals as goal

pub returns-else-in_runs : goal.returns-else-in_runs
returns-else-in_runs c =
    body_flag (slice_get c.args.code.now.bodies c.args.func) c.runs.result.now c.body.result.now
    c.runs.ensures c.body.ensures.value c.body.ensures.proper
    ∙ ap (λ b. Some (b || list_any is_float_mark c.body.result.now))
    (sym c.any-in_runs.ensures ∙ c.if-in_runs.false) ∙ ap Some (sym c.any-in_list.ensures)
