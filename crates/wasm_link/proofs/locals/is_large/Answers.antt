use Rattle.std.proofs.Common.{Some, ◌+◌, length, arith, ap, sym, ◌∙◌}
use Rattle.std.specs.Prelude.{nat_lt, slice_get}
use Rattle.std.proofs.lemmas.Option.{slice_get-get_or}
use Rattle.w4_defs.specs.Lookup.{local_count}
use Rattle.wasm_link.proofs.ListSteps.{zip_at}
use Rattle.wasm_link.proofs.locals.is_large.Goals as goal

pub returns : goal.returns
returns c =
    let m = c.args.code.now in
    let func = c.args.func in
    let value = c.functions-functions.ensures.value in
    let index = ap (λ xs. slice_get xs func) (sym value)
    ∙ slice_get-get_or c.functions-functions.result.now func 0
    (omega (arith, c.requires, c.functions-functions.ensures.as_many_bodies, ap length value)) in
    zip_at m m.functions m.bodies func _ c.runs.result.now index c.runs.ensures
    ∙ ap Some (ap (λ n. nat_lt 1024 (n + local_count c.runs.result.now)) (sym c.param_count.ensures)
    ∙ sym c.exceeds.ensures)
