use Rattle.std.proofs.Common.{◌≡◌, ◌∙◌, ap, refl, length, arith}
use Rattle.std.specs.Prelude.{nat_eq, not}
use Rattle.std.specs.Vec.{vec_len}
use Rattle.std.proofs.lemmas.List.Sums.{count_by-le-length}
use Rattle.wasm_valid.specs.Calls.{number_of_type}
use Rattle.wasm_valid.specs.Instructions.{is_instruction}
use Rattle.wasm_valid.proofs.CallLaws.{few_results, few_runs, gives_of, own_call_is}
use Rattle.wasm_valid.proofs.calls.own_call.Goals as goal

pub local_count-zeros-requires : goal.local_count-zeros-requires
local_count-zeros-requires c =
    omega (
      arith,
      few_runs c.args.code.now c.args.func _ c.runs.result.now c.requires.ready.profile
          c.own_type-signature.ensures c.runs.ensures,
    )

pub overflow_add-result : goal.overflow_add-result
overflow_add-result c =
    let s = c.own_type-signature.result.now in
    let params : c.len-params.result ≡ length s.params =
    omega (
      arith,
      c.len-params.ensures,
      c.signature.inside.params.ok,
      ap (λ t. length t.params) c.signature.view_is,
    ) in
    omega (
      arith,
      few_runs c.args.code.now c.args.func s c.runs.result.now c.requires.ready.profile
          c.own_type-signature.ensures c.runs.ensures,
      c.local_count-zeros.ensures,
    )

pub overflow_add-result-2 : goal.overflow_add-result-2
overflow_add-result-2 c =
    let s = c.own_type-signature.result.now in
    let params : c.len-params.result ≡ length s.params =
    omega (
      arith,
      c.len-params.ensures,
      c.signature.inside.params.ok,
      ap (λ t. length t.params) c.signature.view_is,
    ) in
    omega (
      arith,
      few_runs c.args.code.now c.args.func s c.runs.result.now c.requires.ready.profile
          c.own_type-signature.ensures c.runs.ensures,
      c.local_count-zeros.ensures,
      c.instruction_count-instructions.ensures,
      count_by-le-length is_instruction c.body.result.now,
      c.body.type_inv,
    )

pub returns : goal.returns
returns c =
    let m = c.args.code.now in
    let s = c.own_type-signature.result.now in
    let params : c.len-params.result ≡ length s.params =
    omega (
      arith,
      c.len-params.ensures,
      c.signature.inside.params.ok,
      ap (λ t. length t.params) c.signature.view_is,
    ) in
    let results : vec_len c.signature.inside.results ≡ length s.results =
    omega (arith, c.signature.inside.results.ok, ap (λ t. length t.results) c.signature.view_is) in
    let few = few_results m c.args.func s c.results_are_few.ensures c.own_type-signature.ensures in
    own_call_is m c.args.func s c.runs.result.now c.body.result.now c.number_of_type.result
    c.body_start.result c.len-params.result c.local_count-zeros.result c.instruction_count-instructions.result
    _ (not c.is_empty.result)
    c.own_type-signature.ensures c.runs.ensures c.body.ensures.value c.body.ensures.proper
    c.body_start.ensures.stands
    (c.number_of_type.ensures ∙ ap (λ ts. number_of_type ts s) c.types.ensures) params
    c.local_count-zeros.ensures
    (gives_of c.is_empty.result (length s.results)
    (c.is_empty.ensures ∙ ap (λ n. nat_eq n 0) results) few)
    c.instruction_count-instructions.ensures refl
