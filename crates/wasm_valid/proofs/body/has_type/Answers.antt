use Rattle.std.proofs.Common.{◌≡◌, ◌∙◌, ◌∷◌, [], Bool, Some, ap, option_map}
use Rattle.std.specs.Prelude.{◌↔◌, slice_get, IsTrue}
use Rattle.wasm_valid.specs.Pass.{opened, blocks_after}
use Rattle.wasm_valid.specs.AbstractStackLaw.{body_stands}
use Rattle.wasm_valid.specs.BodyMarks.{body_marks}
use Rattle.std.proofs.lemmas.Result.{IfOk-weaker}
use Rattle.wasm_valid.proofs.BodyMarkLaws.{decided}
use Rattle.wasm_valid.proofs.body.has_type.Goals as goal

pub returns : goal.returns
returns c =
    let m = c.args.code.now in
    let s = c.args.signature.now in
    let func = c.args.func in
    IfOk-weaker c.goes_through.result
    (λ (r : Bool). IsTrue r
    ↔ (blocks_after c.in_ok-scope.scope (body_marks m func) c.new-control.result ≡ Some []))
    (λ r. option_map (body_stands m s) (slice_get m.bodies func) ≡ Some r)
    (λ r h. decided m s (slice_get m.bodies func) c.runs.result.now c.in_ok-scope.scope c.new-control.result r
    c.runs.ensures c.goes_through.ensures.proper
    c.in_ok-scope.ensures (c.new-control.ensures
    ∙ ap (λ ts. opened ts ts ∷ []) (c.deref.ensures.value ∙ ap (λ x. x.results) c.signature.view_is)) h)
    c.goes_through.ensures.value
