use Rattle.std.proofs.Common.{◌≡◌, ◌∙◌, Bool, Some, ap, sym, option_map, arith, length}
use Rattle.std.specs.Prelude.{◌↔◌, slice_get, IsTrue}
use Rattle.std.proofs.lemmas.Option.{slice_get-get_or}
use Rattle.w4_defs.specs.Validity.{IsTypedAt}
use Rattle.wasm_valid.specs.AbstractStackLaw.{body_stands}
use Rattle.wasm_valid.proofs.ProfileFacts.{no_cause}
use Rattle.std.proofs.lemmas.Result.{IfOk-weaker}
use Rattle.wasm_valid.proofs.BodyMarkLaws.{body_is_typed, untyped}
use Rattle.wasm_valid.proofs.body.body_has_type.Goals as goal

pub returns-in-Some : goal.returns-in-Some
returns-in-Some c =
    let m = c.args.code.now in
    let func = c.args.func in
    let value = c.functions.ensures.value in
    let index =
    ap (λ xs. slice_get xs func) (sym value)
    ∙ slice_get-get_or c.functions.result.now func 0
    (omega (arith, c.requires.body, c.functions.ensures.as_many_bodies, ap length value)) in
    IfOk-weaker c.has_type.result
    (λ (r : Bool). option_map (body_stands m c.in-Some.signature.now) (slice_get m.bodies func) ≡ Some r)
    (λ r. IsTrue r ↔ IsTypedAt m func)
    (λ r h. body_is_typed m func _ c.in-Some.signature.now r (no_cause m c.requires.profile).floats index
    (sym c.type_at.ensures ∙ ap (option_map (λ s. s.now)) c.in-Some.is) h)
    c.has_type.ensures

pub returns-in-None : goal.returns-in-None
returns-in-None c =
    let m = c.args.code.now in
    let func = c.args.func in
    let value = c.functions.ensures.value in
    let index =
    ap (λ xs. slice_get xs func) (sym value)
    ∙ slice_get-get_or c.functions.result.now func 0
    (omega (arith, c.requires.body, c.functions.ensures.as_many_bodies, ap length value)) in
    untyped m func _ index (sym c.type_at.ensures ∙ ap (option_map (λ s. s.now)) c.in-None.is)
