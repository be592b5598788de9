use Rattle.std.proofs.Common.{◌≡◌, ◌∙◌, ◌∷◌, [], List, ap, sym}
use Rattle.w4_defs.specs.declared.operation.Op.{Op}
use Rattle.w4_defs.specs.declared.operation.Op.TheVariants.{LocalGet, Basic}
use Rattle.w4_defs.specs.declared.basic.Basic.TheVariants.{I32Const}
use Rattle.w4_defs.specs.Generator.{chosen}
use Rattle.w4_defs.specs.Tree.{sequence}
use Rattle.w4_defs.specs.View.{before, expression_of}
use Rattle.wasm_write.specs.Sequences.{expression_onto}
use Rattle.wasm_write.proofs.PartsOfModules.{same_function}
use Rattle.wasm_write.proofs.SequenceLaws.{onto_done, pushed}
use Rattle.wasm_write.proofs.made.function_of_draws.Goals as goal

pub returns : goal.returns
unfolding before
returns c =
    let last : List Op = chosen c.args.second ∷ [] in
    let four : List Op = Basic (I32Const c.args.value) ∷ last in
    let three : List Op = chosen c.args.first ∷ four in
    let whole : List Op = LocalGet 0 ∷ LocalGet 1 ∷ three in
    let list : expression_of c.push-5.new.self.items ≡ sequence whole =
    sym (onto_done c.push-5.new.self.items)
    ∙ pushed _ _ _ c.in_ok-push-5.ensures.items (sequence [])
    ∙ ap (expression_onto c.push-4.new.self.items) (c.choice-2.ensures [])
    ∙ pushed _ _ _ c.in_ok-push-4.ensures.items (sequence last)
    ∙ pushed _ _ _ c.in_ok-push-3.ensures.items (sequence four)
    ∙ ap (expression_onto c.push-2.new.self.items) (c.choice.ensures four)
    ∙ pushed _ _ _ c.in_ok-push-2.ensures.items (sequence three)
    ∙ pushed _ _ _ c.in_ok-push.ensures.items (sequence (LocalGet 1 ∷ three))
    ∙ ap (λ is. expression_onto is (sequence whole)) c.new-list.ensures.items
    in
    same_function c.new-runs.ensures.items list
