use Rattle.std.proofs.Common.{◌≡◌, ◌∙◌, ◌++◌, ◌∷◌, [], List, ap, sym, append_assoc}
use Rattle.std.specs.Prelude.{flat_map}
use Rattle.std.specs.List.{range_with_len}
use Rattle.w4_defs.specs.declared.operation.Op.{Op}
use Rattle.w4_defs.specs.declared.operation.Op.TheVariants.{Call}
use Rattle.w4_defs.specs.Generator.{step_of, byte_at, update_function}
use Rattle.w4_defs.specs.Tree.{sequence}
use Rattle.w4_defs.specs.View.{before, expression_of}
use Rattle.wasm_write.specs.Sequences.{expression_onto}
use Rattle.wasm_write.proofs.PartsOfModules.{same_function}
use Rattle.wasm_write.proofs.SequenceLaws.{onto_done, pushed}
use Rattle.wasm_write.proofs.made.update_function.Goals as goal

pub returns : goal.returns
unfolding before update_function
returns c =
    let last : List Op = Call 0 ∷ [] in
    let bytes : List Op = flat_map byte_at (6560 ∷ 6564 ∷ 6568 ∷ 6572 ∷ []) in
    let steps : List Op = flat_map step_of (range_with_len 0 64) in
    let list : expression_of c.push.new.self.items ≡ sequence (steps ++ bytes ++ last) =
    sym (onto_done c.push.new.self.items)
    ∙ pushed _ _ _ c.in_ok-push.ensures.items (sequence [])
    ∙ c.in_ok-byte_of_word-4.ensures last
    ∙ c.in_ok-byte_of_word-3.ensures (byte_at 6572 ++ last)
    ∙ c.in_ok-byte_of_word-2.ensures (byte_at 6568 ++ (byte_at 6572 ++ last))
    ∙ c.in_ok-byte_of_word.ensures (byte_at 6564 ++ (byte_at 6568 ++ (byte_at 6572 ++ last)))
    ∙ c.in_ok-steps.ensures (bytes ++ last)
    ∙ ap (λ is. expression_onto is (sequence (steps ++ (bytes ++ last)))) c.new-list.ensures.items
    ∙ ap sequence (sym (append_assoc steps bytes last))
    in
    same_function c.new-runs.ensures.items list
