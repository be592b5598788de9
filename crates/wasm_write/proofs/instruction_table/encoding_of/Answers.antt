-- Where an instruction holds lists, their trees are those of the lists' items.
use Rattle.std.proofs.Common.{◌++◌, ◌∷◌, ap, ◌∙◌, sym, append_assoc}
use Rattle.w4_defs.specs.declared.instruction.Instr.{If}
use Rattle.w4_defs.specs.View.{before, expression_of}
use Rattle.w4_defs.specs.EncodeType.{block_type_code}
use Rattle.w4_defs.specs.EncodeInstruction.{list_bytes}
use Rattle.wasm_write.proofs.ViewLaws.{block_before, loop_before, if_then_before, if_else_before}
use Rattle.wasm_write.proofs.instruction_table.encoding_of.Goals as goal

pub returns-in-Block : goal.returns-in-Block
unfolding list_bytes
returns-in-Block c =
    λ close rest.
    ap (list_bytes close)
    (ap (λ i. before i rest) c.in-Block.is ∙ block_before c.in-Block.result c.in-Block.inner rest)
    ∙ ap (λ is. 0x02 ∷ block_type_code c.in-Block.result
    ∷ (list_bytes 0x0b (expression_of is) ++ list_bytes close rest)) (sym c.deref.ensures.value)

pub returns-in-Loop : goal.returns-in-Loop
unfolding list_bytes
returns-in-Loop c =
    λ close rest.
    ap (list_bytes close)
    (ap (λ i. before i rest) c.in-Loop.is ∙ loop_before c.in-Loop.result c.in-Loop.inner rest)
    ∙ ap (λ is. 0x03 ∷ block_type_code c.in-Loop.result
    ∷ (list_bytes 0x0b (expression_of is) ++ list_bytes close rest))
    (sym c.deref-in-Loop.ensures.value)

pub returns-in-None : goal.returns-in-None
unfolding list_bytes
returns-in-None c =
    let arm = c.in-If in
    λ close rest.
    ap (list_bytes close) (ap (λ i. before i rest) (arm.is ∙ ap (λ o. If arm.result arm.yes o) c.in-None.is)
    ∙ if_then_before arm.result arm.yes rest)
    ∙ ap (λ is. 0x04 ∷ block_type_code arm.result
    ∷ (list_bytes 0x0b (expression_of is) ++ list_bytes close rest))
    (sym c.deref-in-None.ensures.value)

pub returns-in-Some : goal.returns-in-Some
unfolding list_bytes
returns-in-Some c =
    let arm = c.in-If in
    let first = c.deref-in-Some.result.now in
    let other = c.in-Some.no in
    λ close rest.
    ap (list_bytes close) (ap (λ i. before i rest) (arm.is ∙ ap (λ o. If arm.result arm.yes o) c.in-Some.is)
    ∙ if_else_before arm.result arm.yes other rest)
    ∙ ap
    (λ is. 0x04 ∷ block_type_code arm.result
    ∷ (list_bytes 0x05 (expression_of is)
    ++ (list_bytes 0x0b (expression_of other.items) ++ list_bytes close rest)))
    (sym c.deref-in-Some.ensures.value)
    ∙ ap
    (λ is. 0x04 ∷ block_type_code arm.result
    ∷ (list_bytes 0x05 (expression_of first)
    ++ (list_bytes 0x0b (expression_of is) ++ list_bytes close rest)))
    (sym c.deref-in-Some-2.ensures.value)
    ∙ ap
    (λ bs. 0x04 ∷ block_type_code arm.result ∷ bs)
    (sym (append_assoc (list_bytes 0x05 (expression_of first))
    (list_bytes 0x0b (expression_of c.deref-in-Some-2.result.now)) (list_bytes close rest)))
