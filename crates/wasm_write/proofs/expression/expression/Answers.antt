use Rattle.std.proofs.Common.{◌++◌, ◌≡◌, ◌∙◌, ◌∷◌, [], ap, arith, refl}
use Rattle.std.specs.Option.{option_to_list}
use Rattle.wasm_write.specs.EncodingForms.{head_bytes, inner_bytes}
use Rattle.wasm_write.specs.OpenLists.{open_bytes}
use Rattle.wasm_write.proofs.OpenLaws.{closing, opening, parted, written_on, left_over, head_some}
use Rattle.wasm_write.proofs.expression.expression.Goals as goal

closed : (c : goal.In_ok-byte) → open_bytes c.loop-rest.lists.items ≡ c.in-Some.field-0.close ∷ []
    ++ open_bytes c.pop.new.self.items
closed c =
    let popped = c.pop.ensures.items ∙ ap (λ r. c.pop.new.self.items ++ option_to_list r) c.in-Some.is in
    closing c.loop-rest.lists.items c.pop.new.self.items c.in-Some.field-0 popped c.in_default-rest.len_below

pub loop-rest-preserved-in_default-rest : goal.loop-rest-preserved-in_default-rest
loop-rest-preserved-in_default-rest c =
    written_on _ _ (c.in-Some.field-0.close ∷ []) (open_bytes c.loop-rest.lists.items)
    (open_bytes c.pop.new.self.items) _ c.in_ok-byte.ensures (closed c) c.loop-rest.invariant

pub loop-rest-smaller-in_default-rest : goal.loop-rest-smaller-in_default-rest
loop-rest-smaller-in_default-rest c = left_over (c.in-Some.field-0.close ∷ []) _ _ (closed c) (omega arith)

opened : (c : goal.In_ok-open_inner)
    → open_bytes c.loop-rest.lists.items ≡ head_bytes c.encoding_of-encoding.result
    ++ open_bytes c.open_inner.new.lists.items
opened c =
    let popped = c.pop.ensures.items ∙ ap (λ r. c.pop.new.self.items ++ option_to_list r) c.in-Some.is in
    opening
    c.loop-rest.lists.items
    c.pop.new.self.items
    c.push-in-Some.new.self.items
    c.open_inner.new.lists.items
    c.in-Some.field-0
    _
    c.first-item.result
    (head_bytes c.encoding_of-encoding.result)
    (inner_bytes c.encoding_of-encoding.result)
    c.in_ok-push-2.ensures.items
    popped
    (parted c.in-Some.field-0.rest.now c.first-item.result c.in-len1-up.len_at_least c.first-item.is)
    refl
    c.encoding_of-encoding.ensures
    c.in_ok-open_inner.ensures

pub loop-rest-preserved : goal.loop-rest-preserved
loop-rest-preserved c =
    written_on
    _
    _
    (head_bytes c.encoding_of-encoding.result)
    (open_bytes c.loop-rest.lists.items)
    (open_bytes c.open_inner.new.lists.items)
    _
    c.in_ok-head.ensures
    (opened c)
    c.loop-rest.invariant

pub loop-rest-smaller : goal.loop-rest-smaller
loop-rest-smaller c =
    left_over (head_bytes c.encoding_of-encoding.result) _ _ (opened c)
    (head_some c.encoding_of-encoding.result)
