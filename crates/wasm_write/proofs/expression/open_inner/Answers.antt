use Rattle.std.proofs.Common.{◌++◌, ◌∙◌, ap, sym}
use Rattle.wasm_write.specs.EncodingForms.{inner_bytes}
use Rattle.wasm_write.specs.OpenLists.{open_bytes}
use Rattle.wasm_write.proofs.OpenLaws.{one_opened, two_opened}
use Rattle.wasm_write.proofs.expression.open_inner.Goals as goal

pub returns-in_ok-push-in-List : goal.returns-in_ok-push-in-List
returns-in_ok-push-in-List c =
    one_opened _ _ _ c.in_ok-push-in-List.ensures.items
    ∙ ap (λ e. inner_bytes e ++ open_bytes c.args.lists.now.items) (sym c.in-List.is)

pub returns-in_ok-push-in-Choice-2 : goal.returns-in_ok-push-in-Choice-2
returns-in_ok-push-in-Choice-2 c =
    two_opened _ _ _ _ _ c.in_ok-push-in-Choice.ensures.items c.in_ok-push-in-Choice-2.ensures.items
    ∙ ap (λ e. inner_bytes e ++ open_bytes c.args.lists.now.items) (sym c.in-Choice.is)
