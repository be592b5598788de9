use Rattle.std.proofs.Common.{List, Some, option_map, ap, sym, ◌∙◌, ℕ}
use Rattle.w4_defs.specs.State.{State}
use Rattle.w4_defs.specs.Bytes.{number_at}
use Rattle.w4_inspect.proofs.PlacePageLaws.{page_shown}
use Rattle.w4_inspect.proofs.watching.shown_value.Goals as goal

pub returns-clause-value : goal.returns-clause-value
returns-clause-value g c =
    let value : List ℕ → ℕ = λ page. number_at page c.args.what.address c.args.what.width.bytes in
    ap (λ page. option_map value page)
    (page_shown c.args.p c.args.steps.now c.go_to.new.steps c.args.editor.now c.go_to.new.self
    c.state.result.now c.in_ok-go_to.ensures.ok c.state.ensures
    ∙ ap (λ (state : State). Some state.page) (sym c.behind-editor.view_is)
    ∙ ap Some (sym c.bytes.ensures.value))
    ∙ ap Some (sym c.value_in.ensures)
