use Rattle.std.proofs.Common.{Some, option_map, ap, sym, ◌∙◌}
use Rattle.w4_defs.specs.State.{State}
use Rattle.w4_defs.specs.Search.{begin}
use Rattle.w4_inspect.specs.PlacePages.{page_at}
use Rattle.w4_inspect.proofs.PlacePageLaws.{if_ok_wanted, page_shown}
use Rattle.w4_inspect.proofs.searching.begin_at.Goals as goal

pub returns-clause-begun : goal.returns-clause-begun
returns-clause-begun g c =
    let make = begin c.args.width.bytes in
    if_ok_wanted c.begin.result (option_map make (page_at c.args.editor.now c.args.p))
    (make c.bytes.result.now)
    (ap (λ page. option_map make page)
    (page_shown c.args.p c.args.steps.now c.go_to.new.steps c.args.editor.now c.go_to.new.self
    c.state.result.now c.in_ok-go_to.ensures.ok c.state.ensures
    ∙ ap (λ (state : State). Some state.page) (sym c.behind-editor.view_is)
    ∙ ap Some (sym c.bytes.ensures.value))) c.begin.ensures
