use Rattle.std.proofs.Common.{List, Some, option_map, ap, sym, ◌∙◌, ℕ}
use Rattle.w4_defs.specs.State.{State}
use Rattle.w4_defs.specs.Search.{Search, narrow}
use Rattle.w4_inspect.proofs.PlacePageLaws.{page_shown}
use Rattle.w4_inspect.proofs.searching.narrow_at.Goals as goal

pub returns-clause-narrowed : goal.returns-clause-narrowed
returns-clause-narrowed g c =
    let make : List ℕ → Search = λ page. narrow c.args.search.now (page, c.args.test) in
    ap (λ page. option_map make page)
    (page_shown c.args.p c.args.steps.now c.go_to.new.steps c.args.editor.now c.go_to.new.self
    c.state.result.now c.in_ok-go_to.ensures.ok c.state.ensures
    ∙ ap (λ (state : State). Some state.page) (sym c.behind-editor.view_is)
    ∙ ap Some (sym c.bytes.ensures.value))
    ∙ ap Some (sym c.keep.ensures)
