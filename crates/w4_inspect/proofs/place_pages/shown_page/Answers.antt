use Rattle.std.proofs.Common.{Some, ap, sym, ◌∙◌}
use Rattle.w4_defs.specs.State.{State}
use Rattle.w4_inspect.specs.PlacePages.{page_at}
use Rattle.w4_inspect.proofs.PlacePageLaws.{if_ok_wanted, page_shown}
use Rattle.w4_inspect.proofs.place_pages.shown_page.Goals as goal

pub returns-clause-page : goal.returns-clause-page
returns-clause-page g c =
    if_ok_wanted c.copy_of.result (page_at c.args.editor.now c.args.p) c.bytes.result.now
    (page_shown c.args.p c.args.steps.now c.go_to.new.steps c.args.editor.now c.go_to.new.self
    c.state.result.now c.in_ok-go_to.ensures.ok c.state.ensures
    ∙ ap (λ (state : State). Some state.page) (sym c.behind-editor.view_is)
    ∙ ap Some (sym c.bytes.ensures.value)) c.copy_of.ensures
