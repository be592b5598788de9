use Rattle.std.proofs.Common.{ℕ, List, Some, ap, sym, ◌∙◌}
use Rattle.w4_defs.specs.PlaceTexts.{as_it_stands}
use Rattle.w4_defs.specs.declared.place_text.PlaceText.TheVariants.{Image}
use Rattle.w4_defs.proofs.TextsOfStates.{image_of_state}
use Rattle.w4_answers.proofs.DeskSessionLaws.{same_text}
use Rattle.w4_answers.proofs.RangeAnswerLaws.{run_at}
use Rattle.w4_answers.proofs.desk.Desk.make_image.Goals as goal

pub returns-clause-image : goal.returns-clause-image
returns-clause-image g c =
    let new = c.go_on.new.self.counted.editor in
    sym (same_text as_it_stands c.args.self.now.counted.editor new Image c.args.place
    c.in_ok-go_on.ensures.shows)
    ∙ image_of_state as_it_stands c.args.place (run_at new c.args.place) c.state.result.now
    (c.state.ensures c.args.place c.in_ok-go_on.ensures.at)
    ∙ ap (λ (bytes : List ℕ). Some bytes) (sym c.ppm_into.ensures)
