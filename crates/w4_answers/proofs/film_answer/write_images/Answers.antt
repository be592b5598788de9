use Rattle.std.proofs.Common.{◌+◌, List, ℕ, drop, flat_map, refl, subst}
use Rattle.std.proofs.lemmas.Result.{err_from_is_err_and}
use Rattle.w4_defs.specs.Image.{image}
use Rattle.w4_house.proofs.WorldLaws.{writing_then}
use Rattle.w4_defs.specs.Endings.{manner_of}
use Rattle.w4_answers.proofs.FilmAnswerLaws.{next_image, no_image}
use Rattle.w4_answers.proofs.WritingLaws.{Owes, owes_less, owes_nothing, piece_stopped}
use Rattle.w4_answers.proofs.film_answer.write_images.Goals as goal

pub loop-screen-preserved : goal.loop-screen-preserved
loop-screen-preserved g c =
    let first = g.H.House.world c.args.house.now in
    let now = g.H.House.world c.loop-screen.house in
    let next = g.H.House.world c.write.new.house in
    let form = g.S.Shape.form in
    let formed : List ℕ → List ℕ = λ screen. form (image screen) in
    let screens = c.args.screens.now in
    let at = c.loop-screen.screen-index in
    let image_bytes = c.screen_into.new.out in (
      owes_less first now next (form image_bytes) (flat_map formed (drop (at + 1) screens))
          (flat_map formed screens)
          c.in_ok-write.ensures.out
          (subst (λ owed. Owes first now owed (flat_map formed screens))
          (next_image form screens at _ image_bytes c.loop-screen-test.true refl c.screen_into.ensures)
          c.loop-screen.invariant.0),
      writing_then first now next c.loop-screen.invariant.1 c.in_ok-write.ensures.rest,
    )

pub returns-in_err-write-clause-out : goal.returns-in_err-write-clause-out
returns-in_err-write-clause-out g c =
    let form = g.S.Shape.form in
    let formed : List ℕ → List ℕ = λ screen. form (image screen) in
    let screens = c.args.screens.now in
    let at = c.loop-screen.screen-index in
    let image_bytes = c.screen_into.new.out in
    let p = err_from_is_err_and c.from_residual.result c.from_residual.ensures.1 in
    rw (p.1, p.2)
    (piece_stopped (g.H.House.world c.args.house.now) (g.H.House.world c.loop-screen.house)
    (g.H.House.world c.write.new.house) (manner_of c.in_err-write.field-0.0) (form image_bytes)
    (flat_map formed (drop (at + 1) screens)) (flat_map formed (drop at screens)) (flat_map formed screens)
    (next_image form screens at _ image_bytes c.loop-screen-test.true refl c.screen_into.ensures)
    c.loop-screen.invariant.1.later c.loop-screen.invariant.0 c.in_err-write.ensures.out)

pub returns-clause-out : goal.returns-clause-out
returns-clause-out g c =
    let form = g.S.Shape.form in
    let formed : List ℕ → List ℕ = λ screen. form (image screen) in
    let screens = c.args.screens.now in
    let at = c.loop-screen.screen-index in
    owes_nothing (g.H.House.world c.args.house.now) (g.H.House.world c.loop-screen.house)
    (flat_map formed (drop at screens)) (flat_map formed screens)
    (no_image form screens at c.loop-screen-test.false) c.loop-screen.invariant.0
