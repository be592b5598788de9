use Rattle.std.proofs.Common.{ℕ, List, Some, flat_map, option_map, refl, ap, ◌∙◌, subst}
use Rattle.std.proofs.lemmas.Result.{err_from_is_err_and}
use Rattle.w4_defs.specs.Image.{image}
use Rattle.w4_answers.specs.Writing.{AppendsOut, StopsWriting}
use Rattle.w4_house.proofs.WorldLaws.{writing_none, writing_then}
use Rattle.w4_answers.proofs.WritingLaws.{out_none, OwesThere, there_begins, there_begun, there_is}
use Rattle.w4_answers.proofs.WritingLaws.{there_less, there_nothing, there_stopped}
use Rattle.w4_segments.specs.FilmPieces.{images_left, piece_of}
use Rattle.w4_answers.specs.FilmAnswer.{images_in}
use Rattle.w4_defs.specs.Endings.{manner_of}
use Rattle.w4_answers.proofs.FilmAnswerLaws.{blocks_joined}
use Rattle.w4_answers.proofs.film_answer.write_film.Goals as goal

pub loop-image_bytes-init : goal.loop-image_bytes-init
loop-image_bytes-init g c =
    let begin = g.H.House.world c.args.house.now in (
      there_begins begin (option_map (images_in g.S.Shape.form)
          (images_left c.args.film.now c.args.editor.now)),
      c.requires,
      writing_none begin,
    )

pub loop-image_bytes-preserved : goal.loop-image_bytes-preserved
loop-image_bytes-preserved g c =
    let form = g.S.Shape.form in
    let e = c.args.editor.now in
    let first = g.H.House.world c.args.house.now in
    let now = g.H.House.world c.loop-image_bytes.house in
    let next = g.H.House.world c.write_images.new.house in
    let film = c.next_piece.new.self in
    let whole = option_map (images_in form) (images_left c.args.film.now e) in
    let piece : List ℕ = flat_map (λ screen. form (image screen)) c.screens.result.now in (
      there_less first now next (Some piece) (option_map (images_in form) (images_left film e)) whole
          (there_is (λ bytes. AppendsOut now.events next.events bytes) (Some piece) piece refl
          c.in_ok-write_images.ensures.out)
          (subst (λ owed. OwesThere first now owed whole)
          (ap (option_map (images_in form)) (c.in_ok-next_piece.ensures.piece c.if-branch.true)
          ∙ blocks_joined form c.screens.result.now (piece_of film) (images_left film e) c.screens.ensures)
          c.loop-image_bytes.invariant.0),
      c.in_ok-next_piece.ensures.filming,
      writing_then first now next c.loop-image_bytes.invariant.2 c.in_ok-write_images.ensures.rest,
    )

pub returns-in_err-image_bytes-clause-out : goal.returns-in_err-image_bytes-clause-out
returns-in_err-image_bytes-clause-out g c =
    let begin = g.H.House.world c.args.house.now in
    let p = err_from_is_err_and c.from_residual.result c.from_residual.ensures.1 in
    rw (p.1, p.2) (λ out is. out_none begin.events begin.events out refl)

pub returns-in_err-next_piece-clause-out : goal.returns-in_err-next_piece-clause-out
returns-in_err-next_piece-clause-out g c =
    let form = g.S.Shape.form in
    let p = err_from_is_err_and c.from_residual-in_err-next_piece.result
    c.from_residual-in_err-next_piece.ensures.1 in
    rw (p.1, p.2)
    (there_begun (g.H.House.world c.args.house.now) (g.H.House.world c.loop-image_bytes.house)
    (option_map (images_in form) (images_left c.loop-image_bytes.film c.args.editor.now))
    (option_map (images_in form) (images_left c.args.film.now c.args.editor.now))
    c.loop-image_bytes.invariant.0)

pub returns-in_err-write_images-clause-out : goal.returns-in_err-write_images-clause-out
returns-in_err-write_images-clause-out g c =
    let form = g.S.Shape.form in
    let e = c.args.editor.now in
    let film = c.next_piece.new.self in
    let now = g.H.House.world c.loop-image_bytes.house in
    let next = g.H.House.world c.write_images.new.house in
    let why = manner_of c.in_err-write_images.field-0.0 in
    let piece : List ℕ = flat_map (λ screen. form (image screen)) c.screens.result.now in
    let p =
    err_from_is_err_and c.from_residual-in_err-write_images.result
    c.from_residual-in_err-write_images.ensures.1 in
    rw (p.1, p.2)
    (there_stopped (g.H.House.world c.args.house.now) now next why (Some piece)
    (option_map (images_in form) (images_left film e))
    (option_map (images_in form) (images_left c.loop-image_bytes.film e))
    (option_map (images_in form) (images_left c.args.film.now e))
    (ap (option_map (images_in form)) (c.in_ok-next_piece.ensures.piece c.if-branch.true)
    ∙ blocks_joined form c.screens.result.now (piece_of film) (images_left film e) c.screens.ensures)
    c.loop-image_bytes.invariant.2.later c.loop-image_bytes.invariant.0
    (there_is (λ bytes. StopsWriting now next why bytes) (Some piece) piece refl
    c.in_err-write_images.ensures.out))

pub returns-clause-out : goal.returns-clause-out
returns-clause-out g c =
    let form = g.S.Shape.form in
    there_nothing (g.H.House.world c.args.house.now) (g.H.House.world c.loop-image_bytes.house)
    (option_map (images_in form) (images_left c.loop-image_bytes.film c.args.editor.now))
    (option_map (images_in form) (images_left c.args.film.now c.args.editor.now))
    (ap (option_map (images_in form)) (c.in_ok-next_piece.ensures.over c.if-branch.false))
    c.loop-image_bytes.invariant.0
