use Rattle.std.proofs.Common.{Some, append-nil, flat_map, sym, ap, ◌∙◌}
use Rattle.w4_defs.specs.AllThere.{joined}
use Rattle.w4_defs.specs.Image.{image}
use Rattle.w4_defs.proofs.AllThereLaws.{joined_on, nothing_joined}
use Rattle.w4_segments.specs.FilmPieces.{images_left}
use Rattle.w4_segments.proofs.filming.gathered.Goals as goal

pub loop-all-init : goal.loop-all-init
loop-all-init g c =
    let left = images_left c.args.film.now c.args.editor.now in
    (ap (λ xs. joined (Some xs) left) c.new-all.ensures.items ∙ nothing_joined left, c.requires)

pub loop-all-preserved : goal.loop-all-preserved
loop-all-preserved g c =
    let e = c.args.editor.now in
    let rest = images_left c.next_piece.new.self e in
    let all = c.loop-all.all.items in
    let piece = flat_map image c.screens.result.now in (
      ap (λ xs. joined (Some xs) rest) c.in_ok-append_images.ensures
          ∙ joined_on all piece rest
          ∙ ap (λ xs. joined (Some all) (joined (Some xs) rest)) c.screens.ensures
          ∙ ap (joined (Some all)) (sym (c.in_ok-next_piece.ensures.piece c.if-branch.true))
          ∙ c.loop-all.invariant.0,
      c.in_ok-next_piece.ensures.filming,
    )

pub returns : goal.returns
returns g c =
    let all = c.loop-all.all.items in
    sym c.loop-all.invariant.0
    ∙ ap (joined (Some all)) (c.in_ok-next_piece.ensures.over c.if-branch.false)
    ∙ ap Some (append-nil all)
