use Rattle.std.proofs.Common.{length, refl, ap, ◌∙◌, arith}
use Rattle.w4_defs.specs.State.{State}
use Rattle.w4_editor.proofs.EditorLaws.{globals_as_many}
use Rattle.w4_segments.proofs.PieceLaws.{idle_piece, busy_piece}
use Rattle.w4_segments.proofs.film_pieces.deal_piece.Goals as goal

pub kept_restore-requires-clause-globals : goal.kept_restore-requires-clause-globals
kept_restore-requires-clause-globals c =
    ap (λ (s : State). length s.globals) c.state_mut.ensures.value
    ∙ globals_as_many c.args.editor.now.cart c.args.worker.now.console c.requires.types

pub returns-then-from-to : goal.returns-then-from-to
returns-then-from-to c =
    let e = c.args.editor.now in
    let from = c.cut-from.ensures in
    let to = c.cut-to.ensures in
    let empty = c.if-from-to.true in
    idle_piece e e.disk c.args.first c.args.end c.args.entry _ c.is_consistent.ensures c.requires.order
    c.requires.types c.clear.ensures.items
    (omega (arith, from, to, empty)) refl

pub returns : goal.returns
returns c =
    let e = c.args.editor.now in
    let from = c.cut-from.ensures in
    let to = c.cut-to.ensures in
    let some = c.if-from-to.false in
    let room = c.in_ok-reserve.ensures.ok in
    busy_piece e e.disk c.args.first c.args.end c.args.entry _ c.is_consistent.ensures c.requires.order
    (omega (arith, from, to, some))
    c.requires.within c.requires.states c.kept_restore.ensures
    (c.in_ok-reserve.ensures.items ∙ c.clear.ensures.items)
    (omega (arith, room, from, to)) _ refl
    c.kept_place.ensures from to
