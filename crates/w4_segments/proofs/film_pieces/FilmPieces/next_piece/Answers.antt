use Rattle.std.proofs.Common.{◌+◌, ◌-◌, List, length, sym, ap, ◌∙◌, arith}
use Rattle.w4_defs.specs.AllThere.{joined}
use Rattle.w4_segments.specs.declared.worker.Worker.{Worker}
use Rattle.w4_segments.specs.FilmPieces.{images_between, piece_begin}
use Rattle.w4_segments.specs.Rounds.{entries_of}
use Rattle.w4_segments.proofs.FilmPieceLaws.{left_begins, nothing_left, piece_handed_out, piece_less}
use Rattle.w4_segments.proofs.film_pieces.FilmPieces.next_piece.Goals as goal

pub returns-then-cut-self-clause-over : goal.returns-then-cut-self-clause-over
returns-then-cut-self-clause-over g c _ =
    let film = c.args.self.now in
    let cut = c.cut.ensures in
    let past = c.if-cut-self.true in
    nothing_left c.args.editor.now film.first film.end c.is_consistent.ensures.kept.true_links.rising
    film.next
    (omega (arith, cut, past))

pub returns-clause-filming : goal.returns-clause-filming
returns-clause-filming g c =
    let now = c.make_next.new.self in
    let has = c.in_ok-make_next.ensures in
    piece_less c.args.editor.now now.worker_list.items now.first now.end now.first_entry now.next now.filmed
    has.filming
    has.some

pub returns-clause-piece : goal.returns-clause-piece
returns-clause-piece g c _ =
    let e = c.args.editor.now in
    let now = c.make_next.new.self in
    let has = c.in_ok-make_next.ensures in
    let first = sym has.first in
    let end = sym has.end in
    let next = sym has.next in
    (λ k. images_between e (piece_begin (entries_of e) (first k) (end k) (next k)) (end k))
    ∙ left_begins e now.first now.end c.is_consistent.ensures.kept.true_links.rising now.next
    ∙ ap
    (λ xs. joined xs (images_between e (piece_begin (entries_of e) now.first now.end (now.next + 1)) now.end))
    (piece_handed_out e now.worker_list.items now.first now.end now.first_entry now.next now.filmed
    has.filming has.some
    (length c.as_slice.result.now - (now.filmed - now.next))
    (ap (λ (worker_list : List Worker). length worker_list - (now.filmed - now.next))
    c.as_slice.ensures.value))
