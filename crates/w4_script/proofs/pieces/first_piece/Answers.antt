use Rattle.std.proofs.Common.{sym, ◌+◌}
use Rattle.std.proofs.lemmas.List.{take_rest}
use Rattle.w4_script.proofs.PieceLaws.{piece_at_mark, piece_to_end}
use Rattle.w4_script.proofs.pieces.first_piece.Goals as goal

pub returns-in-Some-clause-pieces : goal.returns-in-Some-clause-pieces
returns-in-Some-clause-pieces c =
    rw (take_rest c.args.bytes.now (c.in-Some.at + 1))
    (piece_at_mark c.args.mark c.args.bytes.now c.in-Some.at (sym c.in-Some.ensures.value))

pub returns-in-None-clause-pieces : goal.returns-in-None-clause-pieces
returns-in-None-clause-pieces c =
    piece_to_end c.args.mark c.args.bytes.now c.requires (sym c.in-None.ensures.value)
