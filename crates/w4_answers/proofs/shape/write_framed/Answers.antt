use Rattle.std.proofs.Common.{ℕ, List, length, subst, ◌∙◌, append_assoc}
use Rattle.std.specs.Prelude.{◌++◌, decimal}
use Rattle.std.proofs.lemmas.Result.{err_from_is_err_and}
use Rattle.w4_defs.specs.Endings.{manner_of}
use Rattle.w4_defs.specs.FrameTexts.{line_end}
use Rattle.w4_answers.specs.Writing.{AppendsOut, StopsWriting, Written}
use Rattle.w4_answers.proofs.WritingLaws.{stops_more, written_then}
use Rattle.w4_answers.proofs.shape.write_framed.Goals as goal

pub returns-in_err-write_bytes-clause-out : goal.returns-in_err-write_bytes-clause-out
returns-in_err-write_bytes-clause-out g c =
    let p = err_from_is_err_and c.from_residual-in_err-write_bytes.result
    c.from_residual-in_err-write_bytes.ensures.1 in
    let before = g.H.House.world c.args.house.now in
    let after = g.H.House.world c.write_bytes.new.house in
    let why = manner_of c.in_err-write_bytes.field-0.0 in
    let piece = c.args.piece.now in
    let line : List ℕ = decimal (length piece) ++ line_end in
    rw (p.1, p.2)
    (subst (λ bytes. StopsWriting before after why bytes)
    (append_assoc (decimal (length piece)) line_end piece)
    (stops_more before after why line piece
    (subst (λ bytes. StopsWriting before after why bytes) (c.as_slice.ensures.value ∙ c.in_ok-line.ensures)
    c.in_err-write_bytes.ensures.out)))

pub returns-clause-out : goal.returns-clause-out
returns-clause-out g c =
    let before = g.H.House.world c.args.house.now in
    let mid = g.H.House.world c.write_bytes.new.house in
    let after = g.H.House.world c.write_bytes-2.new.house in
    let piece = c.args.piece.now in
    let line : List ℕ = decimal (length piece) ++ line_end in
    subst (λ bytes. Written before after c.write_bytes-2.result bytes)
    (append_assoc (decimal (length piece)) line_end piece)
    (written_then c.write_bytes-2.result before mid after line piece c.in_ok-write_bytes.ensures.rest.later
    (subst (λ bytes. AppendsOut before.events mid.events bytes) (c.as_slice.ensures.value
    ∙ c.in_ok-line.ensures)
    c.in_ok-write_bytes.ensures.out)
    c.write_bytes-2.ensures.out)
