use Rattle.std.proofs.Common.{◌≡◌, ◌<◌, [], None, Option, Some, get_or, map, string_bytes, sym, subst, ◌∙◌}
use Rattle.std.proofs.lemmas.List.{get_or-map, length-map}
use Rattle.std.proofs.lemmas.Result.{err_from_is_err_and}
use Rattle.w4_defs.specs.declared.batch.BatchRow.{BatchRow}
use Rattle.w4_defs.specs.declared.batch.BatchRow.TheVariants.{Bad}
use Rattle.w4_answers.specs.Writing.{AppendsOut, StopsWriting}
use Rattle.w4_house.proofs.WorldLaws.{writing_none, writing_then}
use Rattle.w4_defs.specs.Endings.{manner_of}
use Rattle.w4_defs.specs.BatchRows.{row_text, rows_text}
use Rattle.w4_commands.proofs.BatchListLaws.{named_item, past_all_names, within_all}
use Rattle.w4_answers.proofs.WritingLaws.{there_begins, there_begun}
use Rattle.w4_commands.proofs.BatchLaws.{lines_from, rows-more, rows-all, rows-stop}
use Rattle.w4_commands.proofs.batch.write_rows.Goals as goal

pub loop-i-init : goal.loop-i-init
loop-i-init g c =
    let world = g.H.House.world c.args.house.now in (
      there_begins world
          (rows_text (map string_bytes c.args.names.now) (map (λ row. Some row) c.args.rows.now)),
      writing_none world,
    )

pub loop-i-preserved : goal.loop-i-preserved
loop-i-preserved g c =
    let old = g.H.House.world c.args.house.now in
    let now = g.H.House.world c.loop-i.house in
    let after = g.H.House.world c.write_bytes.new.house in
    let names = map string_bytes c.args.names.now in
    let some : BatchRow → Option BatchRow = λ row. Some row in
    let rows = map some c.args.rows.now in
    let i = c.loop-i.i in
    let row = get_or c.args.rows.now i Bad in
    let there = subst (λ n. i < n) (sym c.requires) c.loop-i-test.true in
    let name : get_or names i [] ≡ c.as_str.result.now =
    named_item c.args.names.now i c.index-names-i.result c.as_str.result.now c.loop-i-test.true
    c.index-names-i.is c.as_str.ensures.value in
    let line : c.as_slice.result.now ≡ row_text (get_or names i []) row =
    c.as_slice.ensures.value ∙ c.in_ok-line.ensures ∙ (λ k. row_text (sym name k) row) in (
      rows-more old now after names rows i row (rows_text names rows)
          (within_all c.args.names.now i c.loop-i-test.true)
          (subst (λ n. i < n) (sym (length-map c.args.rows.now some)) there)
          (get_or-map some c.args.rows.now i Bad None there)
          (subst (λ text. AppendsOut now.events after.events text) line c.in_ok-write_bytes.ensures.out)
          c.loop-i.invariant.0,
      writing_then old now after c.loop-i.invariant.1 c.in_ok-write_bytes.ensures.rest,
    )

pub returns-clause-out : goal.returns-clause-out
returns-clause-out g c =
    let names = map string_bytes c.args.names.now in
    let rows = map (λ row. Some row) c.args.rows.now in
    rows-all (g.H.House.world c.args.house.now) (g.H.House.world c.loop-i.house) names rows c.loop-i.i
    (rows_text names rows)
    (past_all_names c.args.names.now c.loop-i.i c.loop-i-test.false) c.loop-i.invariant.0

pub returns-in_err-line-clause-out : goal.returns-in_err-line-clause-out
returns-in_err-line-clause-out g c =
    let p = err_from_is_err_and c.from_residual.result c.from_residual.ensures.1 in
    let names = map string_bytes c.args.names.now in
    let some : BatchRow → Option BatchRow = λ row. Some row in
    let rows = map some c.args.rows.now in
    rw (p.1, p.2)
    (there_begun (g.H.House.world c.args.house.now) (g.H.House.world c.loop-i.house)
    (lines_from names rows c.loop-i.i) (rows_text names rows) c.loop-i.invariant.0)

pub returns-in_err-write_bytes-clause-out : goal.returns-in_err-write_bytes-clause-out
returns-in_err-write_bytes-clause-out g c =
    let p =
    err_from_is_err_and c.from_residual-in_err-write_bytes.result c.from_residual-in_err-write_bytes.ensures.1
    in
    let now = g.H.House.world c.loop-i.house in
    let after = g.H.House.world c.write_bytes.new.house in
    let why = manner_of c.in_err-write_bytes.field-0.0 in
    let names = map string_bytes c.args.names.now in
    let some : BatchRow → Option BatchRow = λ row. Some row in
    let rows = map some c.args.rows.now in
    let i = c.loop-i.i in
    let row = get_or c.args.rows.now i Bad in
    let there = subst (λ n. i < n) (sym c.requires) c.loop-i-test.true in
    let name : get_or names i [] ≡ c.as_str.result.now =
    named_item c.args.names.now i c.index-names-i.result c.as_str.result.now c.loop-i-test.true
    c.index-names-i.is c.as_str.ensures.value in
    let line : c.as_slice.result.now ≡ row_text (get_or names i []) row =
    c.as_slice.ensures.value ∙ c.in_ok-line.ensures ∙ (λ k. row_text (sym name k) row) in
    rw (p.1, p.2)
    (rows-stop (g.H.House.world c.args.house.now) now after why names rows i row (rows_text names rows)
    (within_all c.args.names.now i c.loop-i-test.true)
    (subst (λ n. i < n) (sym (length-map c.args.rows.now some)) there)
    (get_or-map some c.args.rows.now i Bad None there) c.loop-i.invariant.1.later c.loop-i.invariant.0
    (subst (λ text. StopsWriting now after why text) line c.in_err-write_bytes.ensures.out))
