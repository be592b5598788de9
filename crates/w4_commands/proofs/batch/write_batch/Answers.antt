use Rattle.std.proofs.Common.{List, ℕ, Option, Some, Vec, Global, ap, map, string_bytes, sym, ◌∙◌}
use Rattle.sha2.specs.Sha256.{sha256}
use Rattle.w4_defs.specs.declared.batch.BatchRow.{BatchRow}
use Rattle.w4_defs.specs.Batch.{file_rows}
use Rattle.w4_defs.specs.BatchRows.{rows_text}
use Rattle.w4_defs.specs.ToolOutputs.{batch_text}
use Rattle.w4_commands.specs.Batch.{batch_loaded_view}
use Rattle.w4_commands.specs.Load.{cart_view}
use Rattle.w4_answers.specs.Writing.{Written}
use Rattle.w4_answers.proofs.WritingLaws.{there_as}
use Rattle.w4_commands.proofs.batch.write_batch.Goals as goal

pub returns-clause-out : goal.returns-clause-out
returns-clause-out g c =
    let some : BatchRow → Option BatchRow = λ row. Some row in
    let rows =
    ap (λ (items : List (Vec ℕ Global)). file_rows sha256 c.args.file.now.cart c.args.loaded.now.font
    c.args.file.now.digest (map (λ bytes. bytes.items) items)) (sym c.as_slice-items.ensures.value)
    ∙ sym c.in_ok-rows.ensures
    ∙ ap (λ (told : List BatchRow). map some told) (sym c.as_slice-2.ensures.value) in
    let before = g.H.House.world c.args.house.now in
    let after = g.H.House.world c.write_rows.new.house in
    there_as (λ text. Written before after c.write_rows.result text)
    (rows_text (map string_bytes c.as_slice.result.now) (map some c.as_slice-2.result.now))
    (batch_text (cart_view c.args.file.now) (batch_loaded_view c.args.loaded.now))
    (λ i. rows_text (map string_bytes (sym c.as_slice.ensures.value i)) (rows i))
    c.write_rows.ensures.out
