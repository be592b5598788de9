use Rattle.std.proofs.Common.{◌+◌, ◌∙◌, ap, sym, length, drop, refl, arith}
use Rattle.w4_defs.specs.Program.{fill_table, put_functions}
use Rattle.wasm_valid.proofs.TableLaws.{element_is_read, put_length, written}
use Rattle.wasm_valid.proofs.table.filled_table.Goals as goal

pub put_functions-requires : goal.put_functions-requires
put_functions-requires c =
    let m = c.args.code.now in
    let read =
    element_is_read m c.loop-i.i c.element_offset.result.now c.element_functions.result.now
    c.first_number32-offset.result c.requires.profile c.requires.rules c.element_offset.ensures.value
    c.element_functions.ensures c.first_number32-offset.ensures in
    omega (arith, read.fits, ap length c.deref_mut.ensures.value, c.loop-i.invariant.size)

pub loop-i-preserved : goal.loop-i-preserved
loop-i-preserved c =
    let m = c.args.code.now in
    let items = c.loop-i.table.items in
    let offset = c.first_number32-offset.result in
    let functions = c.element_functions.result.now in
    let read =
    element_is_read m c.loop-i.i c.element_offset.result.now functions offset c.requires.profile
    c.requires.rules c.element_offset.ensures.value c.element_functions.ensures
    c.first_number32-offset.ensures in
    let put =
    c.put_functions.ensures ∙ ap (λ t. put_functions t offset functions) c.deref_mut.ensures.value in
    let whole =
    written c.put_functions.new.table items c.loop-i.table.len
    (ap length put ∙ put_length items offset functions) (omega (arith, c.loop-i.table.ok)) ∙ put in
    record {
      rest =
          ap (λ t. fill_table t (drop (c.loop-i.i + 1) m.elements)) whole
          ∙ sym (read.fills items m.elements c.loop-i.i refl) ∙ c.loop-i.invariant.rest;
      size = ap length whole ∙ put_length items offset functions ∙ c.loop-i.invariant.size;
    }
