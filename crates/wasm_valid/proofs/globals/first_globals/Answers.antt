use Rattle.w4_defs.specs.EntryPoints.{first_value}
use Rattle.wasm_valid.proofs.GlobalLaws.{global_given}
use Rattle.wasm_valid.proofs.ListMaps.{map_more}
use Rattle.wasm_valid.proofs.globals.first_globals.Goals as goal

pub loop-i-preserved : goal.loop-i-preserved
loop-i-preserved c =
    let m = c.args.code.now in
    map_more first_value m.globals c.loop-i.i c.first_value.result c.loop-i.values.items _
    (global_given m.globals c.loop-i.i c.global_first.result.now c.first_value.result c.requires
    c.global_first.ensures.value c.first_value.ensures)
    c.loop-i.invariant c.in_ok-push.ensures.items
