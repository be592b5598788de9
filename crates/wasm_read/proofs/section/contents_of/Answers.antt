use Rattle.std.proofs.Common.{◌≡◌, suc, ◌+◌, ◌-◌, length, sym, arith}
use Rattle.wasm_read.proofs.SectionLaws.{contents_more}
use Rattle.wasm_read.proofs.section.contents_of.Goals as goal

pub loop-preserved : goal.loop-preserved
loop-preserved c =
    let left : length c.args.bytes.now - c.loop.counter
    ≡ suc (length c.args.bytes.now - (c.loop.counter + 1)) = omega arith in
    contents_more _ _ c.args.id c.in_ok-found.found c.loop.rest.now c.in_ok-found.contents.now
    c.in_ok-found.after.now _ c.loop.invariant left (sym c.in_ok-found.ensures) c.if-found-id.false
