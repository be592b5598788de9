use Rattle.wasm_read.proofs.NumberBounds.{below_any}
use Rattle.wasm_read.proofs.number.is_below_power.Goals as goal

pub returns-then-width-ge64 : goal.returns-then-width-ge64
returns-then-width-ge64 c = below_any c.args.value c.args.width c.ranges.value.fits c.if-width-ge64.true
