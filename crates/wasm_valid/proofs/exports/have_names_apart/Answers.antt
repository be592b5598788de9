use Rattle.wasm_valid.proofs.ApartLaws.{apart_fails, apart_more, apart_end}
use Rattle.wasm_valid.proofs.exports.have_names_apart.Goals as goal

pub returns-then-not-is_apart : goal.returns-then-not-is_apart
returns-then-not-is_apart c =
    apart_fails c.args.exports.now c.loop-i.i c.is_apart.result c.loop-i-test.true c.is_apart.ensures
    c.if-not-is_apart.true

pub loop-i-preserved : goal.loop-i-preserved
loop-i-preserved c =
    apart_more c.args.exports.now c.loop-i.i c.is_apart.result c.loop-i-test.true c.is_apart.ensures
    c.if-not-is_apart.false c.loop-i.invariant

pub returns : goal.returns
returns c = apart_end c.args.exports.now c.loop-i.i c.loop-i-test.false c.loop-i.invariant
