use Rattle.std.proofs.Common.{arith, ◌∙◌, sym, length, eqb-true}
use Rattle.w4_devices.proofs.FormatLaws.{step_byte, step_place}
use Rattle.w4_devices.proofs.LineLaws.{cut_full, cut_kept}
use Rattle.w4_devices.proofs.format.formatted_line.Goals as goal

pub loop-i-preserved-then-byte-ne37 : goal.loop-i-preserved-then-byte-ne37
loop-i-preserved-then-byte-ne37 c = record {
  cut_line = cut_kept _ _ c.add.ensures;
  rest = step_byte c.args.page.now c.args.format.now c.loop-i.line c.add.new.self c.loop-i.i c.loop-i.at
      c.loop-i-test.true c.if-byte-ne37.true c.add.ensures ∙ c.loop-i.invariant.rest;
  within = omega arith;
  place = omega arith;
}

pub loop-i-preserved-then-i-format : goal.loop-i-preserved-then-i-format
loop-i-preserved-then-i-format c = record {
  cut_line = cut_kept _ _ c.add_argument.ensures;
  rest = step_place c.args.page.now c.args.format.now c.loop-i.line c.add_argument.new.line c.loop-i.i
      c.loop-i.at
      c.argument_len-at.result c.if-i-format.true c.if-byte-ne37.false c.add_argument.ensures
      c.argument_len-at.ensures.bytes ∙ c.loop-i.invariant.rest;
  within = omega arith;
  place = omega arith;
}

pub returns-then-is_full : goal.returns-then-is_full
returns-then-is_full c =
    sym (cut_full c.loop-i.line _
    (eqb-true (length c.loop-i.line) 128 (sym c.is_full.ensures ∙ c.if-is_full.true)))
    ∙ c.loop-i.invariant.rest
