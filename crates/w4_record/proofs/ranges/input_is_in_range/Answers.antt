use Rattle.std.proofs.Common.{rules, arith}
use Rattle.w4_record.proofs.ranges.input_is_in_range.Goals as goal

pub returns : goal.returns
returns c = record {
  four_pads = search rules;
  pads = search rules;
  mouse_x = search rules;
  mouse_y = search rules;
  buttons = omega arith;
}
