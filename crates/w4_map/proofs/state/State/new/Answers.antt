use Rattle.std.proofs.Common.{◌∙◌}
use Rattle.w4_defs.specs.State.{zero_page}
use Rattle.w4_map.proofs.StateLaws.{is_blank}
use Rattle.w4_map.proofs.state.State.new.Goals as goal

pub returns : goal.returns
unfolding zero_page
returns c = record {
  blank = is_blank c.in_ok-new.field-0 c.in_ok-from_slice.field-0.items c.args.cart_globals.now
      c.new-2.result c.in_ok-new-2.field-0.value
      c.in_ok-new.ensures c.in_ok-from_slice.ensures.items c.new-2.ensures
      (c.in_ok-new-2.ensures.ok ∙ c.new-3.ensures);
}
