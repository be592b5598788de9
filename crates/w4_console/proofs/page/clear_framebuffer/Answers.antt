use Rattle.std.proofs.Common.{sym, ◌∙◌}
use Rattle.w4_defs.proofs.ClearLaws.{cleared_is_painted}
use Rattle.w4_console.proofs.page.clear_framebuffer.Goals as goal

pub returns : goal.returns
returns c = c.clear.ensures ∙ sym (cleared_is_painted c.args.page.now c.told-page)
