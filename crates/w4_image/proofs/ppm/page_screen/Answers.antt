use Rattle.std.proofs.Common.{ap, ◌∙◌}
use Rattle.w4_defs.specs.Image.{image}
use Rattle.w4_image.proofs.PpmLaws.{screen_image}
use Rattle.w4_image.proofs.ppm.page_screen.Goals as goal

pub returns-in-Some : goal.returns-in-Some
returns-in-Some c = ap image c.in-Some.ensures.cases.same ∙ screen_image c.args.page.now
