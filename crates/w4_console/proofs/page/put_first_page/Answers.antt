use Rattle.std.proofs.Common.{refl}
use Rattle.w4_defs.specs.Reset.{first_page}
use Rattle.w4_console.proofs.page.put_first_page.Goals as goal

pub returns : goal.returns
unfolding first_page
returns c = rw (c.write-3.ensures, c.write-2.ensures, c.write.ensures, c.wipe.ensures) refl
