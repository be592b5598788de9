use Rattle.std.proofs.Common.{w32}
use Rattle.std.proofs.lemmas.Int.{to_z-of_z}
use Rattle.w4_blit.proofs.blit.blit_sub.Goals as goal

pub returns-then-ptr-ge-FRAMEBUFFER_END : goal.returns-then-ptr-ge-FRAMEBUFFER_END
returns-then-ptr-ge-FRAMEBUFFER_END c =
    rw (c.blit_outside.ensures, c.side-w.ensures, c.side-h.ensures)
    (simp (
      to_z-of_z w32 c.args.x c.ranges.x,
      to_z-of_z w32 c.args.y c.ranges.y,
      to_z-of_z w32 c.args.w c.ranges.w,
      to_z-of_z w32 c.args.h c.ranges.h,
    ))

pub returns-else-ptr-ge-FRAMEBUFFER_END : goal.returns-else-ptr-ge-FRAMEBUFFER_END
returns-else-ptr-ge-FRAMEBUFFER_END c =
    rw (c.blit_inside.ensures, c.side-w.ensures, c.side-h.ensures)
    (simp (
      to_z-of_z w32 c.args.x c.ranges.x,
      to_z-of_z w32 c.args.y c.ranges.y,
      to_z-of_z w32 c.args.w c.ranges.w,
      to_z-of_z w32 c.args.h c.ranges.h,
    ))
