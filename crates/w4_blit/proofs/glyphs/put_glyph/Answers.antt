use Rattle.std.proofs.Common.{arith}
use Rattle.std.proofs.lemmas.Bool.Decides.{nat_tests}
use Rattle.w4_defs.proofs.PaintLaws.{paint_off}
use Rattle.w4_blit.proofs.glyphs.put_glyph.Goals as goal
use Rattle.w4_blit.proofs.glyphs.put_glyph.Goals.{else-glyph-ge-FIRST_CODE-via-then-glyph-ge-FIRST_CODE+else-glyph-lt-CODES_END}
use Rattle.w4_blit.proofs.glyphs.put_glyph.Goals.{else-glyph-ge-FIRST_CODE-via-else-glyph-ge-FIRST_CODE}

pub returns-else-glyph-ge-FIRST_CODE : goal.returns-else-glyph-ge-FIRST_CODE
returns-else-glyph-ge-FIRST_CODE c = paint_off c.args.page.now _ c.told-page c.fits-page (λ u v hu hv. elim
    c.else-glyph-ge-FIRST_CODE.branch [
      | else-glyph-ge-FIRST_CODE-via-then-glyph-ge-FIRST_CODE+else-glyph-lt-CODES_END w ↦ grind
          (arith, nat_tests)
      | else-glyph-ge-FIRST_CODE-via-else-glyph-ge-FIRST_CODE w ↦ grind (arith, nat_tests)
    ])
