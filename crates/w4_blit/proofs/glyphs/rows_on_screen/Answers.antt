use Rattle.std.proofs.Common.{◌∙◌, arith}
use Rattle.w4_defs.proofs.PaintLaws.{paint_off, paint_step, paint_ext}
use Rattle.w4_pixels.proofs.ClippingLaws.{boxed_no_row, row_more, boxed_down}
use Rattle.w4_blit.specs.Unclipped.{bits_painter}
use Rattle.w4_blit.proofs.glyphs.rows_on_screen.Goals as goal

pub loop-v-init : goal.loop-v-init
loop-v-init c =
    let a = c.args in
    let f = bits_painter a.font.now a.inks.now.colors a.part.glyph.code a.part.glyph.x a.part.glyph.y in (
      paint_off a.page.now _ c.told-page c.fits-page
          (λ u v hu hv. boxed_no_row f a.part.columns.first a.part.columns.end a.part.rows.first
          a.part.rows.first u v (omega arith)),
      omega arith,
    )

pub loop-v-preserved : goal.loop-v-preserved
loop-v-preserved c =
    let a = c.args in
    let f = bits_painter a.font.now a.inks.now.colors a.part.glyph.code a.part.glyph.x a.part.glyph.y in (
      rw (c.glyph_row.ensures, c.loop-v.invariant.0)
          (paint_step a.page.now _ _ _ c.told-page
          (λ u v hu hv. row_more f a.part.columns.first a.part.columns.end a.part.rows.first c.loop-v.v u v
          c.loop-v.auto.v)),
      omega arith,
    )

pub returns : goal.returns
returns c =
    let a = c.args in
    let f = bits_painter a.font.now a.inks.now.colors a.part.glyph.code a.part.glyph.x a.part.glyph.y in
    c.loop-v.invariant.0 ∙ paint_ext a.page.now _ _ c.told-page (λ u v hu hv.
    boxed_down f a.part.columns.first a.part.columns.end a.part.rows.first a.part.rows.end c.loop-v.v u v
    c.loop-v-test.false c.loop-v.invariant.1)
