use Rattle.std.proofs.Common.{◌≡◌, ◌+◌, ◌*◌, ◌++◌, [], take, get_or, ap, arith, rules, ◌∙◌}
use Rattle.w4_defs.specs.Image.{pixel_colours}
use Rattle.w4_image.proofs.PpmLaws.{image_starts, image_more, image_done, quad_in_page}
use Rattle.w4_image.proofs.ppm.screen_into.Goals as goal

pub loop-q-init : goal.loop-q-init
loop-q-init c = record {
  whole = c.put_header.array_long;
  so_far = ap (λ o. take 15 o ++ pixel_colours c.args.screen.now 0 25600) c.put_header.ensures
      ∙ image_starts c.args.screen.now c.args.out.now;
}

pub loop-q-preserved : goal.loop-q-preserved
loop-q-preserved c =
    let page = c.args.screen.now in
    let byte = get_or page (160 + c.loop-q.q) 0 in
    let quad : get_or c.fill_quads.new.quads byte [] ≡ pixel_colours page (4 * c.loop-q.q) 4 =
    c.fill_quads.ensures byte (search (rules, c.fits-screen))
    ∙ quad_in_page page c.palette_colors.result c.loop-q.q c.palette_colors.ensures in
    record {
      whole = c.put_quad.array_long;
      so_far = image_more page c.loop-q.out c.put_quad.new.out _ c.loop-q.q c.loop-q-test.true
          c.loop-q.invariant.whole quad c.put_quad.ensures c.loop-q.invariant.so_far;
    }

pub returns : goal.returns
returns c = image_done c.args.screen.now c.loop-q.out c.loop-q.q (omega arith) c.loop-q.invariant.whole
    c.loop-q.invariant.so_far
