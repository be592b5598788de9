use Rattle.std.proofs.Common.{◌≡◌, ◌+◌, ◌*◌, ◌<◌, pos, ◌+ℤ◌, List, [], ◌∷◌, length, drop, get_or, refl, sym}
use Rattle.std.proofs.Common.{◌∙◌, ap, ℕ, None, w64, to_z, of_z, arith}
use Rattle.std.proofs.lemmas.Int.{ints}
use Rattle.std.proofs.lemmas.List.{drop_more, drop_all}
use Rattle.std.specs.Option.{option_or}
use Rattle.w4_defs.specs.Framebuffer.{Painter, over, paint}
use Rattle.w4_defs.specs.Text.{codes_painter, glyph_painter, text_codes}
use Rattle.w4_defs.proofs.PaintLaws.{paint_off, paint-paint, paint_step, length-paint}
use Rattle.w4_blit.specs.FramebufferCopy.{with_kept}
use Rattle.w4_blit.proofs.FramebufferCopyLaws.{with_copied_bytes-paint}
use Rattle.w4_blit.proofs.TextLaws.{below_screen, code_first, either_below}
use Rattle.w4_blit.proofs.texts.put_codes.Goals as goal

pub loop-k-init : goal.loop-k-init
loop-k-init c =
    let placed = c.args.placed in
    let same_x : to_z w64 (of_z w64 placed.x) ≡ placed.x = omega (arith, ints) in
    let same_y : to_z w64 (of_z w64 placed.y) ≡ placed.y = omega (arith, ints) in
    let nothing : Painter = λ u v. None in
    record {
      rest = simp (same_x, same_y);
      painted = (nothing, paint_off c.args.page.now nothing c.told-page c.fits-page (λ u v hu hv. refl));
      column = omega (arith, ints);
      row = omega (arith, ints);
    }

pub returns-then-pen-ge-SCREEN_END : goal.returns-then-pen-ge-SCREEN_END
returns-then-pen-ge-SCREEN_END c =
    let placed = c.args.placed in
    let page = with_kept c.args.page.now c.args.kept in
    let codes = drop c.loop-k.k (text_codes page placed.source) in
    let pen = c.loop-k.pen in
    let rest = c.loop-k.invariant.rest in
    let f : Painter = c.loop-k.invariant.painted.0 in
    let painted : c.loop-k.page ≡ paint c.args.page.now f = c.loop-k.invariant.painted.1 in
    let nothing : Painter = codes_painter c.args.font.now placed.colors placed.x codes pen.x pen.y in
    painted ∙ sym (paint_step c.args.page.now f nothing f c.told-page
    (λ u v hu hv. ap (λ o. option_or o (f u v))
    (below_screen c.args.font.now placed.colors placed.x pen.x pen.y codes u v hv (omega (arith, ints)))))
    ∙ ap (λ (p : List ℕ). paint p nothing) (sym painted)
    ∙ rest

pub invariant_of-code_at : goal.invariant_of-code_at
invariant_of-code_at c =
    let f : Painter = c.loop-k.invariant.painted.0 in
    record { whole = ap length c.loop-k.invariant.painted.1 ∙ length-paint c.args.page.now f ∙ c.told-page }

pub code_at-code-requires : goal.code_at-code-requires
code_at-code-requires c =
    let placed = c.args.placed in
    let kept = c.args.kept in
    let f : Painter = c.loop-k.invariant.painted.0 in
    let painted : c.loop-k.page ≡ paint c.args.page.now f = c.loop-k.invariant.painted.1 in
    let same : with_kept c.loop-k.page kept
    ≡ with_kept c.args.page.now kept =
    ap (λ (p : List ℕ). with_kept p kept) painted
    ∙ with_copied_bytes-paint c.args.page.now kept.first kept.bytes.now f in
    record {
      there = rw same (omega (arith, c.requires));
      small = omega (arith, placed.few);
    }

pub loop-k-preserved : goal.loop-k-preserved
loop-k-preserved c =
    let placed = c.args.placed in
    let kept = c.args.kept in
    let page = with_kept c.args.page.now kept in
    let codes = text_codes page placed.source in
    let font = c.args.font.now in
    let k = c.loop-k.k in
    let pen = c.loop-k.pen in
    let left = placed.x in
    let same_x : to_z w64 (of_z w64 left) ≡ left = omega (arith, ints) in
    let moved_x = simp (same_x) at c.moved-pen.ensures.column in
    let f : Painter = c.loop-k.invariant.painted.0 in
    let painted : c.loop-k.page ≡ paint c.args.page.now f = c.loop-k.invariant.painted.1 in
    let same : with_kept c.loop-k.page kept ≡ page =
    ap (λ (p : List ℕ). with_kept p kept) painted
    ∙ with_copied_bytes-paint c.args.page.now kept.first kept.bytes.now f in
    let count : placed.count ≡ length codes = c.requires in
    let code : c.code_at-code.result ≡ get_or codes k 0 = c.code_at-code.ensures
    ∙ ap (λ (p : List ℕ). get_or (text_codes p placed.source) k 0) same in
    let below : k < length codes = omega arith in
    let next : c.code_at-code.result ∷ drop (k + 1) codes ≡ drop k codes =
    ap (λ (n : ℕ). n ∷ drop (k + 1) codes) code ∙ sym (drop_more codes k 0 below) in
    let size : length c.loop-k.page ≡ 65536 = ap length painted ∙ length-paint c.args.page.now f
    ∙ c.told-page in
    let glyph : Painter = glyph_painter font placed.colors c.code_at-code.result pen.x pen.y in
    let column : to_z w64 (of_z w64 pen.x) ≡ pen.x = omega (arith, ints) in
    let row : to_z w64 (of_z w64 pen.y) ≡ pen.y = omega (arith, ints) in
    let put = simp (column, row, c.inks_of-inks.ensures) at c.put_glyph.ensures in
    record {
      rest = rw (put, moved_x, c.moved-pen.ensures.row)
          (code_first c.loop-k.page font placed.colors c.code_at-code.result left pen.x pen.y
          (drop (k + 1) codes) size
          ∙ ap (λ (cs : List ℕ). paint c.loop-k.page (codes_painter font placed.colors left cs pen.x pen.y))
          next
          ∙ c.loop-k.invariant.rest);
      painted = (
        over glyph f,
        put ∙ ap (λ (p : List ℕ). paint p glyph) painted
            ∙ paint-paint c.args.page.now f glyph c.told-page,
      );
      column = rw moved_x
          (either_below c.code_at-code.result left (pen.x +ℤ pos 8) (2147483648 + 8 * (k + 1))
          (omega (arith, ints)) (omega (arith, ints)));
      row = rw c.moved-pen.ensures.row
          (either_below c.code_at-code.result (pen.y +ℤ pos 8) pen.y (2147483648 + 8 * (k + 1))
          (omega (arith, ints)) (omega (arith, ints)));
    }

pub returns : goal.returns
returns c =
    let placed = c.args.placed in
    let page = with_kept c.args.page.now c.args.kept in
    let codes = text_codes page placed.source in
    let none : drop c.loop-k.k codes ≡ [] =
    drop_all c.loop-k.k codes (omega (arith, c.requires)) in
    let pen = c.loop-k.pen in
    let rest = c.loop-k.invariant.rest in
    let f : Painter = c.loop-k.invariant.painted.0 in
    let painted : c.loop-k.page ≡ paint c.args.page.now f = c.loop-k.invariant.painted.1 in
    let nothing : Painter = codes_painter c.args.font.now placed.colors placed.x [] pen.x pen.y in
    painted ∙ sym (paint_step c.args.page.now f nothing f c.told-page (λ u v hu hv. refl))
    ∙ ap (λ (p : List ℕ). paint p nothing) (sym painted)
    ∙ ap (λ (cs : List ℕ). paint c.loop-k.page
    (codes_painter c.args.font.now placed.colors placed.x cs pen.x pen.y)) (sym none)
    ∙ rest
