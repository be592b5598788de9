use Rattle.std.proofs.Common.{◌∙◌, length, sym, ap, refl}
use Rattle.w4_blit.proofs.FramebufferCopyLaws.{behind_codes}
use Rattle.w4_blit.proofs.texts.text_outside.Goals as goal

pub returns : goal.returns
returns c =
    let placed = c.args.placed in
    rw (
      c.put_codes.ensures,
      behind_codes c.args.page.now _ _ placed.source c.told-page c.requires.behind,
    ) refl

pub put_codes-requires : goal.put_codes-requires
put_codes-requires c =
    let placed = c.args.placed in
    c.requires.count
    ∙ ap length (sym (behind_codes c.args.page.now _ _ placed.source c.told-page c.requires.behind))
