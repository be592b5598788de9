use Rattle.std.proofs.Common.{◌∙◌, length, sym, ap, refl}
use Rattle.w4_blit.proofs.CodeLaws.{kept_text}
use Rattle.w4_blit.proofs.texts.text_inside.Goals as goal

pub put_codes-requires : goal.put_codes-requires
put_codes-requires c =
    let kept = c.part_kept-first in
    c.requires
    ∙ ap length (sym (kept_text c.args.page.now c.few_bytes-copy.result kept.result.0
    kept.result.1
    c.args.placed.count c.args.placed.source c.told-page c.few_bytes-copy.ensures c.requires
    kept.ensures.at_hand))

pub returns-then-len-le256 : goal.returns-then-len-le256
returns-then-len-le256 c =
    let kept = c.part_kept-first in
    let codes = kept_text c.args.page.now c.few_bytes-copy.result kept.result.0
    kept.result.1 c.args.placed.count
    c.args.placed.source c.told-page c.few_bytes-copy.ensures c.requires kept.ensures.at_hand in
    rw (c.put_codes.ensures, codes) refl

pub put_codes-requires-else-len-le256 : goal.put_codes-requires-else-len-le256
put_codes-requires-else-len-le256 c =
    let kept = c.part_kept-first in
    c.requires
    ∙ ap length (sym (kept_text c.args.page.now c.many_bytes-copy.result kept.result.0
    kept.result.1
    c.args.placed.count c.args.placed.source c.told-page c.many_bytes-copy.ensures c.requires
    kept.ensures.at_hand))

pub returns-else-len-le256 : goal.returns-else-len-le256
returns-else-len-le256 c =
    let kept = c.part_kept-first in
    let codes = kept_text c.args.page.now c.many_bytes-copy.result kept.result.0
    kept.result.1 c.args.placed.count
    c.args.placed.source c.told-page c.many_bytes-copy.ensures c.requires kept.ensures.at_hand in
    rw (c.put_codes-else-len-le256.ensures, codes) refl
