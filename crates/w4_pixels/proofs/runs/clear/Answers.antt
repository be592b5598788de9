use Rattle.std.proofs.Common.{refl}
use Rattle.w4_pixels.proofs.PackedLaws.{zero_filled}
use Rattle.w4_pixels.proofs.runs.clear.Goals as goal

pub returns : goal.returns
returns c = zero_filled c.args.page.now c.fill.new.self 160 6400 6560 refl refl refl c.told-page
    (c.fill.ensures.after (λ y same. same))
