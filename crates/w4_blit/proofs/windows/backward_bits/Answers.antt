use Rattle.std.proofs.Common.{◌≡◌, ℕ, ◌+◌, ◌-◌, ◌<◌, ◌∙◌, sym, subst, arith}
use Rattle.w4_defs.specs.Blit.{source_value}
use Rattle.w4_blit.specs.FramebufferCopy.{page_of}
use Rattle.w4_blit.specs.Strips.{HasValue}
use Rattle.w4_blit.specs.Walks.{walked}
use Rattle.w4_blit.proofs.WindowLaws.{backward_walk}
use Rattle.w4_blit.proofs.windows.backward_bits.Goals as goal

pub returns : goal.returns
returns c = λ d hl hn.
    let page = page_of c.args.source in
    let sprite = c.args.sprite.now in
    let walk = c.args.stretch.walk in
    let n = c.args.stretch.n in
    let first = c.from.result in
    let from_last : c.saturating_sub-first.result ≡ walk.count - 1 - n - 15 = c.saturating_sub-first.ensures
    in
    let same : first ≡ c.saturating_sub-first.result = c.from.ensures in
    let skip = 15 - (walk.count - 1 - n - c.saturating_sub-first.result) in
    let there : skip + d < 16 = omega arith in
    let k = 15 - (skip + d) in
    let pixel : walk.start + first + k ≡ walk.start + (walk.count - 1 - (n + d)) = omega arith in
    let cell : walk.start + first + k ≡ walked walk (n + d) =
    pixel ∙ sym (backward_walk walk (n + d) c.args.stretch.pace c.requires.backward) in
    let value = source_value page sprite (walk.start + first + k) in
    let has : HasValue c.sixteen_back-bits.result (skip + d) value =
    c.sixteen_back-bits.ensures (skip + d) there in
    subst (λ (p : ℕ). HasValue c.moved_bits.result (c.args.low + d) (source_value page sprite p)) cell
    (c.moved_bits.ensures d value there hl has)
