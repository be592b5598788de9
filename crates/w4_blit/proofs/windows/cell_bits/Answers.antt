use Rattle.std.proofs.Common.{◌≡◌, ℕ, ◌+◌, ◌<◌, ◌∙◌, sym, subst, arith}
use Rattle.w4_defs.specs.Blit.{source_value}
use Rattle.w4_blit.specs.FramebufferCopy.{page_of}
use Rattle.w4_blit.specs.Strips.{HasValue}
use Rattle.w4_blit.specs.Walks.{walked}
use Rattle.w4_blit.proofs.WindowLaws.{forward_walk}
use Rattle.w4_blit.proofs.windows.cell_bits.Goals as goal

pub returns-else-stretch : goal.returns-else-stretch
returns-else-stretch c = λ d hl hn.
    let page = page_of c.args.source in
    let sprite = c.args.sprite.now in
    let walk = c.args.stretch.walk in
    let n = c.args.stretch.n in
    let bits = c.sixteen_from-bits.result in
    let first = c.from.result in
    let sum : walk.start + first + d ≡ walk.start + (n + d) = omega (arith, c.from.ensures) in
    let cell : walk.start + first + d ≡ walked walk (n + d) =
    sum ∙ sym (forward_walk walk (n + d) c.args.stretch.pace c.if-stretch.false) in
    let there : 0 + d < 16 = omega arith in
    let same : d ≡ 0 + d = omega arith in
    let value = source_value page sprite (walk.start + first + d) in
    let has : HasValue bits (0 + d) value =
    subst (λ (k : ℕ). HasValue bits k value) same (c.sixteen_from-bits.ensures d (omega arith)) in
    subst (λ (p : ℕ). HasValue c.moved_bits.result (c.args.low + d) (source_value page sprite p)) cell
    (c.moved_bits.ensures d value there hl has)
