use Rattle.std.proofs.Common.{◌≡◌, ◌+◌, ◌*◌, get_or, ◌∙◌, ap}
use Rattle.w4_blit.specs.FramebufferCopy.{page_of}
use Rattle.w4_blit.proofs.CodeLaws.{unit_at}
use Rattle.w4_blit.proofs.codes.code_at.Goals as goal

pub returns-in-Utf16 : goal.returns-in-Utf16
returns-in-Utf16 c =
    let page = page_of c.args.source in
    let ptr : c.from-in-Utf16.result ≡ c.in-Utf16.ptr = c.from-in-Utf16.ensures in
    let within = rw c.in-Utf16.is at c.requires.there in
    rw (c.in-Utf16.is, c.from-in-Utf16-2.ensures, c.from-in-Utf16-3.ensures)
    (unit_at page c.in-Utf16.ptr c.in-Utf16.len c.args.k c.byte_at-low.result c.byte_at-high.result
    within
    (c.byte_at-low.ensures ∙ ap (λ p. get_or page (p + 2 * c.args.k) 0) ptr)
    (c.byte_at-high.ensures ∙ ap (λ p. get_or page ((p + 2 * c.args.k) + 1) 0) ptr))
