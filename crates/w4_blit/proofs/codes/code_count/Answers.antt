use Rattle.std.proofs.Common.{◌≡◌, ◌/◌, length, take, drop, sym, ◌∙◌, ap}
use Rattle.w4_blit.proofs.CodeLaws.{bytes_counted, length-units}
use Rattle.w4_blit.proofs.codes.code_count.Goals as goal

pub returns-in-Utf8-clause-value : goal.returns-in-Utf8-clause-value
returns-in-Utf8-clause-value c =
    rw c.in-Utf8.is (bytes_counted c.args.page.now c.in-Utf8.ptr c.in-Utf8.len c.bytes_there.result
    c.told-page c.bytes_there.ensures.value)

pub returns-in-Utf16-clause-value : goal.returns-in-Utf16-clause-value
returns-in-Utf16-clause-value c =
    let bytes = take c.in-Utf16.len (drop c.in-Utf16.ptr c.args.page.now) in
    let count : c.bytes_there-in-Utf16.result ≡ length bytes =
    bytes_counted c.args.page.now c.in-Utf16.ptr c.in-Utf16.len c.bytes_there-in-Utf16.result c.told-page
    c.bytes_there-in-Utf16.ensures.value in
    rw c.in-Utf16.is (ap (λ n. n / 2) count ∙ sym (length-units bytes))
