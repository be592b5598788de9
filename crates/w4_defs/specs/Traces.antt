-- Trace lines (WASM-4 reference: `trace`, `traceUtf8`, `traceUtf16`, `tracef`). Project rules: a line is cut
-- after 128 bytes, a UTF-16 unit above 255 is a question mark, and the conversions of tracef's format are
-- those below.
use Rattle.std.specs.Prelude.{◌≡◌, ℕ, ◌+◌, ◌%◌, ◌==◌, nat_le, ◌||◌, if◌then◌else◌, List, [], ◌∷◌, ◌++◌, map, take, drop, codes, false, length, replicate, refl}
use Rattle.std.specs.Fmt.{digits, signed_decimal}
use Rattle.w4_defs.specs.declared.console.TextSource.{TextSource}
use Rattle.w4_defs.specs.declared.console.TextSource.TheVariants.{Cstr, Utf8, Utf16}
use Rattle.w4_defs.specs.Words.{word_at, signed_word}
use Rattle.w4_defs.specs.Text.{before_zero, source_bytes, text_codes}

abbrev pub line_room : ℕ
line_room = 128

abbrev pub line_of : List ℕ → List ℕ
line_of bytes = take line_room bytes

-- the byte that a 16-bit unit is written as: itself, or a question mark above 255
abbrev pub traced_unit : ℕ → ℕ
traced_unit unit = if nat_le unit 255 then unit else 63

-- the bytes that `trace`, `traceUtf8` and `traceUtf16` write
abbrev pub traced : List ℕ → TextSource → List ℕ
traced page (Cstr ptr) = source_bytes page (Cstr ptr)
traced page (Utf8 ptr len) = source_bytes page (Utf8 ptr len)
traced page (Utf16 ptr len) = map traced_unit (text_codes page (Utf16 ptr len))

abbrev pub trace_line : List ℕ → TextSource → List ℕ
trace_line page source = line_of (traced page source)

-- what tracef writes for % and a letter, whose argument stands at this address: c a byte, d a signed decimal,
-- x hexadecimal, s the text whose address the argument is, f a fixed word; any other letter is itself
abbrev pub argument_text : List ℕ → ℕ → ℕ → List ℕ
argument_text page letter at =
    if letter == 99 then word_at page at % 256 ∷ []
    else if letter == 100 then signed_decimal (signed_word (word_at page at))
    else if letter == 120 then digits 16 false (word_at page at)
    else if letter == 115 then before_zero (drop (word_at page at) page)
    else if letter == 102 then codes "<f64>"
    else letter ∷ []

-- how many bytes of arguments a letter takes
abbrev pub argument_bytes : ℕ → ℕ
argument_bytes letter =
    if letter == 99 || letter == 100 || letter == 120 || letter == 115 then 4
    else if letter == 102 then 8
    else 0

-- the text of a format whose next argument stands at this address; a lone % at the end is nothing
abbrev pub formatted : List ℕ → List ℕ → ℕ → List ℕ
formatted page [] at = []
formatted page (byte ∷ []) at = if byte == 37 then [] else byte ∷ []
formatted page (byte ∷ letter ∷ rest) at =
    if byte == 37 then argument_text page letter at ++ formatted page rest (at + argument_bytes letter)
    else byte ∷ formatted page (letter ∷ rest) at

-- the line of `tracef`
abbrev pub tracef_line : List ℕ → ℕ → ℕ → List ℕ
tracef_line page ptr args = line_of (formatted page (before_zero (drop ptr page)) args)

-- a page with arguments -5, 255 and the address of `ab` at 0, `ab` at 12 and the format at 15
abbrev pub tracef_page : List ℕ
tracef_page =
    251 ∷ 255 ∷ 255 ∷ 255 ∷ 255 ∷ 0 ∷ 0 ∷ 0 ∷ 12 ∷ 0 ∷ 0 ∷ 0 ∷ 97 ∷ 98 ∷ 0 ∷ codes "x=%d %x %s%%"

-- `x=%d %x %s%%` and these arguments give this line
abbrev pub TracefCase : Type 0
TracefCase = tracef_line tracef_page 15 0 ≡ codes "x=-5 ff ab%"

pub tracef-case : TracefCase
unfolding digits
tracef-case = refl

-- the other letters of a format: a byte, a float of eight bytes, an unknown letter, a lone % at the end
abbrev pub PlaceCases : Type 0
PlaceCases =
    let page = codes "%c%f%d%q%" ++ 0 ∷ 65 ∷ 9 ∷ 9 ∷ 9 ∷ 9 ∷ 9 ∷ 9 ∷ 9 ∷ 9 ∷ 9 ∷ 9 ∷ 9 ∷ 7 ∷ 0 ∷ 0 ∷ 0 ∷ [] in
    tracef_line page 0 10 ≡ codes "A<f64>7q"

pub place-cases : PlaceCases
unfolding digits
place-cases = refl

-- units above 255 are written as a question mark
abbrev pub TraceCase : Type 0
TraceCase = let page : List ℕ = 65 ∷ 0 ∷ 65 ∷ 1 ∷ 66 ∷ [] in
    (trace_line page (Utf16 0 5) ≡ codes "A?") × (trace_line page (Cstr 2) ≡ 65 ∷ 1 ∷ 66 ∷ [])
    × (trace_line page (Utf8 1 2) ≡ 0 ∷ 65 ∷ []) × (length (line_of (replicate 200 65)) ≡ 128)

pub trace-case : TraceCase
trace-case = (refl, refl, refl, refl)
