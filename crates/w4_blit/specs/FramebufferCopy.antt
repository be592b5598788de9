-- The page when the call began: the page that is painted, with its framebuffer's bytes from a copy.
use Rattle.std.specs.Prelude.{ℕ, ◌+◌, ◌-◌, ◌<◌, ◌≤◌, ◌⊎◌, ◌||◌, min, List, map, length, nat_lt, nat_le}
use Rattle.std.specs.Prelude.{if◌then◌else◌, slice_index}
use Rattle.std.specs.List.{range_with_len}
use Rattle.w4_defs.specs.declared.console.TextSource.{TextSource}
use Rattle.w4_defs.specs.declared.console.TextSource.TheVariants.{Cstr, Utf8, Utf16}
use Rattle.w4_blit.specs.declared.kept.Kept.{Kept}
use Rattle.w4_blit.specs.declared.kept.Source.{Source}

-- a byte of it, where the copy begins with that at address `first`
abbrev pub byte_with_copy : List ℕ → ℕ → List ℕ → ℕ → ℕ
byte_with_copy page first copy_bytes i =
    if nat_lt i 160 || nat_le 6560 i then slice_index page i else slice_index copy_bytes (i - first)

unfoldable pub with_copied_bytes : List ℕ → ℕ → List ℕ → List ℕ
with_copied_bytes page first copy_bytes = map (byte_with_copy page first copy_bytes)
    (range_with_len 0 (length page))

-- the page when the call began, by the page as it is painted and by what is kept
abbrev pub with_kept : List ℕ → Kept → List ℕ
with_kept page kept = with_copied_bytes page kept.first kept.bytes.now

abbrev pub page_of : Source → List ℕ
page_of source = with_kept source.page.now source.kept

-- where a text begins
abbrev pub source_start : TextSource → ℕ
source_start (Cstr ptr) = ptr
source_start (Utf8 ptr len) = ptr
source_start (Utf16 ptr len) = ptr

-- how many bytes from there on are read for a text of so many codes: of a C string the 0 behind them too
abbrev pub bytes_read : TextSource → ℕ → ℕ
bytes_read (Cstr ptr) count = count + 1
bytes_read (Utf8 ptr len) count = min len (65536 - ptr)
bytes_read (Utf16 ptr len) count = min len (65536 - ptr)

-- a byte outside the framebuffer, or one of the `len` that are kept
abbrev pub IsAtHand : ℕ → ℕ → ℕ → Type 0
IsAtHand first len i = ((i < 160) ⊎ (6560 ≤ i)) ⊎ ((first ≤ i) × (i < first + len))
