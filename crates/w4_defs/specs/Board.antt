-- The functions that a cart may import (WASM-4 reference): what each weighs of the budget (project rule) and
-- what it does, given its arguments and the page.
use Rattle.std.specs.Prelude.{◌≡◌, ℕ, ◌+◌, List, [], ◌∷◌, length, slice_index, ℤ, Some, None, refl}
use Rattle.w4_defs.specs.declared.console.Import.{Import}
use Rattle.w4_defs.specs.declared.console.Import.TheVariants as import
use Rattle.w4_defs.specs.declared.console.TextSource.{TextSource}
use Rattle.w4_defs.specs.declared.console.TextSource.TheVariants.{Cstr, Utf8, Utf16}
use Rattle.w4_defs.specs.declared.console.Tone.{Tone}
use Rattle.w4_defs.specs.declared.sprite.Sprite.{Sprite}
use Rattle.w4_defs.specs.Words.{signed_word}
use Rattle.w4_defs.specs.Outcome.{Called, HostFunctions}
use Rattle.w4_defs.specs.Module.{WasmModule}
use Rattle.w4_defs.specs.MemoryMap.{draw_colors}
use Rattle.w4_defs.specs.Framebuffer.{Painter, paint}
use Rattle.w4_defs.specs.Shapes.{natural, line_painter, hline_painter, vline_painter, oval_painter, rect_painter}
use Rattle.w4_defs.specs.Blit.{blit_painter}
use Rattle.w4_defs.specs.Text.{source_bytes, text_codes, text_painter}
use Rattle.w4_defs.specs.Logs.{empty_log, logged, kept_lines, kept_tones}
use Rattle.w4_defs.specs.Tones.{decoded, channels_after_tone, silent}
use Rattle.w4_defs.specs.Disk.{disk_write, disk_read, disk_read_count}
use Rattle.w4_defs.specs.Traces.{trace_line, tracef_line}
use Rattle.w4_defs.specs.State.{Board}
use Rattle.w4_defs.specs.Reset.{Setup}

-- argument k as an unsigned number, and as a signed one
abbrev pub argument : List ℕ → ℕ → ℕ
argument args k = slice_index args k

abbrev pub signed_argument : List ℕ → ℕ → ℤ
signed_argument args k = signed_word (argument args k)

-- the sources of the texts that begin with argument 0
abbrev pub cstr_source : List ℕ → TextSource
cstr_source args = Cstr (argument args 0)

abbrev pub utf8_source : List ℕ → TextSource
utf8_source args = Utf8 (argument args 0) (argument args 1)

abbrev pub utf16_source : List ℕ → TextSource
utf16_source args = Utf16 (argument args 0) (argument args 1)

-- a text weighs 64 and a unit for each byte of its source
abbrev pub text_weight : List ℕ → TextSource → ℕ
text_weight page source = 64 + length (source_bytes page source)

unfoldable pub import_weight : Import → List ℕ → List ℕ → ℕ
import_weight import.Blit args page = 256
import_weight import.BlitSub args page = 256
import_weight import.Line args page = 256
import_weight import.Hline args page = 256
import_weight import.Vline args page = 256
import_weight import.Oval args page = 256
import_weight import.Rect args page = 256
import_weight import.Text args page = text_weight page (cstr_source args)
import_weight import.TextUtf8 args page = text_weight page (utf8_source args)
import_weight import.TextUtf16 args page = text_weight page (utf16_source args)
import_weight import.Tone args page = 16
import_weight import.Diskr args page = 1024
import_weight import.Diskw args page = 1024
import_weight import.Trace args page = text_weight page (cstr_source args)
import_weight import.TraceUtf8 args page = text_weight page (utf8_source args)
import_weight import.TraceUtf16 args page = text_weight page (utf16_source args)
import_weight import.Tracef args page = text_weight page (cstr_source args)

-- the sprite of `blit`: its own width is its stride. A width or height below 1 is no cell
abbrev pub blit_sprite : List ℕ → List ℕ → Sprite
blit_sprite args page = record {
  colors = draw_colors page;
  ptr = argument args 0;
  w = natural (signed_argument args 3);
  h = natural (signed_argument args 4);
  src_x = 0;
  src_y = 0;
  stride = argument args 3;
  flags = argument args 5;
}

abbrev pub blit_sub_sprite : List ℕ → List ℕ → Sprite
blit_sub_sprite args page = record {
  colors = draw_colors page;
  ptr = argument args 0;
  w = natural (signed_argument args 3);
  h = natural (signed_argument args 4);
  src_x = argument args 5;
  src_y = argument args 6;
  stride = argument args 7;
  flags = argument args 8;
}

-- what a text paints; its x and y are arguments k and k + 1
abbrev pub text_drawn : Board → List ℕ → List ℕ → TextSource → ℕ → Painter
text_drawn board args page source k =
    text_painter board.font (draw_colors page) (text_codes page source) (signed_argument args k)
    (signed_argument args (k + 1))

-- a call that paints, one that changes the board alone, and one that returns a number
abbrev pub painting : Board → List ℕ → Painter → Called Board
painting board page painter = record { page = paint page painter; host = board; answer = None }

abbrev pub noting : Board → List ℕ → Called Board
noting board page = record { page = page; host = board; answer = None }

abbrev pub answering : Board → List ℕ → ℕ → Called Board
answering board page count = record { page = page; host = board; answer = Some count }

-- a tone sounds, also where it is dropped from the log
abbrev pub with_tone : Board → Tone → Board
with_tone board tone = record board {
  channels = channels_after_tone board.channels tone;
  tones = logged kept_tones board.tones tone;
}

abbrev pub with_line : Board → List ℕ → Board
with_line board line = record board { traces = logged kept_lines board.traces line }

abbrev pub with_disk : Board → List ℕ → Board
with_disk board disk = record board { disk = disk }

-- what each import does
unfoldable pub import_effect : Board → Import → List ℕ → List ℕ → Called Board
import_effect board import.Blit args page =
    painting board page
    (blit_painter page (blit_sprite args page) (signed_argument args 1) (signed_argument args 2))
import_effect board import.BlitSub args page =
    painting board page
    (blit_painter page (blit_sub_sprite args page) (signed_argument args 1) (signed_argument args 2))
import_effect board import.Line args page =
    painting board page
    (line_painter (draw_colors page) (signed_argument args 0) (signed_argument args 1)
    (signed_argument args 2) (signed_argument args 3))
import_effect board import.Hline args page =
    painting board page
    (hline_painter (draw_colors page) (signed_argument args 0) (signed_argument args 1)
    (signed_argument args 2))
import_effect board import.Vline args page =
    painting board page
    (vline_painter (draw_colors page) (signed_argument args 0) (signed_argument args 1)
    (signed_argument args 2))
import_effect board import.Oval args page =
    painting board page
    (oval_painter (draw_colors page) (signed_argument args 0) (signed_argument args 1)
    (signed_argument args 2) (signed_argument args 3))
import_effect board import.Rect args page =
    painting board page
    (rect_painter (draw_colors page) (signed_argument args 0) (signed_argument args 1)
    (signed_argument args 2) (signed_argument args 3))
import_effect board import.Text args page =
    painting board page (text_drawn board args page (cstr_source args) 1)
import_effect board import.TextUtf8 args page =
    painting board page (text_drawn board args page (utf8_source args) 2)
import_effect board import.TextUtf16 args page =
    painting board page (text_drawn board args page (utf16_source args) 2)
import_effect board import.Tone args page =
    let tone = decoded (argument args 0) (argument args 1) (argument args 2) (argument args 3) in
    noting (with_tone board tone) page
import_effect board import.Diskr args page =
    answering board (disk_read board.disk page (argument args 0) (argument args 1))
    (disk_read_count board.disk page (argument args 0) (argument args 1))
import_effect board import.Diskw args page =
    let disk = disk_write page (argument args 0) (argument args 1) in
    answering (with_disk board disk) page (length disk)
import_effect board import.Trace args page =
    noting (with_line board (trace_line page (cstr_source args))) page
import_effect board import.TraceUtf8 args page =
    noting (with_line board (trace_line page (utf8_source args))) page
import_effect board import.TraceUtf16 args page =
    noting (with_line board (trace_line page (utf16_source args))) page
import_effect board import.Tracef args page =
    noting (with_line board (tracef_line page (argument args 0) (argument args 1))) page

-- the console as the host functions of a cart: a weight doesn't depend on the board
abbrev pub console : HostFunctions Board
console = record { weight = λ board. import_weight; effect = import_effect }

-- a cart with a font and a budget on the console
abbrev pub console_setup : WasmModule → List ℕ → ℕ → Setup
console_setup cart font budget =
    record { cart = cart; host_functions = console; font = font; budget = budget }

-- Worked cases over a small page: what texts weigh, what the disk's calls return, a line, and two tones on
-- one channel of which the second has no length: both are listed and the channel is silent.
abbrev pub plain_board : Board
plain_board = record { font = []; channels = silent; disk = []; tones = empty_log; traces = empty_log }

abbrev pub BoardCases : Type 0
BoardCases =
    let page : List ℕ = 65 ∷ 66 ∷ 0 ∷ 67 ∷ [] in
    let put = import_effect plain_board import.Diskw (1 ∷ 2000 ∷ []) page in
    let got = import_effect put.host import.Diskr (0 ∷ 2 ∷ []) page in
    let traced = import_effect plain_board import.TraceUtf16 (2 ∷ 9 ∷ []) page in
    let first = import_effect plain_board import.Tone (14418360 ∷ 67109890 ∷ 50 ∷ 0 ∷ []) page in
    let second = import_effect first.host import.Tone (440 ∷ 0 ∷ 50 ∷ 0 ∷ []) page in
    (import_weight import.Trace (0 ∷ []) page ≡ 66)
    × (import_weight import.TextUtf8 (1 ∷ 4294967295 ∷ 0 ∷ 0 ∷ []) page ≡ 67)
    × (import_weight import.TextUtf16 (9 ∷ 4 ∷ 0 ∷ 0 ∷ []) page ≡ 64)
    × (put.answer ≡ Some 3)
    × (put.host.disk ≡ 66 ∷ 0 ∷ 67 ∷ [])
    × (got.answer ≡ Some 2)
    × (got.page ≡ 66 ∷ 0 ∷ 0 ∷ 67 ∷ [])
    × (traced.host.traces.items ≡ (63 ∷ []) ∷ [])
    × (length second.host.tones.items ≡ 2)
    × (second.host.channels ≡ silent)

pub board-cases : BoardCases
unfolding import_weight import_effect
board-cases = (refl, refl, refl, refl, refl, refl, refl, refl, refl, refl)
