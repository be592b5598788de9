-- What is told of a made cart (project rule), in five lines: how many bytes it has, how many frames were run,
-- whether it still runs after the last of them, how many pixels of the last image don't have palette index 0,
-- and the SHA-256 (FIPS 180-4) of that image. The disk is empty at first, and the font has zeros alone.
-- The digest is a parameter here.
use Rattle.std.specs.Prelude.{◌≡◌, ℕ, ◌/◌, ◌%◌, ◌==◌, not, count_by, List, [], ◌∷◌, ◌++◌, flat_map, replicate, codes, Option, option_map, refl}
use Rattle.std.specs.Fmt.{digits}
use Rattle.std.specs.List.{range_with_len}
use Rattle.w4_defs.specs.Limits.{font_size}
use Rattle.w4_defs.specs.declared.console.Halt.TheVariants.{Running}
use Rattle.w4_defs.specs.Framebuffer.{pixel}
use Rattle.w4_defs.specs.Image.{image}
use Rattle.w4_defs.specs.Tones.{silent}
use Rattle.w4_defs.specs.State.{State}
use Rattle.w4_defs.specs.Reset.{Setup}
use Rattle.w4_defs.specs.Run.{run_state}
use Rattle.w4_defs.specs.Board.{console_setup}
use Rattle.w4_defs.specs.FrameTexts.{numbered, hex_byte, halt_words, line_end}
use Rattle.w4_defs.specs.Generator.{made_module, made_inputs, made_frames, made_budget}

-- a digest in lower-case hexadecimal
abbrev pub hexadecimal : List ℕ → List ℕ
hexadecimal digest = flat_map hex_byte digest

-- how many of the 25,600 pixels aren't 0
unfoldable pub lit_pixels : List ℕ → ℕ
lit_pixels page = count_by (λ n. not (pixel page (n % 160) (n / 160) == 0)) (range_with_len 0 25600)

-- the five lines, of a cart of so many bytes and the state after the last frame
unfoldable pub summary_text : (List ℕ → List ℕ) → ℕ → State → List ℕ
summary_text digest cart_length state =
    numbered (codes "cart") (cart_length ∷ [])
    ++ numbered (codes "frames") (made_frames ∷ [])
    ++ codes "halt " ++ halt_words state.halt ++ line_end
    ++ numbered (codes "lit") (lit_pixels state.page ∷ [])
    ++ codes "image " ++ hexadecimal (digest (image state.page)) ++ line_end

-- a made cart on the console
abbrev pub made_setup : ℕ → Setup
made_setup number = console_setup (made_module number) (replicate font_size 0) made_budget

-- the summary of a number, whose cart has so many bytes
abbrev pub made_summary : (List ℕ → List ℕ) → ℕ → ℕ → Option (List ℕ)
made_summary digest number cart_length =
    option_map (summary_text digest cart_length)
    (run_state (made_setup number) [] (made_inputs number) made_frames)

-- Worked case: a page whose framebuffer begins with the bytes 228 and 1 has four lit pixels, and a digest of
-- two bytes stands in for one of 32.
abbrev pub worked_page : List ℕ
worked_page = replicate 160 0 ++ 228 ∷ 1 ∷ []

abbrev pub SummaryCase : Type 0
SummaryCase =
    summary_text (λ image. 10 ∷ 255 ∷ []) 1234
    (record { page = worked_page; globals = []; channels = silent; disk = []; halt = Running })
    ≡ codes "cart 1234\nframes 600\nhalt running\nlit 4\nimage 0aff\n"

pub summary-case : SummaryCase
unfolding summary_text lit_pixels digits
summary-case = refl
