-- The state of a console between two frames, and the record that a reset or a frame leaves behind.
-- A state has no frame number (project rule), so that equal states go on alike.
use Rattle.std.specs.Prelude.{◌≡◌, ℕ, List, [], replicate, Option, None}
use Rattle.w4_defs.specs.declared.value.Val.{Val}
use Rattle.w4_defs.specs.declared.console.Halt.{Halt}
use Rattle.w4_defs.specs.declared.console.Halt.TheVariants.{Running}
use Rattle.w4_defs.specs.declared.console.Tone.{Tone}
use Rattle.w4_defs.specs.declared.console.Sound.{Sound}
use Rattle.w4_defs.specs.Module.{WasmModule}
use Rattle.w4_defs.specs.Lookup.{own_global_types}
use Rattle.w4_defs.specs.RunLaws.{types_of}
use Rattle.w4_defs.specs.Logs.{Log, empty_log}
use Rattle.w4_defs.specs.Tones.{Channels, silent}

-- how many bytes the page has
abbrev pub page_size : ℕ
page_size = 65536

unfoldable pub zero_page : List ℕ
zero_page = replicate page_size 0

-- the page's bytes, the globals, four channels, the disk's bytes, and whether the cart still runs
pub record State : Type 0 where
  pub page : List ℕ
  pub globals : List Val
  pub channels : Channels
  pub disk : List ℕ
  pub halt : Halt

-- the globals have the types that the cart gives them
abbrev pub HasGlobals : WasmModule → State → Type 0
HasGlobals cart state = types_of state.globals ≡ own_global_types cart

-- the state before any reset: a page of zeros, silence, an empty disk
abbrev pub blank_state : List Val → State
blank_state globals =
    record { page = zero_page; globals = globals; channels = silent; disk = []; halt = Running }

-- the tones and lines of one frame, and what the four channels sound at its first tick
pub record FrameRecord : Type 0 where
  pub tones : Log Tone
  pub traces : Log (List ℕ)
  pub sounds : List (Option Sound)

abbrev pub empty_record : FrameRecord
empty_record = record { tones = empty_log; traces = empty_log; sounds = replicate 4 None }

-- a state and the record of the frame that led there
pub record Moment : Type 0 where
  pub state : State
  pub frame_record : FrameRecord

-- what a cart's imports work on besides the page: the font's bytes, channels, disk, and the frame's logs
pub record Board : Type 0 where
  pub font : List ℕ
  pub channels : Channels
  pub disk : List ℕ
  pub tones : Log Tone
  pub traces : Log (List ℕ)

-- a reset or a frame before its record is taken: the state and the logs so far
pub record LoggedState : Type 0 where
  pub state : State
  pub tones : Log Tone
  pub traces : Log (List ℕ)
