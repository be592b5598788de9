-- What a console writes of its frames as text (project rule): the schedule of tones, the trace lines, and the
-- line of a state. Each line ends with byte 10; numbers are decimal without leading zeros.
use Rattle.std.specs.Prelude.{◌≡◌, ℕ, ◌+◌, ◌/◌, ◌%◌, ◌==◌, nat_lt, ◌||◌, Bool, if◌then◌else◌, List, [], ◌∷◌, ◌++◌, flat_map, length, Option, Some, None, codes, decimal, refl}
use Rattle.std.specs.Fmt.{digits}
use Rattle.w4_defs.specs.declared.value.Cause.{Cause}
use Rattle.w4_defs.specs.declared.value.Cause.TheVariants.{Unreachable, DivideByZero, Overflow, Memory, Table, EmptyEntry, Type_, Stack}
use Rattle.w4_defs.specs.declared.console.Halt.{Halt}
use Rattle.w4_defs.specs.declared.console.Halt.TheVariants.{Running, Trapped, Spent}
use Rattle.w4_defs.specs.declared.console.Tone.{Tone}
use Rattle.w4_defs.specs.declared.console.Sound.{Sound}
use Rattle.w4_defs.specs.Logs.{empty_log, logged, kept_lines, kept_tones}
use Rattle.w4_defs.specs.Tones.{decoded, channels_after_tone, silent, sounds_at, level_at, frequency_at}
use Rattle.w4_defs.specs.State.{State, FrameRecord}

-- a number after a space
abbrev pub spaced : ℕ → List ℕ
spaced n = 32 ∷ decimal n

abbrev pub line_end : List ℕ
line_end = 10 ∷ []

-- a word and numbers
abbrev pub numbered : List ℕ → List ℕ → List ℕ
numbered word numbers = word ++ flat_map spaced numbers ++ line_end

-- the head of both texts of a place
abbrev pub frame_line : ℕ → List ℕ
frame_line place = numbered (codes "frame") (place ∷ [])

-- how many items were dropped, where any were
abbrev pub dropped_line : ℕ → List ℕ
dropped_line dropped = if dropped == 0 then [] else numbered (codes "dropped") (dropped ∷ [])

abbrev pub note_number : Bool → ℕ
note_number note = if note then 1 else 0

abbrev pub tone_line : Tone → List ℕ
tone_line tone = numbered (codes "tone")
    (tone.channel ∷ tone.first ∷ tone.second ∷ tone.attack ∷ tone.decay ∷ tone.sustain ∷ tone.release
    ∷ tone.peak ∷ tone.level ∷ tone.duty ∷ tone.pan ∷ note_number tone.note ∷ [])

abbrev pub sound_line : ℕ → Option Sound → List ℕ
sound_line channel None = []
sound_line channel (Some sound) = numbered (codes "sound") (channel ∷ sound.level ∷ sound.frequency ∷ [])

-- a line for each channel that isn't silent, counted from this number
abbrev pub sound_lines : ℕ → List (Option Sound) → List ℕ
sound_lines channel [] = []
sound_lines channel (sound ∷ rest) = sound_line channel sound ++ sound_lines (channel + 1) rest

-- the schedule text of a place
unfoldable pub schedule_text : ℕ → FrameRecord → List ℕ
schedule_text place frame_record =
    frame_line place ++ flat_map tone_line frame_record.tones.items ++ dropped_line frame_record.tones.dropped
    ++ sound_lines 0 frame_record.sounds

-- a lower-case hexadecimal digit
abbrev pub hex_digit : ℕ → ℕ
hex_digit n = if nat_lt n 10 then 48 + n else 87 + n

-- a byte in two of them
abbrev pub hex_byte : ℕ → List ℕ
hex_byte byte = hex_digit (byte / 16) ∷ hex_digit (byte % 16) ∷ []

-- a byte of a line: the printable ones but the backslash are themselves, all others \x and two digits
abbrev pub escaped : ℕ → List ℕ
escaped byte =
    if nat_lt byte 32 || nat_lt 126 byte || byte == 92 then 92 ∷ 120 ∷ hex_byte byte else byte ∷ []

abbrev pub trace_text_line : List ℕ → List ℕ
trace_text_line line = codes "trace " ++ flat_map escaped line ++ line_end

-- the trace text of a place
unfoldable pub trace_text : ℕ → FrameRecord → List ℕ
trace_text place frame_record =
    frame_line place ++ flat_map trace_text_line frame_record.traces.items
    ++ dropped_line frame_record.traces.dropped

abbrev pub cause_words : Cause → List ℕ
cause_words Unreachable = codes "unreachable"
cause_words DivideByZero = codes "divide by zero"
cause_words Overflow = codes "overflow"
cause_words Memory = codes "memory"
cause_words Table = codes "table"
cause_words EmptyEntry = codes "empty entry"
cause_words Type_ = codes "type"
cause_words Stack = codes "stack"

abbrev pub halt_words : Halt → List ℕ
halt_words Running = codes "running"
halt_words (Trapped cause) = codes "trap " ++ cause_words cause
halt_words Spent = codes "spent"

-- the line of the state at a place of this many inputs, with the kept places
unfoldable pub state_line : ℕ → ℕ → State → List ℕ → List ℕ
state_line place inputs state kept =
    codes "state" ++ spaced place ++ codes " of" ++ spaced inputs ++ codes " halt " ++ halt_words state.halt
    ++ codes " disk" ++ spaced (length state.disk) ++ codes " kept" ++ flat_map spaced kept ++ line_end

-- Worked cases: the first frame of a tone of 440 to 220 hertz with attack 4, no decay, sustain 2 and
-- release 4; a line with bytes on both sides of each bound of an escape; what was dropped; a halted state.
abbrev pub worked_tone : Tone
worked_tone = decoded 14418360 67109890 50 0

abbrev pub worked_record : FrameRecord
worked_record = record {
  tones = logged kept_tones empty_log worked_tone;
  traces = logged kept_lines empty_log (31 ∷ 32 ∷ 65 ∷ 91 ∷ 92 ∷ 93 ∷ 126 ∷ 127 ∷ 255 ∷ []);
  sounds = sounds_at 0 (channels_after_tone silent worked_tone);
}

abbrev pub crowded_record : FrameRecord
crowded_record = record {
  tones = record { items = []; dropped = 2 };
  traces = record { items = []; dropped = 10 };
  sounds = None ∷ Some (record { level = 3; frequency = 9 }) ∷ None
      ∷ Some (record { level = 0; frequency = 70 }) ∷ [];
}

abbrev pub worked_state : State
worked_state =
    record { page = []; globals = []; channels = silent; disk = 7 ∷ 8 ∷ []; halt = Trapped DivideByZero }

abbrev pub TextCases : Type 0
TextCases =
    (schedule_text 1 worked_record ≡ codes "frame 1\ntone 0 440 220 4 0 2 4 100 50 0 0 0\nsound 0 0 440\n")
    × (schedule_text 0 crowded_record ≡ codes "frame 0\ndropped 2\nsound 1 3 9\nsound 3 0 70\n")
    × (trace_text 12 worked_record ≡ codes "frame 12\ntrace \\x1f A[\\x5c]~\\x7f\\xff\n")
    × (trace_text 0 crowded_record ≡ codes "frame 0\ndropped 10\n")
    × (state_line 6 10 worked_state (0 ∷ 5 ∷ 6 ∷ [])
    ≡ codes "state 6 of 10 halt trap divide by zero disk 2 kept 0 5 6\n")

pub text-cases : TextCases
unfolding schedule_text trace_text state_line digits level_at frequency_at
text-cases = (refl, refl, refl, refl, refl)
