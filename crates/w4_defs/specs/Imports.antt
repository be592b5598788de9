-- The types of the functions that a cart may import (WASM-4 reference). All parameters are i32.
use Rattle.std.specs.Prelude.{ℕ, List, [], ◌∷◌, replicate, codes}
use Rattle.w4_defs.specs.declared.value.ValType.TheVariants.{I32}
use Rattle.w4_defs.specs.declared.console.Import.{Import}
use Rattle.w4_defs.specs.declared.console.Import.TheVariants.{Blit, BlitSub, Line, Hline, Vline, Oval, Rect, Text, TextUtf8, TextUtf16, Tone, Diskr, Diskw, Trace, TraceUtf8, TraceUtf16, Tracef}
use Rattle.w4_defs.specs.Module.{Signature}

-- the module of all imports, and the name of the memory
abbrev pub import_module : List ℕ
import_module = codes "env"

abbrev pub memory_name : List ℕ
memory_name = codes "memory"

-- so many parameters, and no result
abbrev pub takes_i32s : ℕ → Signature
takes_i32s n = record { params = replicate n I32; results = [] }

-- so many parameters, and an i32
abbrev pub returns_i32 : ℕ → Signature
returns_i32 n = record { params = replicate n I32; results = I32 ∷ [] }

abbrev pub import_type : Import → Signature
import_type Blit = takes_i32s 6  -- ptr, x, y, w, h, flags
import_type BlitSub = takes_i32s 9  -- ptr, x, y, w, h, srcX, srcY, stride, flags
import_type Line = takes_i32s 4  -- x1, y1, x2, y2
import_type Hline = takes_i32s 3  -- x, y, len
import_type Vline = takes_i32s 3  -- x, y, len
import_type Oval = takes_i32s 4  -- x, y, w, h
import_type Rect = takes_i32s 4  -- x, y, w, h
import_type Text = takes_i32s 3  -- ptr, x, y
import_type TextUtf8 = takes_i32s 4  -- ptr, len, x, y
import_type TextUtf16 = takes_i32s 4  -- ptr, len, x, y
import_type Tone = takes_i32s 4  -- frequency, duration, volume, flags
import_type Diskr = returns_i32 2  -- ptr, size
import_type Diskw = returns_i32 2  -- ptr, size
import_type Trace = takes_i32s 1  -- ptr
import_type TraceUtf8 = takes_i32s 2  -- ptr, len
import_type TraceUtf16 = takes_i32s 2  -- ptr, len
import_type Tracef = takes_i32s 2  -- ptr, args
