-- The functions of the module `env` by their names (WASM-4 reference).
use Rattle.std.specs.Prelude.{ℕ, List, [], ◌∷◌, Option, Some, None, codes, bytes_eq, if◌then◌else◌}
use Rattle.w4_defs.specs.declared.console.Import.{Import}
use Rattle.w4_defs.specs.declared.console.Import.TheVariants.{Blit, BlitSub, Line, Hline, Vline, Oval, Rect, Text, TextUtf8, TextUtf16, Tone, Diskr, Diskw, Trace, TraceUtf8, TraceUtf16, Tracef}
use Rattle.w4_defs.specs.Imports.{import_module}

abbrev pub import_names : List (List ℕ × Import)
import_names =
    (codes "blit", Blit)
    ∷ (codes "blitSub", BlitSub)
    ∷ (codes "line", Line)
    ∷ (codes "hline", Hline)
    ∷ (codes "vline", Vline)
    ∷ (codes "oval", Oval)
    ∷ (codes "rect", Rect)
    ∷ (codes "text", Text)
    ∷ (codes "textUtf8", TextUtf8)
    ∷ (codes "textUtf16", TextUtf16)
    ∷ (codes "tone", Tone)
    ∷ (codes "diskr", Diskr)
    ∷ (codes "diskw", Diskw)
    ∷ (codes "trace", Trace)
    ∷ (codes "traceUtf8", TraceUtf8)
    ∷ (codes "traceUtf16", TraceUtf16)
    ∷ (codes "tracef", Tracef)
    ∷ []

abbrev pub named_in : List (List ℕ × Import) → List ℕ → Option Import
named_in [] name = None
named_in (row ∷ rows) name = if bytes_eq row.0 name then Some row.1 else named_in rows name

-- the import of this module name and this name
abbrev pub import_named : List ℕ → List ℕ → Option Import
import_named module_name name =
    if bytes_eq module_name import_module then named_in import_names name else None
