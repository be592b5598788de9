-- Worked cases of resets and frames: small carts on the console, by computation.
use Rattle.std.specs.Prelude.{◌≡◌, ℕ, ◌+◌, Bool, map, length, pos, negsuc, List, [], ◌∷◌, slice_index, true, false, Option, Some, None, option_map, codes, refl}
use Rattle.w4_defs.specs.declared.value.Cause.TheVariants as cause
use Rattle.w4_defs.specs.declared.module.ImportKind.TheVariants as kind
use Rattle.w4_defs.specs.declared.module.ExportKind.TheVariants as export
use Rattle.w4_defs.specs.declared.operation.Op.TheVariants as op
use Rattle.w4_defs.specs.declared.basic.Basic.TheVariants.{I32Load8U, I32Store8}
use Rattle.w4_defs.specs.declared.console.Halt.{Halt}
use Rattle.w4_defs.specs.declared.console.Halt.TheVariants.{Running, Trapped, Spent}
use Rattle.w4_defs.specs.declared.console.Input.{Input}
use Rattle.w4_defs.specs.Tree.{Expr, done, plain, loop, mark}
use Rattle.w4_defs.specs.Module.{Exported, DataSegment, WasmModule, nothing_to_nothing}
use Rattle.w4_defs.specs.Imports.{import_module, takes_i32s}
use Rattle.w4_defs.specs.Evaluation.{eval, eval_within}
use Rattle.w4_defs.specs.WorkedRuns.{i32_const}
use Rattle.w4_defs.specs.State.{Moment, zero_page}
use Rattle.w4_defs.specs.Reset.{first_page, start_page, start, reset}
use Rattle.w4_defs.specs.Frame.{frame, cleared}
use Rattle.w4_defs.specs.Board.{console_setup, import_weight, import_effect}
use Rattle.w4_defs.specs.Run.{run}

-- a cart that imports `trace` as function 0, and exports own functions from index 1 on
abbrev exports_from : ℕ → List (List ℕ × Expr) → List Exported
exports_from index [] = []
exports_from index (row ∷ rows) =
    record { name = row.0; kind = export.Func; index = index } ∷ exports_from (index + 1) rows

abbrev small_cart : List (List ℕ × Expr) → List DataSegment → WasmModule
small_cart rows segments = record {
  types = nothing_to_nothing ∷ takes_i32s 1 ∷ [];
  imports = record { module_name = import_module; name = codes "trace"; kind = kind.Func 1 } ∷ [];
  functions = map (λ row. 0) rows;
  tables = [];
  memories = [];
  globals = [];
  exports = exports_from 1 rows;
  start = None;
  elements = [];
  bodies = map (λ row. record { runs = []; list = row.1 }) rows;
  segments = segments;
}

-- lists of instructions
abbrev then_nop : Expr → Expr
then_nop rest = plain (mark op.Nop) rest

abbrev endless : Expr
endless = loop None (plain (mark (op.Br 0)) done) done

abbrev trapping : Expr
trapping = plain (mark op.Unreachable) done

-- the first gamepad into the first byte of the framebuffer
abbrev showing : Expr
showing = plain (mark (i32_const 160)) (plain (mark (i32_const 22))
    (plain (mark (op.Basic (I32Load8U 0 0))) (plain (mark (op.Basic (I32Store8 0 0))) done)))

-- the text at 0 as a trace line: two instructions, and the call's weight of 64 and a unit for each byte
abbrev tracing : Expr
tracing = plain (mark (i32_const 0)) (plain (mark (op.Call 0)) done)

abbrev bytes_at : ℕ → List ℕ → DataSegment
bytes_at address bytes =
    record { memory = 0; offset = plain (mark (i32_const address)) done; bytes = bytes }

abbrev pad : ℕ → Bool → Input
pad bits again =
    record { pads = bits ∷ 0 ∷ 0 ∷ 0 ∷ []; mouse_x = pos 0; mouse_y = pos 0; buttons = 0; reset = again }

abbrev last : List (List ℕ × Expr) → List DataSegment → ℕ → List Input → Option Moment
last rows segments budget inputs =
    run (console_setup (small_cart rows segments) [] budget) [] inputs (length inputs)

abbrev halt_of : Option Moment → Option Halt
halt_of moment = option_map (λ moment. moment.state.halt) moment

abbrev page_byte : ℕ → Option Moment → Option ℕ
page_byte address moment = option_map (λ moment. slice_index moment.state.page address) moment

abbrev lines_of : Option Moment → Option (List (List ℕ))
lines_of moment = option_map (λ moment. moment.frame_record.traces.items) moment

-- three instructions want three units; an endless loop is spent at every budget
abbrev pub BudgetCases : Type 0
BudgetCases =
    let three = (codes "update", then_nop (then_nop (then_nop done))) ∷ [] in
    let circle = (codes "update", endless) ∷ [] in
    (halt_of (last three [] 3 (pad 0 false ∷ [])) ≡ Some Running)
    × (halt_of (last three [] 2 (pad 0 false ∷ [])) ≡ Some Spent)
    × (halt_of (last circle [] 50 (pad 0 false ∷ [])) ≡ Some Spent)

pub budget-cases : BudgetCases
unfolding eval eval_within zero_page first_page start_page start reset cleared frame
budget-cases = (refl, refl, refl)

-- a reset's entries share one budget, and the first that traps or is spent is the last that is called
abbrev pub StartCases : Type 0
StartCases =
    let two : Expr = then_nop (then_nop done) in
    let shared = (codes "update", done) ∷ (codes "start", two) ∷ (codes "_start", two) ∷ [] in
    let trapped =
    (codes "update", then_nop done) ∷ (codes "_initialize", endless) ∷ (codes "_start", trapping) ∷ [] in
    let spent =
    (codes "update", then_nop done) ∷ (codes "_initialize", endless) ∷ (codes "start", trapping) ∷ [] in
    (halt_of (last shared [] 4 []) ≡ Some Running)
    × (halt_of (last shared [] 3 []) ≡ Some Spent)
    × (halt_of (last trapped [] 40 []) ≡ Some (Trapped cause.Unreachable))
    × (halt_of (last trapped [] 40 (pad 0 false ∷ [])) ≡ Some (Trapped cause.Unreachable))
    × (halt_of (last spent [] 40 []) ≡ Some Spent)

pub start-cases : StartCases
unfolding eval eval_within zero_page first_page start_page start reset cleared frame
start-cases = (refl, refl, refl, refl, refl)

-- the input stands in its registers, data segments over the first values of the registers, and a frame
-- clears the framebuffer unless system flag 1 is set
abbrev pub PageCases : Type 0
PageCases =
    let show = (codes "update", showing) ∷ [] in
    let still = (codes "update", done) ∷ [] in
    (page_byte 160 (last show [] 9 (pad 27 false ∷ [])) ≡ Some 27)
    × (page_byte 22 (last show [] 9 (pad 27 false ∷ pad 1 false ∷ [])) ≡ Some 1)
    × (page_byte 4 (last still [] 9 []) ≡ Some 207)
    × (page_byte 4 (last still (bytes_at 4 (7 ∷ []) ∷ []) 9 []) ≡ Some 7)
    × (page_byte 160 (last still (bytes_at 160 (9 ∷ []) ∷ []) 9 (pad 0 false ∷ [])) ≡ Some 0)
    × (page_byte 160 (last still (bytes_at 160 (9 ∷ []) ∷ bytes_at 31 (1 ∷ []) ∷ []) 9 (pad 0 false ∷ []))
    ≡ Some 9)

pub page-cases : PageCases
unfolding eval eval_within zero_page first_page start_page start reset cleared frame
page-cases = (refl, refl, refl, refl, refl, refl)

-- a frame that begins with a reset has the reset's lines before its own; the weight of a line is taken
-- before its effect
abbrev pub TraceLineCases : Type 0
TraceLineCases =
    let both = (codes "update", tracing) ∷ (codes "start", tracing) ∷ [] in
    let text = bytes_at 0 (65 ∷ []) ∷ [] in
    (lines_of (last both text 67 []) ≡ Some ((65 ∷ []) ∷ []))
    × (lines_of (last both text 67 (pad 0 false ∷ [])) ≡ Some ((65 ∷ []) ∷ []))
    × (lines_of (last both text 67 (pad 0 true ∷ [])) ≡ Some ((65 ∷ []) ∷ (65 ∷ []) ∷ []))
    × (lines_of (last both text 66 []) ≡ Some [])
    × (halt_of (last both text 66 []) ≡ Some Spent)

pub trace-line-cases : TraceLineCases
unfolding eval eval_within zero_page first_page start_page start reset cleared frame import_weight
    import_effect
trace-line-cases = (refl, refl, refl, refl, refl)

-- mouse x of -2, mouse y of 300, and the left and middle buttons stand in their registers
abbrev pub MouseCase : Type 0
MouseCase =
    let mouse : Input = record {
      pads = 0 ∷ 0 ∷ 0 ∷ 0 ∷ [];
      mouse_x = negsuc 1;
      mouse_y = pos 300;
      buttons = 5;
      reset = false;
    } in
    let after = last ((codes "update", done) ∷ []) [] 9 (mouse ∷ []) in
    (page_byte 26 after ≡ Some 254)
    × (page_byte 27 after ≡ Some 255)
    × (page_byte 28 after ≡ Some 44)
    × (page_byte 29 after ≡ Some 1)
    × (page_byte 30 after ≡ Some 5)

pub mouse-case : MouseCase
unfolding eval eval_within zero_page first_page start_page start reset cleared frame
mouse-case = (refl, refl, refl, refl, refl)

-- the start function is called before `_start`
abbrev started_by : ℕ → List (List ℕ × Expr) → List DataSegment → WasmModule
started_by function rows segments = record (small_cart rows segments) { start = Some function }

-- the text at an address as a trace line
abbrev tracing_at : ℕ → Expr
tracing_at address = plain (mark (i32_const address)) (plain (mark (op.Call 0)) done)

abbrev pub StartCase : Type 0
StartCase =
    let rows = (codes "update", done) ∷ (codes "_start", tracing_at 0) ∷ (codes "boot", tracing_at 2) ∷ [] in
    let texts = bytes_at 0 (65 ∷ 0 ∷ 66 ∷ 0 ∷ []) ∷ [] in
    let setup = console_setup (started_by 3 rows texts) [] 134 in
    lines_of (run setup [] [] 0) ≡ Some ((66 ∷ []) ∷ (65 ∷ []) ∷ [])

pub start-case : StartCase
unfolding eval eval_within zero_page first_page start_page start reset cleared frame import_weight
    import_effect
start-case = refl
