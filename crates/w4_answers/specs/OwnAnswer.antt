-- The orders that a live session alone has, but `save`, and how many frames their answers run at most
-- (project rule).
use Rattle.std.specs.Prelude.{⊤, ◌≡◌, ℕ, ◌-◌, List}
use Rattle.w4_defs.specs.declared.live.LiveOrder.{LiveOrder}
use Rattle.w4_defs.specs.declared.live.LiveOrder.TheVariants as live
use Rattle.w4_defs.specs.Live.{globals_text}
use Rattle.w4_defs.specs.State.{State}
use Rattle.w4_editor.specs.Editor.{Editing}
use Rattle.w4_answers.specs.Desk.{RunsOn}
use Rattle.w4_answers.specs.declared.own_answer.StatePart.{StatePart}
use Rattle.w4_answers.specs.declared.own_answer.StatePart.TheVariants as part

abbrev pub IsOwn : LiveOrder → Type 0
IsOwn (live.PageAt p) = ⊤
IsOwn (live.GlobalsAt p) = ⊤
IsOwn (live.Inputs a b) = ⊤
IsOwn (live.Units a b) = ⊤
IsOwn order = ⊥

-- an order that a live session alone has is answered within so many frames
abbrev pub OwnWithin : LiveOrder → (ticks_before ticks_after : ℕ) → (old new : Editing) → Type 0
OwnWithin (live.PageAt p) ticks_before ticks_after old new = RunsOn p 0 ticks_before ticks_after old new
OwnWithin (live.GlobalsAt p) ticks_before ticks_after old new = RunsOn p 0 ticks_before ticks_after old new
OwnWithin (live.Units a b) ticks_before ticks_after old new =
    RunsOn a (b - a) ticks_before ticks_after old new
OwnWithin other ticks_before ticks_after old new = ticks_after ≡ ticks_before

-- the part of a state that an answer writes
abbrev pub part_of : StatePart → State → List ℕ
part_of part.Page state = state.page
part_of part.Globals state = globals_text state.globals
