-- What an order makes of a session, and how many frames that runs at most (project rule).
use Rattle.std.specs.Prelude.{ℕ, Result, Ok, ◌≡◌, ◌⊎◌, List}
use Rattle.w4_defs.specs.declared.editing.EditRefusal.{EditRefusal}
use Rattle.w4_defs.specs.declared.order.Order.{Order}
use Rattle.w4_defs.specs.declared.order.Order.TheVariants as order
use Rattle.w4_defs.specs.Session.{Session, places_alone, set_input, insert_input, delete_input, undo, redo}
use Rattle.w4_defs.specs.Session.{keep, keep_every, drop_kept}
use Rattle.w4_editor.specs.Editor.{Editing}
use Rattle.w4_editor.specs.Playing.{IsKeptAt, AreKeptInTurn}

-- what an order makes of a session, or why it is refused; an order that only tells makes nothing of it
abbrev pub changed : Order → Session ℕ → Result (Session ℕ) EditRefusal
changed (order.Set k input) s = set_input places_alone k input s
changed (order.Insert k input) s = insert_input places_alone k input s
changed (order.Delete k) s = delete_input places_alone k s
changed order.Undo s = undo s
changed order.Redo s = redo s
changed (order.Keep p) s = keep places_alone p s
changed (order.KeepEvery every) s = keep_every every s
changed (order.DropKept p) s = drop_kept places_alone p s
changed (order.Settle workers) s = Ok s
changed (order.Show p) s = Ok s
changed (order.Film a b workers) s = Ok s
changed (order.Tones a b) s = Ok s
changed (order.Traces a b) s = Ok s
changed (order.DiskAt p) s = Ok s
changed (order.StateAt p) s = Ok s

-- of orders that change the session, only those that keep places run frames: to show these
abbrev pub ChangesWithin : Order → (ticks_before ticks_after : ℕ) → (old new : Editing) → Type 0
ChangesWithin (order.Keep p) ticks_before ticks_after old new =
    (ticks_after ≡ ticks_before) ⊎ ((copied : ℕ) × IsKeptAt p ticks_before ticks_after copied old new)
ChangesWithin (order.KeepEvery every) ticks_before ticks_after old new =
    (ticks_after ≡ ticks_before)
    ⊎ ((places : List ℕ) × (copied : ℕ) × AreKeptInTurn places ticks_before ticks_after copied old new)
ChangesWithin other ticks_before ticks_after old new = ticks_after ≡ ticks_before
