-- Lines of units as an editor tells them.
use Rattle.std.specs.Prelude.{ℕ, List, Option}
use Rattle.w4_defs.specs.PlaceTexts.{PieceForm}
use Rattle.w4_defs.specs.Units.{units_at}
use Rattle.w4_editor.specs.Editor.{Editing, editing_setup}

-- the line of frame K of an editor's recording
abbrev pub units_by : PieceForm → Editing → ℕ → Option (List ℕ)
units_by form e k = units_at form (editing_setup e) e.disk e.session.current.inputs k
