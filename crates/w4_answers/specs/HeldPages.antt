-- The pages that are held for watches of the same places.
use Rattle.std.specs.Prelude.{IfSome, Option}
use Rattle.w4_editor.specs.Editor.{Editing}
use Rattle.w4_inspect.specs.PlacePages.{AreOf, ReadPages}

-- the pages that are held, if any, are those of the editor's recording
abbrev pub AreHeld : Editing → Option ReadPages → Type 0
AreHeld e held = IfSome held (λ pages. AreOf e pages)
