-- Lines of units, as an editor tells them from one call to the next.
use Rattle.std.proofs.Common.{◌≡◌, ◌<◌, ℕ, Some, inl, inr, length, arith}
use Rattle.w4_defs.specs.PlaceTexts.{PieceForm}
use Rattle.w4_defs.specs.Units.{units_at}
use Rattle.w4_editor.specs.Editor.{Editing}
use Rattle.w4_editor.specs.Playing.{IsAtEnd}
use Rattle.w4_answers.specs.UnitsAnswer.{units_by}
use Rattle.w4_answers.specs.Desk.{OnlyShows}
use Rattle.w4_answers.proofs.DeskSessionLaws.{same_disk, same_editing_setup, same_inputs, same_place}

-- what is told of a frame is the same
pub same_units : (form : PieceForm) (old new : Editing) (k : ℕ) → OnlyShows old new
    → units_by form new k ≡ units_by form old k
same_units form old new k shows =
    λ i. units_at form (same_editing_setup old new shows.rest i) (same_disk old new shows.rest i)
    (same_inputs old new shows i) k

-- a place before the last isn't the last
pub before_end : (e : Editing) (p : ℕ) → p < length e.session.current.inputs → e.at ≡ Some p → IsAtEnd e → ⊥
before_end e p within at (inl none) = cc
before_end e p within at (inr end) =
    let same = same_place e.at p (length e.session.current.inputs) at end in omega (arith, same, within)
