-- What is told of the recordings of a list (project rule): one line of each, in the order of the names.
use Rattle.std.specs.Prelude.{◌≡◌, ℕ, List, [], ◌∷◌, ◌++◌, map, zip, codes, Option, Some, option_map, refl}
use Rattle.std.specs.Fmt.{digits}
use Rattle.w4_defs.specs.declared.batch.BatchRow.{BatchRow}
use Rattle.w4_defs.specs.declared.batch.BatchRow.TheVariants.{Bad, WrongCart, Ran}
use Rattle.w4_defs.specs.declared.console.Halt.TheVariants.{Running}
use Rattle.w4_defs.specs.AllThere.{all_joined}
use Rattle.w4_defs.specs.FrameTexts.{spaced, line_end, halt_words}
use Rattle.w4_defs.specs.MadeSummary.{hexadecimal}

-- the line of a row
abbrev pub row_text : List ℕ → BatchRow → List ℕ
row_text name Bad = name ++ codes " bad" ++ line_end
row_text name WrongCart = name ++ codes " wrong cart" ++ line_end
row_text name (Ran frames halt image disk) =
    name ++ spaced frames ++ codes " halt " ++ halt_words halt ++ codes " image " ++ hexadecimal image
    ++ codes " disk" ++ spaced disk ++ line_end

-- the lines of all rows, in the order of the names; None where a run has no meaning
abbrev pub rows_text : List (List ℕ) → List (Option BatchRow) → Option (List ℕ)
rows_text names rows = all_joined (map (λ pair. option_map (row_text pair.0) pair.1) (zip names rows))

-- Worked case: a line of each row.
abbrev pub RowTextCases : Type 0
RowTextCases =
    rows_text (codes "a" ∷ codes "b" ∷ codes "c" ∷ [])
    (Some (Ran 2 Running (222 ∷ 7 ∷ []) 0) ∷ Some Bad ∷ Some WrongCart ∷ [])
    ≡ Some (codes "a 2 halt running image de07 disk 0\nb bad\nc wrong cart\n")

pub row-text-cases : RowTextCases
unfolding digits
row-text-cases = refl
