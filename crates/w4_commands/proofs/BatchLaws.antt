-- The lines of rows, one after another.
use Rattle.std.proofs.Common.{◌≡◌, ℕ, ◌+◌, ◌<◌, ◌≤◌, List, [], ◌∷◌, drop, get_or, length, Option, Some, None}
use Rattle.std.proofs.Common.{refl, subst, add-one, drop-cons}
use Rattle.std.specs.Option.{ForSome}
use Rattle.std.proofs.Math.ListN.{drop_of_length-le}
use Rattle.w4_defs.specs.declared.batch.BatchRow.{BatchRow}
use Rattle.w4_defs.specs.AllThere.{joined}
use Rattle.w4_defs.specs.World.{World}
use Rattle.w4_answers.specs.Writing.{AppendsOut, StopsWriting}
use Rattle.w4_defs.specs.Endings.{Manner}
use Rattle.w4_defs.specs.BatchRows.{row_text, rows_text}
use Rattle.w4_answers.proofs.WritingLaws.{OwesThere, there_is, there_less, there_nothing, there_stopped}

-- the lines of the rows from row I on
abbrev pub lines_from : List (List ℕ) → List (Option BatchRow) → ℕ → Option (List ℕ)
lines_from names rows i = rows_text (drop i names) (drop i rows)

-- the line of row I, and those of the others
rows-next : (names : List (List ℕ)) (rows : List (Option BatchRow)) (i : ℕ) (row : BatchRow)
    → i < length names → i < length rows → get_or rows i None ≡ Some row
    → lines_from names rows i
    ≡ joined (Some (row_text (get_or names i []) row)) (lines_from names rows (i + 1))
rows-next names rows i row lt less is =
    let name : drop i names ≡ get_or names i [] ∷ drop (i + 1) names =
    rw (add-one i) (drop-cons names i [] lt) in
    let here : drop i rows ≡ get_or rows i None ∷ drop (i + 1) rows =
    rw (add-one i) (drop-cons rows i None less) in
    rw (name, here, is) refl

pub rows-more : (first now next : World) (names : List (List ℕ)) (rows : List (Option BatchRow)) (i : ℕ)
    (row : BatchRow) (whole : Option (List ℕ)) → i < length names → i < length rows
    → get_or rows i None ≡ Some row → AppendsOut now.events next.events (row_text (get_or names i []) row)
    → OwesThere first now (lines_from names rows i) whole
    → OwesThere first next (lines_from names rows (i + 1)) whole
rows-more first now next names rows i row whole lt less is more so_far =
    let line = row_text (get_or names i []) row in
    there_less first now next (Some line) (lines_from names rows (i + 1)) whole
    (there_is (λ text. AppendsOut now.events next.events text) (Some line) line refl more)
    (subst (λ (owed : Option (List ℕ)). OwesThere first now owed whole)
    (rows-next names rows i row lt less is) so_far)

-- where the writing of row I stopped
pub rows-stop : (first now next : World) (why : Manner) (names : List (List ℕ))
    (rows : List (Option BatchRow)) (i : ℕ) (row : BatchRow) (whole : Option (List ℕ))
    → i < length names → i < length rows → get_or rows i None ≡ Some row
    → first.write_faults ≤ now.write_faults → OwesThere first now (lines_from names rows i) whole
    → StopsWriting now next why (row_text (get_or names i []) row)
    → ForSome whole (λ text. StopsWriting first next why text)
rows-stop first now next why names rows i row whole lt less is le so_far h =
    let line = row_text (get_or names i []) row in
    there_stopped first now next why (Some line) (lines_from names rows (i + 1)) (lines_from names rows i)
    whole (rows-next names rows i row lt less is) le so_far
    (there_is (λ text. StopsWriting now next why text) (Some line) line refl h)

pub rows-all : (first now : World) (names : List (List ℕ)) (rows : List (Option BatchRow)) (i : ℕ)
    (whole : Option (List ℕ)) → length names ≤ i → OwesThere first now (lines_from names rows i) whole
    → ForSome whole (λ text. AppendsOut first.events now.events text)
rows-all first now names rows i whole le so_far =
    there_nothing first now (lines_from names rows i) whole (rw (drop_of_length-le names le) refl) so_far
