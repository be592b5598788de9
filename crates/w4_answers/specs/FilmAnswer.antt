-- The images of a film, each of them in a form.
use Rattle.std.specs.Prelude.{ℕ, zero, suc, ◌/◌, List, [], ◌++◌, drop, length, take}
use Rattle.w4_defs.specs.PlaceTexts.{PieceForm}

-- the bytes of images, one after another, each of them in a form
abbrev pub images_in_blocks : PieceForm → ℕ → List ℕ → List ℕ
images_in_blocks form zero bytes = []
images_in_blocks form (suc count) bytes =
    form (take 76815 bytes) ++ images_in_blocks form count (drop 76815 bytes)

abbrev pub images_in : PieceForm → List ℕ → List ℕ
images_in form bytes = images_in_blocks form (length bytes / 76815) bytes
