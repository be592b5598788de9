-- The cells of an oval whose sides are not negative. Columns and rows are counted from one left of the screen
-- and one above it: cell (s, t) is the pixel at column s - 1 and row t - 1.
use Rattle.std.specs.Prelude.{◌≡◌, ◌<◌, ◌≤◌, ◌+◌, ◌*◌, ◌/◌, ℕ, pos, ◌+ℤ◌, ◌-ℤ◌, ◌<ℤ◌, ◌≤ℤ◌, Bool, ◌&&◌, ◌==◌}
use Rattle.std.specs.Prelude.{nat_le, nat_lt, Option}
use Rattle.w4_defs.specs.Framebuffer.{Painter}
use Rattle.w4_defs.specs.Shapes.{only_if, aside, is_within, oval_painter}
use Rattle.w4_shapes.specs.declared.oval_cells.Cells.{Cells}
use Rattle.w4_shapes.specs.declared.oval_cells.Columns.{Columns}
use Rattle.w4_shapes.specs.declared.oval_cells.Extent.{Extent}

abbrev pub painter_of : Cells → Painter
painter_of cells = oval_painter cells.colors cells.x cells.y (pos cells.w) (pos cells.h)

-- the cell is within the oval
abbrev pub within_at : Cells → ℕ → ℕ → Bool
within_at cells s t =
    is_within cells.w cells.h ((pos s -ℤ pos 1) -ℤ cells.x) ((pos t -ℤ pos 1) -ℤ cells.y)

-- the cell of column s is nearer to the middle than a row's limit, squared
abbrev pub reaches : Cells → ℕ → ℕ → Bool
reaches cells limit s =
    let far = aside ((pos s -ℤ pos 1) -ℤ cells.x) cells.w in nat_lt (far * far) limit

-- the number is one of the extent's
abbrev pub has : Extent → ℕ → Bool
has extent s = nat_le extent.first s && nat_lt s extent.end

-- of the columns of the screen that have cells, and those beside them, the cells of row t that are within
-- the oval are those of the extent
abbrev pub Spans : Columns → ℕ → Extent → Type 0
Spans columns t extent =
    (s : ℕ) → columns.left ≤ s → s < columns.right + 2 → within_at columns.cells s t ≡ has extent s

-- the extent has both ends among those columns, one in each half of the oval
abbrev pub Around : Columns → Extent → Type 0
Around columns extent =
    (columns.left ≤ extent.first) × (extent.first ≤ columns.middle) × (columns.middle ≤ extent.end)
    × (extent.end ≤ columns.right + 2)

-- the cells before the middle are of the oval's left half, the others of its right half
abbrev pub Halves : Cells → ℕ → ℕ → ℕ → Type 0
Halves cells left right middle = (s : ℕ) → left ≤ s → s < right + 2 →
    (s < middle → pos s ≤ℤ (cells.x +ℤ pos (cells.w / 2)))
    × (middle ≤ s → (cells.x +ℤ pos (cells.w / 2)) <ℤ pos s)

-- the pixels of a row of the screen in the columns from `first` up to `end`
abbrev pub extent_painter : ℕ → ℕ → ℕ → Option ℕ → Painter
extent_painter first end row index u v =
    only_if ((nat_le first (u + 1) && nat_lt (u + 1) end) && v == row) index

-- the cell's four neighbours are within, by the extents of their rows
abbrev pub is_inner : Extent → Extent → Extent → ℕ → Bool
is_inner above here below u = has here u && has here (u + 2) && has above (u + 1) && has below (u + 1)
