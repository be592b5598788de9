-- A painter kept to a box of the screen: what a shape has painted once a loop over columns and rows has
-- come so far.
use Rattle.std.specs.Prelude.{ℕ, ◌&&◌, nat_le, nat_lt}
use Rattle.w4_defs.specs.Framebuffer.{Painter}
use Rattle.w4_defs.specs.Shapes.{only_if}

-- the painter in the columns from `left` up to `right` and the rows from `top` up to `bottom`
abbrev pub clipped : Painter → ℕ → ℕ → ℕ → ℕ → Painter
clipped f left right top bottom u v =
    only_if ((nat_le left u && nat_lt u right) && (nat_le top v && nat_lt v bottom)) (f u v)
