-- What a shape has painted once a loop has come so far.
use Rattle.std.specs.Prelude.{ℕ, ℤ, pos, Bool, ◌≡◌, ◌<◌, ◌≤ℤ◌, ◌<ℤ◌, ◌/◌, ◌%◌, negsuc, ◌&&◌, nat_le, int_le}
use Rattle.std.specs.Prelude.{if◌then◌else◌, Option}
use Rattle.std.specs.List.{range_with_len, list_any}
use Rattle.w4_defs.specs.Framebuffer.{Painter}
use Rattle.w4_defs.specs.Shapes.{only_if, is_at, toward, moved, apart}

-- the pixel is the point of a line that starts at its first end after t steps
abbrev pub is_point : ℤ → ℤ → ℤ → ℤ → ℕ → ℕ → ℕ → Bool
is_point x1 y1 x2 y2 t u v =
    is_at (toward x1 x2 (moved (apart x1 x2) (apart y1 y2) t)) u
    && is_at (toward y1 y2 (moved (apart y1 y2) (apart x1 x2) t)) v

-- those of a line's points that it has after the steps from `first` up to `end`
abbrev pub steps_painter : (ℕ → ℤ) → (ℕ → ℤ) → ℕ → ℕ → Option ℕ → Painter
steps_painter xs ys first end index u v =
    only_if (list_any (λ t. nat_le first t && (is_at (xs t) u && is_at (ys t) v))
    (range_with_len 0 end)) index

-- the coordinate is one of the screen's
abbrev pub OnAxis : ℤ → Type 0
OnAxis z = (pos 0 ≤ℤ z) × (z <ℤ pos 160)

-- the pixel at column x and row y of the screen has this number, counted in rows from the top
abbrev pub IsPixel : ℤ → ℤ → ℕ → Type 0
IsPixel x y number = (number < 25600) × (pos (number % 160) ≡ x) × (pos (number / 160) ≡ y)

-- one step across, from x1 toward x2
abbrev pub across : ℤ → ℤ → ℤ
across x1 x2 = if int_le x1 x2 then pos 1 else negsuc 0
