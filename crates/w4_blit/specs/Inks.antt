-- What a pixel value paints.
use Rattle.std.specs.Prelude.{ℕ, ◌==◌, if◌then◌else◌}
use Rattle.w4_blit.specs.declared.inks.Inks.{Inks}
use Rattle.w4_blit.specs.declared.masks.Strip.{Strip}

abbrev pub ink_of : Inks → ℕ → Strip
ink_of inks value =
    if value == 0 then inks.first
    else if value == 1 then inks.second else if value == 2 then inks.third else inks.fourth
