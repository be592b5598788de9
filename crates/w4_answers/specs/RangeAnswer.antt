-- Where the run to the texts of a range begins.
use Rattle.std.specs.Prelude.{ℕ}
use Rattle.w4_defs.specs.declared.place_text.PlaceText.{PlaceText}
use Rattle.w4_defs.specs.declared.place_text.PlaceText.TheVariants.{Image, Schedule, Traces, DiskBytes}

-- how far before its place the run to a text begins: a record is made by the frame that leads to the place
abbrev pub lead_of : PlaceText → ℕ
lead_of Image = 0
lead_of Schedule = 1
lead_of Traces = 1
lead_of DiskBytes = 0
