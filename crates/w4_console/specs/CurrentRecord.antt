-- The record in a box that is there while no function runs.
use Rattle.std.specs.Prelude.{Option, Some, None, replicate}
use Rattle.w4_defs.specs.Logs.{empty_log}
use Rattle.w4_devices.specs.declared.frame_record.FrameRecord.{FrameRecord as Record}

abbrev pub record_in : Option Record → Record
record_in (Some r) = r
record_in None = record { tones = empty_log; traces = empty_log; sounds = replicate 4 None }
