-- A frame's record as the console's definitions speak of it.
use Rattle.w4_defs.specs.State.{FrameRecord}
use Rattle.w4_devices.specs.declared.frame_record.FrameRecord.{FrameRecord as Record}

abbrev pub record_of : Record → FrameRecord
record_of frame_record = record {
  tones = frame_record.tones;
  traces = frame_record.traces;
  sounds =
      frame_record.sounds;
}
