-- What a batch reads, as the definitions see it.
use Rattle.std.specs.Prelude.{map, string_bytes}
use Rattle.w4_commands.specs.declared.batch.BatchLoaded.{BatchLoaded}
use Rattle.w4_defs.specs.ToolOutputs.{BatchLoaded as GivenList}

abbrev pub batch_loaded_view : BatchLoaded → GivenList
batch_loaded_view l = record {
  font = l.font;
  names = map string_bytes l.names.items;
  recordings = map (λ bytes. bytes.items) l.recordings.items;
}
