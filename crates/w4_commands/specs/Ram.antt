-- What a query reads, as the definitions see it.
use Rattle.w4_commands.specs.declared.ram.RamLoaded.{RamLoaded}
use Rattle.w4_defs.specs.ToolOutputs.{RamLoaded as GivenQuery}
use Rattle.w4_commands.specs.Load.{run_files_view}

abbrev pub ram_loaded_view : RamLoaded → GivenQuery
ram_loaded_view l = record { run = run_files_view l.run; lines = l.lines.items }
