-- What a session of rollback reads, as the definitions see it.
use Rattle.w4_commands.specs.declared.net.NetLoaded.{NetLoaded}
use Rattle.w4_defs.specs.ToolOutputs.{NetLoaded as GivenLog}

abbrev pub net_loaded_view : NetLoaded → GivenLog
net_loaded_view l = record { font = l.font; orders = l.orders.items }
