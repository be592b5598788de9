-- What a refusal says of what the bytes of a file are by definition. Running out of memory says nothing.
use Rattle.std.specs.Prelude.{◌≡◌, List, Result, Err, ⊤}
use Rattle.w4_defs.specs.declared.status.ScriptKind.{ScriptKind}
use Rattle.w4_defs.specs.declared.status.ScriptKind.TheVariants as fault
use Rattle.w4_script.specs.declared.refusal.ScriptRefusal.{ScriptRefusal}
use Rattle.w4_script.specs.declared.refusal.ScriptRefusal.TheVariants.{TooLong, BadLine, OutOfMemory}

abbrev pub Refuses : {Order : Type 0} → ScriptRefusal → Result (List Order) ScriptKind → Type 0
Refuses TooLong read = read ≡ Err fault.TooLong
Refuses (BadLine number) read = read ≡ Err (fault.BadLine number)
Refuses OutOfMemory read = ⊤
