use Rattle.std.proofs.Common.{◌≡◌, ◌-◌, length}
use Rattle.wasm_read.specs.ReadSection.{contents_at}
use Rattle.wasm_read.proofs.section.contents_of.Given as goal

abbrev pub invariant-loop : goal.invariant-loop
invariant-loop l = contents_at (length l.bytes - l.counter) l.id l.rest ≡ contents_at (length l.bytes) l.id
    l.bytes
