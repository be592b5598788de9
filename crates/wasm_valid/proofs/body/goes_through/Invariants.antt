use Rattle.std.proofs.Common.{◌≡◌, drop}
use Rattle.wasm_valid.specs.Pass.{blocks_after}
use Rattle.wasm_valid.specs.BodyMarks.{body_marks}
use Rattle.wasm_valid.proofs.body.goes_through.Given as goal

abbrev pub invariant-loop-position : goal.invariant-loop-position
invariant-loop-position l =
    blocks_after l.scope (drop l.position (body_marks l.code l.func)) l.control
    ≡ blocks_after l.scope (body_marks l.code l.func) l.initial.control
