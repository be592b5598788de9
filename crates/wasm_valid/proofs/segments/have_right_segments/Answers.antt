use Rattle.std.proofs.Common.{ℕ, ◌≡◌, ◌<◌, List, length, subst}
use Rattle.std.specs.Prelude.{All}
use Rattle.std.specs.Bool.{Decides}
use Rattle.w4_defs.specs.declared.value.ValType.TheVariants.{I32}
use Rattle.w4_defs.specs.Lookup.{memories_of}
use Rattle.w4_defs.specs.Module.{DataSegment}
use Rattle.w4_defs.specs.Validity.{IsConstant}
use Rattle.wasm_valid.proofs.segments.have_right_segments.Goals as goal

-- the rule, where there are so many memories
abbrev IsAmong : ℕ → DataSegment → Type 0
IsAmong memories s = (s.memory ≡ 0) × (0 < memories) × IsConstant I32 s.offset

pub returns : goal.returns
returns c =
    let m = c.args.code.now in
    subst (λ (xs : List DataSegment). Decides c.all.result (All (IsAmong (length (memories_of m))) xs))
    c.segments.ensures
    (subst (λ (n : ℕ). Decides c.all.result (All (IsAmong n) c.segments.result.now)) c.requires.memories
    c.all.ensures)
