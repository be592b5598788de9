use Rattle.std.proofs.Common.{subst}
use Rattle.std.specs.Prelude.{slice_get}
use Rattle.w4_defs.specs.Module.{WasmModule}
use Rattle.wasm_valid.proofs.CartLaws.{IsSegmentRead, segment_is_read}
use Rattle.wasm_valid.proofs.cart.Cart.segment.Goals as goal

abbrev Read : (c : goal.After-segment_bytes) → Type 0
Read c =
    IsSegmentRead (slice_get c.args.self.now.segments c.args.i) c.first_number32-offset.result
    c.segment_bytes.result.now

read : (c : goal.After-segment_bytes) → Read c
read c =
    subst (λ (m : WasmModule). IsSegmentRead (slice_get m.segments c.args.i) c.first_number32-offset.result
    c.segment_bytes.result.now) c.self.view_is
    (segment_is_read c.self.inside.code c.args.i _ _ _ c.self.invariant.profile c.self.invariant.valid
    c.segment_offset.ensures.value c.segment_bytes.ensures c.first_number32-offset.ensures)

pub returns-clause-offset : goal.returns-clause-offset
returns-clause-offset c = (read c).offset_is

pub returns-clause-fits : goal.returns-clause-fits
returns-clause-fits c = (read c).fits
