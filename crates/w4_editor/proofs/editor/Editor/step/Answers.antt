use Rattle.std.proofs.Common.{refl}
use Rattle.w4_devices.specs.Records.{record_of}
use Rattle.w4_editor.proofs.EditorLaws.{next_state}
use Rattle.w4_editor.proofs.editor.Editor.step.Goals as goal

pub returns : goal.returns
returns g c = (
  (refl, λ _. tt, (c.in_ok-step_units.ensures.ok, tt)),
  record {
    stepped = tt;
    state = next_state (record_of c.step_units.new.frame_record) c.args.self.now c.step_units.new.self
        c.state.result.now
        c.in_ok-step_units.ensures.ok c.state.ensures;
    ticks = c.in_ok-step_units.ensures.ticks;
    idle = tt;
    refused = tt;
  },
)
