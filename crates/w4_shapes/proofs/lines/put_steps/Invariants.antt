use Rattle.std.proofs.Common.{◌≡◌, ◌+◌, ◌-◌, ◌*◌, ◌/◌, ◌<◌, Some}
use Rattle.w4_defs.specs.Framebuffer.{paint}
use Rattle.w4_defs.specs.Shapes.{apart, moved, toward}
use Rattle.w4_shapes.specs.Painted.{IsPixel, steps_painter}
use Rattle.w4_shapes.proofs.lines.put_steps.Given as goal

abbrev pub invariant-loop-step : goal.invariant-loop-step
invariant-loop-step l = record {
  painted : l.page ≡ paint l.initial.page (steps_painter
      (λ t. toward l.fn.steps.ends.x1 l.fn.steps.ends.x2
      (moved (apart l.fn.steps.ends.x1 l.fn.steps.ends.x2) (apart l.fn.steps.ends.y1 l.fn.steps.ends.y2) t))
      (λ t. toward l.fn.steps.ends.y1 l.fn.steps.ends.y2
      (moved (apart l.fn.steps.ends.y1 l.fn.steps.ends.y2) (apart l.fn.steps.ends.x1 l.fn.steps.ends.x2) t))
      l.fn.steps.first l.step (Some l.index));
  sum : l.slope.moved * l.distances.most + l.slope.rest ≡ l.step * l.distances.less + (l.distances.most - 1)
      / 2;
  rest : l.slope.rest < l.distances.most;
  pixel_is : l.step < l.fn.steps.end → IsPixel
      (toward l.fn.steps.ends.x1 l.fn.steps.ends.x2
      (moved (apart l.fn.steps.ends.x1 l.fn.steps.ends.x2) (apart l.fn.steps.ends.y1 l.fn.steps.ends.y2)
      l.step))
      (toward l.fn.steps.ends.y1 l.fn.steps.ends.y2
      (moved (apart l.fn.steps.ends.y1 l.fn.steps.ends.y2) (apart l.fn.steps.ends.x1 l.fn.steps.ends.x2)
      l.step))
      l.number;
}
