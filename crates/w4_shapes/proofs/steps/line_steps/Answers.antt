use Rattle.std.proofs.Common.{◌≡◌, ◌+◌, ◌≤◌, ◌<◌, ◌⊎◌, inl, inr, sym, arith, w32, max, false}
use Rattle.std.proofs.lemmas.Bool.{cases_lt}
use Rattle.std.proofs.lemmas.Int.{to_z-of_z}
use Rattle.w4_defs.specs.Shapes.{apart, is_at, moved, toward}
use Rattle.w4_shapes.specs.Painted.{OnAxis}
use Rattle.w4_shapes.proofs.StepLaws.{point_off}
use Rattle.w4_shapes.proofs.steps.line_steps.Goals as goal

pub returns-clause-on : goal.returns-clause-on
returns-clause-on c = λ t low high.
    let a = c.args in
    let wide : c.distance-wide.result ≡ apart a.x1 a.x2 =
    simp (to_z-of_z w32 a.x1 c.ranges.x1, to_z-of_z w32 a.x2 c.ranges.x2) at c.distance-wide.ensures in
    let tall : c.distance-high.result ≡ apart a.y1 a.y2 =
    simp (to_z-of_z w32 a.y1 c.ranges.y1, to_z-of_z w32 a.y2 c.ranges.y2) at c.distance-high.ensures in
    let column : OnAxis (toward a.x1 a.x2 (moved c.distance-wide.result c.distance-high.result t)) =
    simp (to_z-of_z w32 a.x1 c.ranges.x1, to_z-of_z w32 a.x2 c.ranges.x2) at
    (c.axis_steps-columns.ensures.on t (omega arith) (omega arith)) in
    let row : OnAxis (toward a.y1 a.y2 (moved c.distance-high.result c.distance-wide.result t)) =
    simp (to_z-of_z w32 a.y1 c.ranges.y1, to_z-of_z w32 a.y2 c.ranges.y2) at
    (c.axis_steps-rows.ensures.on t (omega arith) (omega arith)) in (
      rw (sym wide, sym tall) column,
      rw (sym wide, sym tall) row,
    )

pub returns-clause-off : goal.returns-clause-off
returns-clause-off c = λ t u v hu hv out ht.
    let a = c.args in
    let wide : c.distance-wide.result ≡ apart a.x1 a.x2 =
    simp (to_z-of_z w32 a.x1 c.ranges.x1, to_z-of_z w32 a.x2 c.ranges.x2) at c.distance-wide.ensures in
    let tall : c.distance-high.result ≡ apart a.y1 a.y2 =
    simp (to_z-of_z w32 a.y1 c.ranges.y1, to_z-of_z w32 a.y2 c.ranges.y2) at c.distance-high.ensures in
    let last : t < max c.distance-wide.result c.distance-high.result + 1 = omega arith in
    let last_row : t < max c.distance-high.result c.distance-wide.result + 1 = omega arith in
    let column : (t < c.axis_steps-columns.result.0) ⊎ (c.axis_steps-columns.result.1 ≤ t)
    → is_at (toward a.x1 a.x2 (moved c.distance-wide.result c.distance-high.result t)) u ≡ false =
    λ there. simp (to_z-of_z w32 a.x1 c.ranges.x1, to_z-of_z w32 a.x2 c.ranges.x2) at
    (c.axis_steps-columns.ensures.off t u hu there last) in
    let row : (t < c.axis_steps-rows.result.0) ⊎ (c.axis_steps-rows.result.1 ≤ t)
    → is_at (toward a.y1 a.y2 (moved c.distance-high.result c.distance-wide.result t)) v ≡ false =
    λ there. simp (to_z-of_z w32 a.y1 c.ranges.y1, to_z-of_z w32 a.y2 c.ranges.y2) at
    (c.axis_steps-rows.ensures.off t v hv there last_row) in
    let bare : (t < c.axis_steps-columns.result.0) ⊎ (c.axis_steps-columns.result.1 ≤ t)
    → is_at (toward a.x1 a.x2 (moved (apart a.x1 a.x2) (apart a.y1 a.y2) t)) u ≡ false =
    λ there. rw (sym wide, sym tall) (column there) in
    let clear : (t < c.axis_steps-rows.result.0) ⊎ (c.axis_steps-rows.result.1 ≤ t)
    → is_at (toward a.y1 a.y2 (moved (apart a.y1 a.y2) (apart a.x1 a.x2) t)) v ≡ false =
    λ there. rw (sym wide, sym tall) (row there) in
    point_off a.x1 a.x2 a.y1 a.y2 t u v (elim (cases_lt t c.axis_steps-columns.result.0) [
      | inl before ↦ inl (bare (inl before))
      | inr from ↦ elim (cases_lt t c.axis_steps-rows.result.0) [
        | inl before ↦ inr (clear (inl before))
        | inr also ↦ elim (cases_lt t c.axis_steps-columns.result.1) [
          | inr after ↦ inl (bare (inr after))
          | inl to ↦ inr (clear (inr (elim out [
            | inl below ↦ absurd (omega arith)
            | inr above ↦ omega arith
          ])))
        ]
      ]
    ])
