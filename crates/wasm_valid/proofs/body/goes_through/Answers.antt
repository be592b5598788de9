use Rattle.std.proofs.Common.{◌∙◌, ◌+◌, sym, arith, drop, refl}
use Rattle.std.specs.Prelude.{slice_get}
use Rattle.wasm_valid.specs.BodyMarks.{body_marks}
use Rattle.wasm_valid.proofs.BodyMarkLaws.{as_many, mark_next, mark_stop, mark_on, stopped}
use Rattle.wasm_valid.proofs.BodyMarkLaws.{ended_with_none_open, past_all}
use Rattle.wasm_valid.proofs.body.goes_through.Goals as goal

pub labels-requires : goal.labels-requires
labels-requires c =
    omega (
      arith,
      c.loop-position-test.true,
      as_many (slice_get c.args.code.now.bodies c.args.func) c.body-operations.result.now
          c.body-operations.ensures.value c.body-operations.ensures.proper,
    )

pub returns-then-not-branch-clause-value : goal.returns-then-not-branch-clause-value
returns-then-not-branch-clause-value c =
    let m = c.args.code.now in
    let position = c.loop-position.position in
    let rest = drop (position + 1) (body_marks m c.args.func) in
    stopped _ _ refl
    (sym c.loop-position.invariant
    ∙ mark_stop c.args.scope.now (drop position (body_marks m c.args.func)) rest c.loop-position.control
    c.check_mark.new.control c.in_ok-check_mark.field-0
    (mark_next c.args.scope.now (slice_get m.bodies c.args.func) c.body-operations.result.now position _
    c.labels.result.now c.loop-position.control c.check_mark.new.control c.in_ok-check_mark.field-0
    c.body-operations.ensures.value c.body-operations.ensures.proper c.loop-position-test.true
    c.labels.ensures
    c.in_ok-check_mark.ensures)
    c.if-not-branch.true)

pub loop-position-preserved : goal.loop-position-preserved
loop-position-preserved c =
    let m = c.args.code.now in
    let position = c.loop-position.position in
    let rest = drop (position + 1) (body_marks m c.args.func) in
    mark_on c.args.scope.now (drop position (body_marks m c.args.func)) rest c.loop-position.control
    c.check_mark.new.control c.in_ok-check_mark.field-0
    (mark_next c.args.scope.now (slice_get m.bodies c.args.func) c.body-operations.result.now position _
    c.labels.result.now c.loop-position.control c.check_mark.new.control c.in_ok-check_mark.field-0
    c.body-operations.ensures.value c.body-operations.ensures.proper c.loop-position-test.true
    c.labels.ensures
    c.in_ok-check_mark.ensures)
    c.if-not-branch.false
    ∙ c.loop-position.invariant

pub returns-clause-value : goal.returns-clause-value
returns-clause-value c =
    let m = c.args.code.now in
    ended_with_none_open c.loop-position.control c.is_open.result _
    (sym c.loop-position.invariant
    ∙ past_all c.args.scope.now (slice_get m.bodies c.args.func) c.body-operations.result.now
    c.loop-position.position c.loop-position.control
    c.body-operations.ensures.value c.body-operations.ensures.proper c.loop-position-test.false)
    c.is_open.ensures
