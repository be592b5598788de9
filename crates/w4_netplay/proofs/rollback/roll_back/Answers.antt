use Rattle.std.proofs.Common.{◌≡◌, ◌++◌, [], ◌∷◌, List, Some, refl, sym, ap, ◌∙◌, subst, arith}
use Rattle.std.specs.List.{slice_get}
use Rattle.std.proofs.lemmas.Result.{on_ok_weaker}
use Rattle.w4_defs.specs.declared.console.Input.{Input}
use Rattle.w4_defs.specs.Recording.{Recording}
use Rattle.w4_defs.specs.Rollback.{net_input}
use Rattle.w4_editor.specs.Editor.{Editing}
use Rattle.w4_netplay.specs.Pads.{known_in}
use Rattle.w4_netplay.proofs.PadLaws.{net_input_of, pads_after}
use Rattle.w4_netplay.proofs.RollbackLaws.{IsRolling, rolling_none, rolling_right, rolling_wrong, run_within}
use Rattle.w4_netplay.proofs.RollbackLaws.{run_written}
use Rattle.w4_netplay.proofs.rollback.roll_back.Goals.{then-has_input+in_ok-write_run}
use Rattle.w4_netplay.proofs.rollback.roll_back.Goals.{else-has_input+in_ok-push}
use Rattle.w4_netplay.proofs.rollback.roll_back.Goals as goal

pub loop-frame-init : goal.loop-frame-init
loop-frame-init c =
    let known = known_in c.args.pads.now in
    let editor = c.args.editor.now in
    (refl, subst (IsRolling known 0 editor editor) (sym c.new-run.ensures.items) (rolling_none known editor))

pub write_run-requires-clause-there : goal.write_run-requires-clause-there
write_run-requires-clause-there c =
    (run_within (known_in c.args.pads.now) c.loop-frame.frame c.args.editor.now c.loop-frame.editor
    c.loop-frame.run.items c.loop-frame.invariant.1).1

pub loop-frame-preserved : goal.loop-frame-preserved
loop-frame-preserved c =
    let known = known_in c.args.pads.now in
    let frame = c.loop-frame.frame in
    let now : Editing = c.loop-frame.editor in
    let run : List Input = c.loop-frame.run.items in
    let rolling = c.loop-frame.invariant.1 in
    let input : c.input_of-input.result ≡ net_input known frame =
    c.input_of-input.ensures
    ∙ net_input_of known frame c.predict-predicted.result c.predict-predicted.ensures in
    let there = ap (λ (r : Recording). slice_get r.frames frame) c.recording.ensures in (
      c.predict-predicted.ensures ∙ sym (pads_after known frame),
      elim c.if-has_input.branch [
        | then-has_input+in_ok-write_run w ↦ rw (w.editor-is, w.run-is)
            (rolling_right known frame c.args.editor.now now w.write_run.new.editor run
            w.write_run.new.run.items rolling
            (sym there ∙ c.has_input.ensures.0 w.if-has_input.true ∙ ap Some input)
            w.in_ok-write_run.ensures.ok w.in_ok-write_run.ensures.empty)
        | else-has_input+in_ok-push w ↦ rw (w.editor-is, w.run-is)
            (rolling_wrong known frame c.args.editor.now now run rolling w.push.new.self.items
            (w.in_ok-push.ensures.items ∙ ap (λ (i : Input). run ++ i ∷ []) input)
            (λ right. absurd (
            let yes = c.has_input.ensures.1 (there ∙ right ∙ ap Some (sym input)) in
            let no = w.if-has_input.false in
            cc
            )))
      ],
    )

pub write_run-requires-2-clause-there : goal.write_run-requires-2-clause-there
write_run-requires-2-clause-there c =
    let within = run_within (known_in c.args.pads.now) c.loop-frame.frame c.args.editor.now
    c.loop-frame.editor c.loop-frame.run.items c.loop-frame.invariant.1 in
    omega (arith, within.1, c.loop-frame-test.false)

pub returns-clause-ok : goal.returns-clause-ok
returns-clause-ok c =
    let known = known_in c.args.pads.now in
    let editor = c.args.editor.now in
    let last : c.loop-frame.frame ≡ c.args.frames = omega (arith, c.loop-frame-test.false) in
    on_ok_weaker c.write_run-2.result
    (run_written known c.args.frames editor c.loop-frame.editor c.write_run-2.new.editor
    c.loop-frame.run.items
    (subst (λ n. IsRolling known n editor c.loop-frame.editor c.loop-frame.run.items) last
    c.loop-frame.invariant.1))
    c.write_run-2.ensures.ok
