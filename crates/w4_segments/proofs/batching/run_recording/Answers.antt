use Rattle.std.proofs.Common.{length, ap, ◌∙◌, sym, Some}
use Rattle.sha2.specs.Sha256.{sha256}
use Rattle.w4_console.specs.Calls.{moment}
use Rattle.w4_defs.specs.declared.console.Input.{Input}
use Rattle.w4_defs.specs.Batch.{ran_row}
use Rattle.w4_defs.specs.Board.{console_setup}
use Rattle.w4_defs.specs.Recording.{Recording}
use Rattle.w4_defs.specs.Reset.{reset}
use Rattle.w4_defs.specs.Run.{fold}
use Rattle.w4_segments.proofs.BatchingLaws.{run_is}
use Rattle.w4_segments.proofs.batching.run_recording.Goals as goal

pub returns-clause-row : goal.returns-clause-row
returns-clause-row c =
    let r = c.args.recording.now in
    let cart = c.args.cart.now in
    let font = c.args.font.now in
    let view = c.recording.view_is in
    let first = moment c.reset.new.self c.reset.new.frame_record in
    let last = c.play.new.self in
    let frames = c.as_slice-inputs.ensures.value ∙ ap (λ (x : Recording). x.frames) view in
    let long = ap (length {A = Input}) frames in
    let disk = c.as_slice.ensures.value ∙ ap (λ (x : Recording). x.disk) view in
    run_is sha256 cart font r first last
    (sym (λ k. reset (console_setup cart font (view k).budget) (disk k)) ∙ c.reset.ensures.reset)
    (sym (λ k. fold (console_setup cart font (view k).budget) first.state (frames k)) ∙ c.play.ensures.fold)
    ∙ ap Some (sym (c.ran.ensures ∙ (λ k. ran_row sha256 (long k) (c.state.ensures k))))
