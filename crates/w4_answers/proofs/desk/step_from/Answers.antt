use Rattle.std.proofs.Common.{◌≡◌, ◌+◌, ◌∙◌, Some, ap, option_map, subst}
use Rattle.w4_defs.specs.Run.{run}
use Rattle.w4_defs.specs.State.{Moment}
use Rattle.w4_devices.specs.Records.{record_of}
use Rattle.w4_answers.proofs.DeskSessionLaws.{same_place, shows_at, shows_recording}
use Rattle.w4_answers.proofs.UnitsAnswerLaws.{before_end}
use Rattle.w4_editor.specs.Editor.{Editing, editing_setup}
use Rattle.w4_answers.proofs.desk.step_from.Goals as goal

pub returns-clause-shows : goal.returns-clause-shows
returns-clause-shows g c =
    let stepped = c.in-Ok.ensures.ok in
    shows_at c.args.counted.now.editor c.step_units.new.self (Some (stepped.place + 1)) stepped.same

pub returns-clause-recording : goal.returns-clause-recording
returns-clause-recording g c =
    let stepped = c.in-Ok.ensures.ok in
    shows_recording c.args.counted.now.editor c.step_units.new.self
    (shows_at c.args.counted.now.editor c.step_units.new.self (Some (stepped.place + 1)) stepped.same)

pub returns-clause-frame_record : goal.returns-clause-frame_record
returns-clause-frame_record g c =
    let old = c.args.counted.now.editor in
    let stepped = c.in-Ok.ensures.ok in
    let here = same_place old.at stepped.place c.args.place stepped.at c.requires.at in
    subst (λ p. option_map (λ (moment : Moment). moment.frame_record)
    (run (editing_setup old) old.disk old.session.current.inputs (p + 1))
    ≡ Some (record_of c.step_units.new.frame_record)) here stepped.record_is

pub returns-clause-taken : goal.returns-clause-taken
returns-clause-taken g c = c.in-Ok.ensures.taken c.args.place c.requires.at

pub unreachable-requires : goal.unreachable-requires
unreachable-requires g c =
    before_end c.args.counted.now.editor c.args.place c.requires.place c.requires.at
    c.in-Err.ensures.refused.1

pub returns-clause-at : goal.returns-clause-at
returns-clause-at g c =
    let old = c.args.counted.now.editor in
    let stepped = c.in-Ok.ensures.ok in
    let here = same_place old.at stepped.place c.args.place stepped.at c.requires.at in
    ap (λ (e : Editing). e.at) stepped.same ∙ ap (λ n. Some (n + 1)) here

pub returns-clause-kept : goal.returns-clause-kept
returns-clause-kept g c = ap (λ (e : Editing). e.session) c.in-Ok.ensures.ok.same
