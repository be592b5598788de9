use Rattle.std.proofs.Common.{◌≡◌, ◌+◌, ℕ, ap, subst, sym, ◌∙◌, arith, refl, Some, option_map}
use Rattle.std.proofs.lemmas.Option.{same_Some}
use Rattle.w4_console.specs.Taken.{TellsUnits}
use Rattle.w4_defs.specs.State.{Moment}
use Rattle.w4_devices.specs.Records.{record_of}
use Rattle.w4_editor.specs.Player.{player_setup}
use Rattle.w4_editor.specs.Editor.{Editing, editing_setup}
use Rattle.w4_editor.specs.Playing.{IsAtEnd, IsStepped}
use Rattle.w4_editor.proofs.EditorLaws.{stays, place_shown, nowhere_or_at_end, run_here, within_here, view}
use Rattle.w4_editor.proofs.EditorLaws.{is_stepped}
use Rattle.w4_editor.proofs.editor.Editor.step_units.Goals as goal

pub returns-in_default-clause-refused : goal.returns-in_default-clause-refused
returns-in_default-clause-refused g c = (
  refl,
  subst IsAtEnd c.self.view_is (nowhere_or_at_end c.self.inside.at _
      (within_here _ _ _ _ _ _ _ c.self.invariant) c.in_default.ensures.none),
)

pub invariant_of-self : goal.invariant_of-self
invariant_of-self g c =
    let inside = c.self.inside in
    let p = c.in-Some.p in
    let here = c.in-Some.ensures.some in
    let below = here.1 in
    let consistent = c.self.invariant.session.current.kept in
    let next =
    c.move_on-taken.ensures.moment inside.recording.disk (run_here _ _ _ _ _ _ _ c.self.invariant p here.0) in
    stays _ _ _ _ _ _ _ c.self.invariant c.move_on-taken.new.player inside.kept.items
    (Some (p + 1)) c.move_on-taken.ensures.same
    consistent
    (place_shown (player_setup inside.player) inside.recording.disk inside.recording inside.kept.items
    inside.older.items inside.newer.items c.move_on-taken.new.player.state (p + 1) (omega (arith, below))
    (ap (option_map (λ (m : Moment). m.state)) next))

pub returns-clause-ok : goal.returns-clause-ok
returns-clause-ok g c =
    let inside = c.self.inside in
    let p = c.in-Some.p in
    let here = c.in-Some.ensures.some in
    let next =
    c.move_on-taken.ensures.moment inside.recording.disk (run_here _ _ _ _ _ _ _ c.self.invariant p here.0) in
    subst (λ (old : Editing). IsStepped (record_of c.move_on-taken.new.frame_record) old
    (view c.move_on-taken.new.player inside.recording inside.kept.items inside.older inside.newer
    (Some (p + 1)))) c.self.view_is
    (is_stepped inside.player inside.recording inside.kept.items inside.older inside.newer inside.at
    inside.reset_frame c.self.invariant c.move_on-taken.new.player c.move_on-taken.ensures.same p here.0
    here.1
    (record_of c.move_on-taken.new.frame_record)
    (ap (option_map (λ (m : Moment). m.frame_record)) next))

pub returns-clause-taken : goal.returns-clause-taken
returns-clause-taken g c =
    let inside = c.self.inside in
    let p = c.in-Some.p in
    let here = c.in-Some.ensures.some in
    let told =
    c.move_on-taken.ensures.taken inside.recording.disk (run_here _ _ _ _ _ _ _ c.self.invariant p here.0) in
    subst (λ (old : Editing). (k : ℕ) → old.at ≡ Some k
    → TellsUnits (editing_setup old) old.disk old.session.current.inputs k c.move_on-taken.result)
    c.self.view_is
    (λ k at. subst
    (λ n. TellsUnits (player_setup inside.player) inside.recording.disk inside.recording.frames n
    c.move_on-taken.result)
    (same_Some p k (sym here.0 ∙ at)) told)
