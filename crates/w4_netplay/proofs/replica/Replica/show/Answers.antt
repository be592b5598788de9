use Rattle.std.proofs.Common.{◌≡◌, None, refl, sym, ◌∙◌, subst}
use Rattle.std.proofs.lemmas.Result.{IfErr-at_err, IfOk-at_ok, err_from_is_err_and}
use Rattle.w4_defs.specs.declared.editing.EditRefusal.TheVariants as edit
use Rattle.w4_defs.specs.Session.{place_refusal}
use Rattle.w4_editor.specs.Playing.{IsShown, KeepsRecording}
use Rattle.w4_defs.specs.declared.net_refusal.NetRefusal.TheVariants.{NoFrame}
use Rattle.w4_netplay.specs.Replica.{Netplay, IsNetRefusal, predicted_draft, IsRolled}
use Rattle.w4_netplay.proofs.ReplicaLaws.{netplay_view, keeps_same, still_keeps, shows_place}
use Rattle.w4_netplay.proofs.ReplicaLaws.{predicted_run_state, same_place_refusal, no_place, some_place}
use Rattle.w4_netplay.proofs.ReplicaLaws.{refused_for, memory_alone, memory_refused}
use Rattle.w4_netplay.proofs.replica.Replica.show.Goals.{in-Ok, in-Err}
use Rattle.w4_netplay.proofs.replica.Replica.show.Goals as goal

pub returns-then-p-self : goal.returns-then-p-self
returns-then-p-self g c =
    let p = c.args.p in
    let r = netplay_view c.self.inside.pads c.self.inside.frames c.self.inside.editor in (
      (refl, λ _. tt, (tt, keeps_same c.args.self.now, λ _. refl)),
      record {
        frames_run = tt;
        state = tt;
        refused = subst (λ (r : Netplay). IsNetRefusal (place_refusal p (predicted_draft r)) NoFrame)
            c.self.view_is
            (refused_for _ NoFrame edit.NoFrame refl (no_place r p c.if-p-self.true));
        accepted = tt;
      },
    )

pub returns-in_err-roll_back : goal.returns-in_err-roll_back
returns-in_err-roll_back g c =
    let first = netplay_view c.self.inside.pads c.self.inside.frames c.self.inside.editor in
    let free : place_refusal c.args.p (predicted_draft c.args.self.now) ≡ None =
    subst (λ (r : Netplay). place_refusal c.args.p (predicted_draft r) ≡ None) c.self.view_is
    (some_place first c.args.p c.if-p-self.false) in
    let error = err_from_is_err_and c.from_residual.result c.from_residual.ensures.1 in
    rw (error.1, error.2) (
      (refl, λ _. tt, (tt, c.in_err-roll_back.ensures.err, λ other. absurd (other refl))),
      record { frames_run = tt; state = tt; refused = memory_refused _ free; accepted = tt },
    )

pub only_memory-requires : goal.only_memory-requires
only_memory-requires g c =
    let p = c.args.p in
    let first = netplay_view c.self.inside.pads c.self.inside.frames c.self.inside.editor in
    let mid = netplay_view c.self-2.inside.pads c.self-2.inside.frames c.self-2.inside.editor in
    let free : place_refusal p (predicted_draft c.args.self.now) ≡ None =
    subst (λ (r : Netplay). place_refusal p (predicted_draft r) ≡ None) c.self.view_is
    (some_place first p c.if-p-self.false) in
    let rolled = subst (λ (r : Netplay). IsRolled c.args.self.now r) (sym c.self-2.view_is)
    c.in_ok-roll_back.ensures.ok in
    memory_alone _ c.in-Err.refusal c.in-Err.ensures.refused
    (same_place_refusal c.args.self.now mid p rolled ∙ free)

pub returns : goal.returns
returns g c =
    let p = c.args.p in
    let first = netplay_view c.self.inside.pads c.self.inside.frames c.self.inside.editor in
    let mid = netplay_view c.self-2.inside.pads c.self-2.inside.frames c.self-2.inside.editor in
    let free : place_refusal p (predicted_draft c.args.self.now) ≡ None =
    subst (λ (r : Netplay). place_refusal p (predicted_draft r) ≡ None) c.self.view_is
    (some_place first p c.if-p-self.false) in
    let rolled = subst (λ (r : Netplay). IsRolled c.args.self.now r) (sym c.self-2.view_is)
    c.in_ok-roll_back.ensures.ok in
    let after_it = c.show.follows.lender-at-none in
    let held = c.show.follows.holds-at-none in
    elim c.match-show.branch [
      | in-Ok w ↦
          let shown = IfOk-at_ok (λ _. IsShown p c.args.steps.now c.show.new.steps mid.editor after_it)
          w.in-Ok.is held.0 in
          rw w.result-is (
            (
              refl,
              λ _. tt,
              (
                shows_place c.args.self.now mid rolled after_it p c.args.steps.now c.show.new.steps shown,
                tt,
                tt,
              ),
            ),
            record {
              frames_run = tt;
              state = predicted_run_state c.args.self.now mid p w.in-Ok.state.now rolled
                  w.in-Ok.ensures.state;
              refused = tt;
              accepted = free;
            },
          )
      | in-Err w ↦
          let kept = IfErr-at_err (λ _. KeepsRecording mid.editor after_it) w.in-Err.is held.1 in
          rw (w.result-is, w.from.ensures) (
            (
              refl,
              λ _. tt,
              (
                tt,
                still_keeps c.args.self.now mid rolled after_it kept,
                λ other. absurd (other refl),
              ),
            ),
            record { frames_run = tt; state = tt; refused = memory_refused _ free; accepted = tt },
          )
    ]
