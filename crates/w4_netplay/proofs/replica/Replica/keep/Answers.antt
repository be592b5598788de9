use Rattle.std.proofs.Common.{◌≡◌, None, refl, sym, ◌∙◌, subst}
use Rattle.std.proofs.lemmas.Result.{err_from_is_err_and}
use Rattle.w4_defs.specs.Session.{keep_refusal, places_alone}
use Rattle.w4_netplay.specs.Replica.{Netplay, predicted_draft, IsRolled}
use Rattle.w4_netplay.proofs.ReplicaLaws.{netplay_view, still_keeps, keeps_place, same_keep_refusal}
use Rattle.w4_netplay.proofs.ReplicaLaws.{memory_alone, memory_refused}
use Rattle.w4_netplay.proofs.replica.Replica.keep.Goals.{in-Ok, in-Err}
use Rattle.w4_netplay.proofs.replica.Replica.keep.Goals as goal

pub returns-in_err-roll_back-clause-refused : goal.returns-in_err-roll_back-clause-refused
returns-in_err-roll_back-clause-refused g c =
    let free : keep_refusal places_alone c.args.p (predicted_draft c.args.self.now) ≡ None =
    c.in_default.ensures.none refl in
    let error = err_from_is_err_and c.from_residual.result c.from_residual.ensures.1 in
    rw (error.1, error.2) (memory_refused _ free)

pub only_memory-requires : goal.only_memory-requires
only_memory-requires g c =
    let p = c.args.p in
    let mid = netplay_view c.self.inside.pads c.self.inside.frames c.self.inside.editor in
    let free : keep_refusal places_alone p (predicted_draft c.args.self.now) ≡ None =
    c.in_default.ensures.none refl in
    let rolled = subst (λ (r : Netplay). IsRolled c.args.self.now r) (sym c.self.view_is)
    c.in_ok-roll_back.ensures.ok in
    memory_alone _ c.in-Err.refusal c.in-Err.ensures.refused
    (same_keep_refusal c.args.self.now mid p rolled ∙ free)

pub returns-clause-ok : goal.returns-clause-ok
returns-clause-ok g c =
    let mid = netplay_view c.self.inside.pads c.self.inside.frames c.self.inside.editor in
    let rolled = subst (λ (r : Netplay). IsRolled c.args.self.now r) (sym c.self.view_is)
    c.in_ok-roll_back.ensures.ok in
    elim c.match-keep.branch [
      | in-Ok w ↦ rw w.result-is (keeps_place c.args.self.now mid c.args.p c.args.steps.now c.keep.new.steps
          w.in-Ok._copied c.keep.new.self rolled w.in-Ok.ensures.ok)
      | in-Err w ↦ rw w.result-is tt
    ]

pub returns-clause-err : goal.returns-clause-err
returns-clause-err g c =
    let mid = netplay_view c.self.inside.pads c.self.inside.frames c.self.inside.editor in
    let rolled = subst (λ (r : Netplay). IsRolled c.args.self.now r) (sym c.self.view_is)
    c.in_ok-roll_back.ensures.ok in
    elim c.match-keep.branch [
      | in-Ok w ↦ rw w.result-is tt
      | in-Err w ↦ rw w.result-is
          (still_keeps c.args.self.now mid rolled c.keep.new.self w.in-Err.ensures.err)
    ]

pub returns-clause-refused : goal.returns-clause-refused
returns-clause-refused g c =
    let free : keep_refusal places_alone c.args.p (predicted_draft c.args.self.now) ≡ None =
    c.in_default.ensures.none refl in
    elim c.match-keep.branch [
      | in-Ok w ↦ rw w.result-is tt
      | in-Err w ↦ rw (w.result-is, w.from.ensures) (memory_refused _ free)
    ]
