use Rattle.std.proofs.Common.{ℕ, Bool, cond, Some, None, Ok, length, refl, sym, ap, ◌∙◌}
use Rattle.std.proofs.lemmas.Bool.{leb-true}
use Rattle.w4_defs.specs.declared.editing.EditRefusal.TheVariants.{FullSnapshots}
use Rattle.w4_defs.specs.Session.{Session, unless, with_list}
use Rattle.w4_editor.specs.KeepEvery.{all_to_keep}
use Rattle.w4_editor.specs.Editor.{place_session}
use Rattle.w4_editor.proofs.keep_every.keep_every.Goals as goal

pub returns-then-not-has_room-clause-changed : goal.returns-then-not-has_room-clause-changed
returns-then-not-has_room-clause-changed g c =
    let s = place_session c.args.editor.now in
    λ other. (
      ap (λ (b : Bool). unless (cond b None (Some FullSnapshots)) (with_list s (all_to_keep c.args.every s)))
          (sym c.has_room.ensures ∙ c.if-not-has_room.true),
      refl,
    )

pub keep_all-requires : goal.keep_all-requires
keep_all-requires g c =
    record {
      room =
          leb-true (length (all_to_keep c.args.every (place_session c.args.editor.now))) 1024
          (sym c.has_room.ensures ∙ c.if-not-has_room.false);
    }

pub returns-clause-changed : goal.returns-clause-changed
returns-clause-changed g c =
    let s = place_session c.args.editor.now in (
      ap (λ (b : Bool). unless (cond b None (Some FullSnapshots)) (with_list s (all_to_keep c.args.every s)))
          (sym c.has_room.ensures ∙ c.if-not-has_room.false)
          ∙ ap (λ (x : Session ℕ). Ok x) (sym c.in_ok-keep_all.ensures.kept),
      c.in_ok-keep_all.ensures.rest,
    )
