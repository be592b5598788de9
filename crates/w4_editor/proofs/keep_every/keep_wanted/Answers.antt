use Rattle.std.proofs.Common.{[], Bool, cond, refl, sym, ap, ◌∙◌}
use Rattle.w4_defs.specs.KeptList.{kept_entries}
use Rattle.w4_defs.specs.Session.{keep_refusal, places_alone, with_kept, with_list}
use Rattle.w4_editor.specs.Editor.{place_session}
use Rattle.w4_editor.proofs.KeepEveryLaws.{may_keep_multiple, memory_alone}
use Rattle.w4_editor.proofs.EditorPlaceLaws.{accepted_is, kept_made, kept_rest, one_kept, same_recording}
use Rattle.w4_editor.proofs.keep_every.keep_wanted.Goals as goal

pub returns-then-not-is_wanted-clause-kept : goal.returns-then-not-is_wanted-clause-kept
returns-then-not-is_wanted-clause-kept g c =
    let s = place_session c.args.editor.now in
    ap (λ (b : Bool). with_list s (cond b (with_kept places_alone c.args.place s.current.kept)
    s.current.kept))
    (sym c.if-not-is_wanted.true ∙ c.is_wanted.ensures)

pub returns-in-Ok-clause-kept : goal.returns-in-Ok-clause-kept
returns-in-Ok-clause-kept g c =
    let s = place_session c.args.editor.now in
    let p = c.args.place in
    accepted_is (keep_refusal places_alone p s.current)
    (with_list s (with_kept places_alone p s.current.kept)) (place_session c.keep.new.self)
    (kept_made c.places_decide.ensures p c.args.steps.now c.keep.new.steps c.in-Ok.copied c.args.editor.now
    c.keep.new.self c.in-Ok.ensures.ok)
    ∙ ap (λ (b : Bool). with_list s (cond b (with_kept places_alone p s.current.kept) s.current.kept))
    (sym c.if-not-is_wanted.false ∙ c.is_wanted.ensures)

pub returns-in-Ok-clause-rest : goal.returns-in-Ok-clause-rest
returns-in-Ok-clause-rest g c =
    kept_rest c.args.place c.args.steps.now c.keep.new.steps c.in-Ok.copied c.args.editor.now c.keep.new.self
    c.in-Ok.ensures.ok

pub returns-then-not-is_wanted-clause-copied : goal.returns-then-not-is_wanted-clause-copied
returns-then-not-is_wanted-clause-copied g c = ([], (refl, refl, refl))

pub returns-in-Ok-clause-copied : goal.returns-in-Ok-clause-copied
returns-in-Ok-clause-copied g c =
    one_kept c.args.place c.args.steps.now c.keep.new.steps c.in-Ok.copied c.args.editor.now c.keep.new.self
    c.in-Ok.ensures.ok

pub returns-in-Err-clause-recording : goal.returns-in-Err-clause-recording
returns-in-Err-clause-recording g c =
    same_recording c.args.editor.now c.keep.new.self c.in-Err.ensures.err

pub only_memory-requires : goal.only_memory-requires
only_memory-requires g c =
    let draft = c.args.editor.now.session.current in
    let fresh = sym (sym c.if-not-is_wanted.false ∙ c.is_wanted.ensures) in
    let none = may_keep_multiple c.args.every c.args.place draft c.requires.place fresh c.requires.room in
    memory_alone (keep_refusal kept_entries c.args.place draft) c.in-Err.refusal none c.in-Err.ensures.refused
