use Rattle.std.proofs.Common.{◌<◌, ◌∙◌, ap, length, subst, sym, List}
use Rattle.w4_defs.specs.State.{State}
use Rattle.w4_defs.specs.KeptList.{Entry, kept_entry_at, state_at}
use Rattle.w4_editor.specs.Editor.{Editing}
use Rattle.w4_editor.proofs.EditorLaws.{globals_as_many}
use Rattle.w4_editor.proofs.editor.Editor.kept_restore.Goals as goal

pub restore-requires : goal.restore-requires
restore-requires c =
    let items = c.self.inside.kept.items in
    let there = subst (λ (e : Editing). c.args.i < length e.session.current.kept)
    (sym c.self.view_is) c.requires.there in
    let entry = c.entry_at.ensures
    ∙ ap (λ (kept : List Entry). kept_entry_at kept c.args.i) c.as_slice.ensures.value in
    ap (λ (s : State). length s.globals) (c.snap.ensures ∙ ap (λ (x : Entry). x.state) entry)
    ∙ globals_as_many c.self.inside.player.cart (state_at items c.args.i)
    (c.self.invariant.session.current.kept.true_links.globals c.args.i there)
    ∙ ap (λ (e : Editing). length e.cart.globals) c.self.view_is
    ∙ sym c.requires.globals
