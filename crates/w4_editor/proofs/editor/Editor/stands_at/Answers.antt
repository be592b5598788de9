use Rattle.std.proofs.Common.{◌∙◌, List, ap, Some, sym, subst}
use Rattle.w4_defs.specs.KeptList.{Entry, last_up_to}
use Rattle.w4_editor.specs.Editor.{Editing}
use Rattle.w4_editor.specs.Settling.{AreLinked}
use Rattle.w4_editor.proofs.editor.Editor.stands_at.Goals as goal

pub returns-in-Some : goal.returns-in-Some
returns-in-Some c =
    let kept_is = c.as_slice.ensures.value ∙ ap (λ (e : Editing). e.session.current.kept) c.self.view_is in (
      λ linked. (
        sym (ap (λ (e : Editing). e.at) c.self.view_is) ∙ c.in-Some.is
            ∙ ap (λ place. Some place) c.if-at-p.true,
        subst (λ (kept : List Entry). AreLinked (last_up_to c.args.p kept) kept) kept_is
            (c.are_linked_up_to.ensures.0 linked),
      ),
      λ shown. c.are_linked_up_to.ensures.1
          (subst (λ (kept : List Entry). AreLinked (last_up_to c.args.p kept) kept) (sym kept_is) shown.1),
    )
