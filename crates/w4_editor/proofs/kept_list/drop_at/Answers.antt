use Rattle.std.proofs.Common.{List, sym, ap, ◌∙◌, eqb, set, get_or, length, arith}
use Rattle.std.specs.List.{position}
use Rattle.w4_defs.specs.KeptList.{Entry, kept_entries}
use Rattle.w4_editor.proofs.KeptListLaws.{position_none, without_none, without_linked, without_last_one}
use Rattle.w4_editor.proofs.kept_list.drop_at.Goals as goal

pub returns-then-at-len : goal.returns-then-at-len
returns-then-at-len c =
    let items = c.args.kept.now.items in
    let at = c.in-Some.at in
    let dropped = c.remove-dropped.result in
    let next = c.index_mut.result.now in
    ap (λ (x : Entry). set c.remove-dropped.new.self.items at x) c.link_after.ensures
    ∙ ap (λ (xs : List Entry). set xs at
    (kept_entries.after_drop dropped next)) c.remove-dropped.ensures.items
    ∙ without_linked kept_entries c.args.p items at dropped next
    (ap (position (λ (x : Entry). eqb x.place c.args.p)) (sym c.as_slice.ensures.value) ∙ sym c.find.ensures
    ∙ c.in-Some.is)
    (omega (arith, ap (length {A = Entry}) c.remove-dropped.ensures.items, c.if-at-len.true, c.len.ensures))
    c.remove-dropped.ensures.value
    (c.index_mut.ensures.value ∙ ap (λ (xs : List Entry). get_or xs at next) c.remove-dropped.ensures.items)

pub returns-in-Some : goal.returns-in-Some
returns-in-Some c = c.remove-dropped.ensures.items
    ∙ without_last_one kept_entries c.args.p c.args.kept.now.items c.in-Some.at c.remove-dropped.result
    (ap (position (λ (x : Entry). eqb x.place c.args.p)) (sym c.as_slice.ensures.value) ∙ sym c.find.ensures
    ∙ c.in-Some.is)
    (omega (arith, ap (length {A = Entry}) c.remove-dropped.ensures.items, c.if-at-len.false, c.len.ensures))
    c.remove-dropped.ensures.value

pub returns : goal.returns
returns c = sym (without_none kept_entries c.args.p c.args.kept.now.items
    (position_none (λ (x : Entry). eqb x.place c.args.p) c.args.kept.now.items
    (ap (position (λ (x : Entry). eqb x.place c.args.p)) (sym c.as_slice.ensures.value) ∙ sym c.find.ensures
    ∙ c.in_default.is)))
