use Rattle.std.proofs.Common.{◌≡◌, ◌+◌, true, false, cond, not, eqb, sym, ap, ◌∙◌}
use Rattle.std.specs.List.{filter}
use Rattle.w4_defs.specs.KeptList.{Entry, kept_entries}
use Rattle.w4_defs.specs.Session.{is_kept}
use Rattle.w4_defs.proofs.EditedPlaces.{stay_by_cases}
use Rattle.w4_editor.proofs.kept_list.drop_double.Goals as goal

pub returns-then-is_kept : goal.returns-then-is_kept
returns-then-is_kept c =
    let items = c.args.kept.now.items in
    let here : is_kept kept_entries c.args.k items ≡ true =
    ap (is_kept kept_entries c.args.k) (sym c.as_slice.ensures.value) ∙ sym c.is_kept.ensures
    ∙ c.if-is_kept.true in
    c.drop_all_at.ensures
    ∙ sym (stay_by_cases kept_entries c.args.k items
    ∙ ap (λ t. cond t (filter (λ (x : Entry). not (eqb x.place (c.args.k + 1))) items) items) here)

pub returns-else-is_kept : goal.returns-else-is_kept
returns-else-is_kept c =
    let items = c.args.kept.now.items in
    let none : is_kept kept_entries c.args.k items ≡ false =
    ap (is_kept kept_entries c.args.k) (sym c.as_slice.ensures.value) ∙ sym c.is_kept.ensures
    ∙ c.if-is_kept.false in
    sym (stay_by_cases kept_entries c.args.k items
    ∙ ap (λ t. cond t (filter (λ (x : Entry). not (eqb x.place (c.args.k + 1))) items) items) none)
