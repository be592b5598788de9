use Rattle.std.proofs.Common.{sym, ap, ◌∙◌, ltb, arith}
use Rattle.std.specs.List.{insert}
use Rattle.w4_defs.specs.KeptList.{Entry, first_above}
use Rattle.w4_defs.proofs.KeptListLaws.{kept_in_order}
use Rattle.w4_editor.proofs.KeptListLaws.{position_or_len_le}
use Rattle.w4_editor.proofs.kept_list.insert_entry.Goals as goal

pub insert-requires : goal.insert-requires
insert-requires c =
    let le = position_or_len_le (λ (x : Entry). ltb c.place.result x.place) c.as_slice.result.now in
    omega (arith, le, c.first_above-at.ensures, c.as_slice.ensures.len)

pub returns-clause-ok : goal.returns-clause-ok
returns-clause-ok c = c.in_ok-insert.ensures.items
    ∙ ap (λ n. insert c.args.kept.now.items n c.args.entry)
    (c.first_above-at.ensures ∙ ap (λ p. first_above p c.as_slice.result.now) c.place.ensures
    ∙ ap (first_above c.args.entry.place) c.as_slice.ensures.value)
    ∙ sym (kept_in_order c.args.entry c.args.kept.now.items)
