use Rattle.std.proofs.Common.{◌+◌, Bool, cond, length, sym, ap, subst, ◌∙◌, arith}
use Rattle.std.specs.Prelude.{nat_le}
use Rattle.std.proofs.lemmas.Bool.{lt-leb}
use Rattle.std.proofs.lemmas.List.{length-map}
use Rattle.w4_defs.specs.KeptList.{kept_entries}
use Rattle.w4_editor.specs.KeepEvery.{all_to_keep}
use Rattle.w4_editor.specs.Editor.{place_session}
use Rattle.w4_editor.proofs.KeepEveryLaws.{Counted, counted_none, counted_more, counted_most, counted_all}
use Rattle.w4_editor.proofs.BitLaws.{bit_of}
use Rattle.w4_editor.proofs.keep_every.has_room.Goals as goal

pub loop-place-init : goal.loop-place-init
loop-place-init c =
    let s = place_session c.args.editor.now in
    let end = length s.current.inputs + 1 in
    subst (λ n. Counted c.args.every 0 end n s.current.kept (all_to_keep c.args.every s))
    (length-map c.args.editor.now.session.current.kept kept_entries.place ∙ sym c.kept_count-count.ensures)
    (counted_none c.args.every end s.current.kept)

pub loop-place-preserved : goal.loop-place-preserved
loop-place-preserved c =
    let s = place_session c.args.editor.now in
    counted_more c.args.every c.loop-place.place (length s.current.inputs + 1) c.loop-place.count
    c.from-count.result s.current.kept (all_to_keep c.args.every s)
    (omega (arith, c.loop-place-test.true, c.last_place-last.ensures.last))
    (bit_of _ c.from-count.result c.from-count.ensures ∙ ap (λ (b : Bool). cond b 1 0) c.is_wanted.ensures)
    c.loop-place.invariant

pub returns-then-count-gt-MOST_KEPT : goal.returns-then-count-gt-MOST_KEPT
returns-then-count-gt-MOST_KEPT c =
    let s = place_session c.args.editor.now in
    let most = counted_most c.args.every c.loop-place.place (length s.current.inputs + 1) c.loop-place.count
    s.current.kept (all_to_keep c.args.every s) c.loop-place.invariant in
    sym (lt-leb (length (all_to_keep c.args.every s)) 1024
    (omega (arith, most, c.if-count-gt-MOST_KEPT.true)))

pub returns : goal.returns
returns c =
    let s = place_session c.args.editor.now in
    let all = counted_all c.args.every c.loop-place.place (length s.current.inputs + 1) c.loop-place.count
    s.current.kept (all_to_keep c.args.every s)
    (omega (arith, c.loop-place-test.false, c.last_place-last.ensures.last)) c.loop-place.invariant in
    ap (λ n. nat_le n 1024) (sym all)
