use Rattle.std.proofs.Common.{List, [], ◌∷◌, ◌++◌, Some, sym, ap, ◌∙◌, subst}
use Rattle.w4_defs.specs.KeptList.{Entry}
use Rattle.w4_defs.specs.Recording.{Recording}
use Rattle.w4_defs.specs.Reset.{reset}
use Rattle.w4_editor.specs.Player.{Player, player_setup}
use Rattle.w4_editor.specs.Editor.{IsEditor}
use Rattle.w4_editor.proofs.HistoryLaws.{first_entry, opens}
use Rattle.w4_editor.proofs.editor.Editor.new.Goals as goal

pub invariant_of-result-3 : goal.invariant_of-result-3
invariant_of-result-3 c =
    let player = c.reset.new.self in
    let r : Recording = record {
      digest = c.recording.inside.digest;
      budget = c.recording.inside.budget;
      disk = c.recording.inside.disk.items;
      frames = c.recording.inside.frames.items;
    } in
    let entry = c.new-2.result in
    subst (λ (p : Player). IsEditor p r c.push.new.self.items c.in_ok-with_capacity.field-0
    c.in_ok-with_capacity-2.field-0 (Some 0) c.reset.new.frame_record) (sym c.player.view_is)
    (opens player r c.push.new.self.items c.in_ok-with_capacity.field-0 c.in_ok-with_capacity-2.field-0
    c.reset.new.frame_record
    (sym c.in_ok-player.ensures.budget ∙ sym (ap (λ (p : Player). p.budget) c.reset.ensures.same))
    c.recording.invariant.few_frames
    c.reset.ensures.globals
    (ap (λ (p : Player). reset (player_setup p) r.disk) c.reset.ensures.same
    ∙ ap (reset (player_setup c.in_ok-player.player)) (sym c.as_slice.ensures.value) ∙ c.reset.ensures.reset)
    (c.in_ok-push.ensures.items ∙ ap (λ (kept : List Entry). kept ++ entry ∷ []) c.in_ok-kept.ensures.items
    ∙ ap (λ (x : Entry). x ∷ []) (c.new-2.ensures ∙ ap first_entry c.in_ok-snap.ensures.state))
    c.in_ok-with_capacity.ensures c.in_ok-with_capacity-2.ensures)
