use Rattle.std.proofs.Common.{List, [], ◌∷◌, ◌++◌, ap, sym, ◌∙◌}
use Rattle.w4_defs.specs.World.{wrote, written_by}
use Rattle.w4_house.specs.EventLog.{logged}
use Rattle.w4_house.specs.declared.log_entry.LogEntry.{LogEntry}
use Rattle.w4_house.specs.declared.log_entry.LogEntry.TheVariants.{Output}
use Rattle.w4_house.proofs.EventLogLaws.{written_more}
use Rattle.w4_house.proofs.event_log.EventLog.write.Goals as goal

pub invariant_of-self-2 : goal.invariant_of-self-2
invariant_of-self-2 c =
    let old = c.args.self.now in
    let entry : LogEntry = Output c.in_ok-piece.piece in record {
      in_one_piece = ap (λ (entries : List LogEntry). written_by (logged entries))
          (c.push_reserved.ensures.items
          ∙ ap (λ (entries : List LogEntry). entries ++ entry ∷ []) c.in_ok-reserve.ensures.items)
          ∙ written_more old.entries.items entry old.out.items c.args.bytes.now old.in_one_piece
          (ap wrote c.in_ok-piece.ensures.items)
          ∙ sym c.in_ok-extend_from_slice.ensures.items;
    }
