use Rattle.std.proofs.Common.{List, ap, ◌∙◌}
use Rattle.w4_defs.specs.World.{written_by}
use Rattle.w4_house.specs.EventLog.{logged}
use Rattle.w4_house.specs.declared.log_entry.LogEntry.{LogEntry}
use Rattle.w4_house.proofs.EventLogLaws.{written_silently}
use Rattle.w4_house.proofs.event_log.EventLog.add.Goals as goal

pub invariant_of-self : goal.invariant_of-self
invariant_of-self c =
    let old = c.args.self.now in record {
      in_one_piece = ap (λ (entries : List LogEntry). written_by (logged entries))
          c.push_reserved.ensures.items
          ∙ written_silently old.entries.items c.args.entry old.out.items old.in_one_piece c.requires.silent;
    }
