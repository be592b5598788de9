use Rattle.w4_segments.proofs.RoundLaws.{busy_first}
use Rattle.w4_segments.proofs.rounds.is_idle.Goals as goal

pub returns-clause-busy : goal.returns-clause-busy
returns-clause-busy c off =
    busy_first c.args.worker_list.now c.index-worker_list-0.result c.is_none.result c.requires
    c.is_none.ensures
    off
