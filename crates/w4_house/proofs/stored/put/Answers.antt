use Rattle.w4_house.proofs.StoredLaws.{stored-insert}
use Rattle.w4_house.proofs.stored.put.Goals as goal

pub returns-clause-whole : goal.returns-clause-whole
returns-clause-whole c =
    rw (← c.in_ok-key.ensures.ok, ← c.in_ok-value.ensures.items)
    (stored-insert c.args.files.now c.insert.new.self c.in_ok-key.key c.in_ok-value.value
    c.in_ok-insert.ensures.updates)
