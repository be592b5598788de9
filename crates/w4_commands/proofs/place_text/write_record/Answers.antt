use Rattle.w4_commands.proofs.place_text.write_record.Goals as goal

pub returns-clause-out : goal.returns-clause-out
returns-clause-out g c = rw (← c.in_ok-text.ensures, ← c.as_slice.ensures.value) c.write_bytes.ensures.out
