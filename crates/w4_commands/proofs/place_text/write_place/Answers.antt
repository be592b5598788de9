use Rattle.w4_commands.proofs.place_text.write_place.Goals as goal

pub returns-in-Image-clause-out : goal.returns-in-Image-clause-out
returns-in-Image-clause-out g c =
    rw (c.in-Image.is, ← c.paint.ensures.image, ← c.painted.ensures) c.write_bytes.ensures.out

pub returns-in-Schedule-clause-out : goal.returns-in-Schedule-clause-out
returns-in-Schedule-clause-out g c = rw c.in-Schedule.is c.write_record.ensures.out

pub returns-in-Traces-clause-out : goal.returns-in-Traces-clause-out
returns-in-Traces-clause-out g c = rw c.in-Traces.is c.write_record-in-Traces.ensures.out

pub returns-in-DiskBytes-clause-out : goal.returns-in-DiskBytes-clause-out
returns-in-DiskBytes-clause-out g c =
    rw (c.in-DiskBytes.is, ← c.disk.ensures) c.write_bytes-in-DiskBytes.ensures.out
