use Rattle.w4_answers.proofs.net_answers.refuse.Goals as goal

pub returns-in-NoPlayer-clause-out : goal.returns-in-NoPlayer-clause-out
returns-in-NoPlayer-clause-out g c = rw c.in-NoPlayer.is c.write_bytes.ensures.out

pub returns-in-FrameRange-clause-out : goal.returns-in-FrameRange-clause-out
returns-in-FrameRange-clause-out g c = rw c.in-FrameRange.is c.write_bytes-in-FrameRange.ensures.out

pub returns-in-FullRecording-clause-out : goal.returns-in-FullRecording-clause-out
returns-in-FullRecording-clause-out g c = rw c.in-FullRecording.is c.write_bytes-in-FullRecording.ensures.out

pub returns-in-NoFrame-clause-out : goal.returns-in-NoFrame-clause-out
returns-in-NoFrame-clause-out g c = rw c.in-NoFrame.is c.write_bytes-in-NoFrame.ensures.out

pub returns-in-Kept-clause-out : goal.returns-in-Kept-clause-out
returns-in-Kept-clause-out g c = rw c.in-Kept.is c.write_bytes-in-Kept.ensures.out

pub returns-in-FullSnapshots-clause-out : goal.returns-in-FullSnapshots-clause-out
returns-in-FullSnapshots-clause-out g c = rw c.in-FullSnapshots.is c.write_bytes-in-FullSnapshots.ensures.out
