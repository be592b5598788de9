use Rattle.w4_answers.proofs.refusal.refuse.Goals as goal

pub returns-in-NoFrame-clause-out : goal.returns-in-NoFrame-clause-out
returns-in-NoFrame-clause-out g c = rw c.in-NoFrame.is c.write.ensures.out

pub returns-in-FullRecording-clause-out : goal.returns-in-FullRecording-clause-out
returns-in-FullRecording-clause-out g c = rw c.in-FullRecording.is c.write-in-FullRecording.ensures.out

pub returns-in-NothingToUndo-clause-out : goal.returns-in-NothingToUndo-clause-out
returns-in-NothingToUndo-clause-out g c = rw c.in-NothingToUndo.is c.write-in-NothingToUndo.ensures.out

pub returns-in-NothingToRedo-clause-out : goal.returns-in-NothingToRedo-clause-out
returns-in-NothingToRedo-clause-out g c = rw c.in-NothingToRedo.is c.write-in-NothingToRedo.ensures.out

pub returns-in-Kept-clause-out : goal.returns-in-Kept-clause-out
returns-in-Kept-clause-out g c = rw c.in-Kept.is c.write-in-Kept.ensures.out

pub returns-in-NotKept-clause-out : goal.returns-in-NotKept-clause-out
returns-in-NotKept-clause-out g c = rw c.in-NotKept.is c.write-in-NotKept.ensures.out

pub returns-in-FullSnapshots-clause-out : goal.returns-in-FullSnapshots-clause-out
returns-in-FullSnapshots-clause-out g c = rw c.in-FullSnapshots.is c.write-in-FullSnapshots.ensures.out
