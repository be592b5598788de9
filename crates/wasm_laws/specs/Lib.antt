-- The words of the machine's clauses, one file a subject.
pub mod ValueStack
pub mod Plain
pub mod Standing
pub mod Stack
pub mod OpenLabels
pub mod Tie
pub mod Transfers
pub mod HostCalls
pub mod Meeting
pub mod Entering
pub mod TypeNumbers
pub mod Moves
pub mod Bulk
pub mod Progress
pub mod Ends
