-- The words of the clauses, one file a subject.
pub mod Search
pub mod PlacePages
pub mod Refusal
pub mod Watching
pub mod Values
