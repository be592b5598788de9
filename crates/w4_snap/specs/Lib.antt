-- The words of the clauses on snapshots.
pub mod Chunks
