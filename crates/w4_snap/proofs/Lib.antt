-- Lemmas of the snapshots.
pub mod ChunkLaws
pub mod CountLaws
pub mod EqualityLaws
