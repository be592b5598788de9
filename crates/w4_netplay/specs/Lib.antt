-- The words of the clauses: what is known, why a call is refused, and what a call leaves.
pub mod Pads
pub mod Replica
pub mod Rollback
pub mod ReplicaLending
