-- What is known and predicted, and what rolling back leaves.
pub mod PadLaws
pub mod RollbackLinkLaws
pub mod RollbackFrameLaws
pub mod RollbackLaws
pub mod ReplicaLaws
