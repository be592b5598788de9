pub mod StoredLaws
pub mod WorldLaws
pub mod EventLogLaws
pub mod LineLaws
pub mod InputLaws
pub mod MemoryLaws
