pub mod Calls
pub mod Stored
pub mod Lines
pub mod EventLog
pub mod Sure
pub mod Memory
pub mod Real
