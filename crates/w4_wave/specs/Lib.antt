-- What the contracts of this crate cite besides the definitions of the console.
pub mod Outputs
pub mod Calls
