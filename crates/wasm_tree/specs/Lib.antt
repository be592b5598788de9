-- What the contracts of this crate cite besides the definitions of modules.
pub mod Pool
pub mod Shifting
pub mod Expressions
pub mod Layout
