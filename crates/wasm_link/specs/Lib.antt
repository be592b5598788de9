-- What the contracts of this crate cite besides the profile's definition.
pub mod Judging
