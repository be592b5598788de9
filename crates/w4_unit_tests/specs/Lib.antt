-- What tests make.
pub mod WriteModules
