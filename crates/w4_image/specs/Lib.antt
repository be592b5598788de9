-- What the contracts of this crate cite besides the definition of images.
pub mod Quads
