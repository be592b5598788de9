-- What the contracts of this crate cite besides the definitions of drawing.
pub mod Clipping
pub mod Packed
