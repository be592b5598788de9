-- What the contracts of this crate cite besides the definitions of drawing.
pub mod Painted
pub mod OvalCells
