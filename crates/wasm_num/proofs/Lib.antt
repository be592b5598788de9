-- Lemmas of the integer operations, stated over the width.
pub mod LeadingZeros
pub mod Rotations
pub mod TrapCauses
