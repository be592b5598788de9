-- What the contracts of this crate cite besides the definitions of drawing.
pub mod FramebufferCopy
pub mod Inks
pub mod Masks
pub mod Reach
pub mod Strips
pub mod Unclipped
pub mod Walks
