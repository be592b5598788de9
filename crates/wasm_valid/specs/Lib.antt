-- What the contracts of this crate cite besides the definition of typing.
pub mod AbstractStackLaw
pub mod Pass
pub mod Calls
pub mod Carts
pub mod Constants
pub mod Counting
pub mod Segments
pub mod Instructions
pub mod Ready
pub mod ControlStack
pub mod StackTypes
pub mod BodyMarks
pub mod Untyped
pub mod Called
