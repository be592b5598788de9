-- What a reset or a frame of the console has come to.
pub mod Console
pub mod CurrentRecord
pub mod Taken
pub mod Calls
pub mod Counting
