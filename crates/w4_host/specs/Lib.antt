-- A law of the console's imports.
pub mod Answers
