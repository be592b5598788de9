-- What the bytes say, as functions on lists that give a value and the bytes after it.
pub mod Reader
pub mod ReadNumber
pub mod Combine
pub mod ReadType
pub mod InstructionTable
pub mod ReadOperation
pub mod ReadExpression
pub mod ReadPart
pub mod ReadSection
pub mod ReadModule
pub mod Unique
pub mod Reserves
pub mod MalformedCases
