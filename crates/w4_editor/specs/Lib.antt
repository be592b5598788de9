-- The words of the editor's clauses.
pub mod Player
pub mod Settling
pub mod Showing
pub mod Editor
pub mod Edits
pub mod KeptList
pub mod Draft
pub mod Playing
pub mod KeepEvery
