-- The bytes that the writer gives, for each value.
pub mod EncodingForms
pub mod OpenLists
pub mod Fits
pub mod Sections
pub mod Laws
pub mod Sequences
pub mod Draws
