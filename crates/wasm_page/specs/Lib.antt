-- The words of the page's clauses, one file a subject.
pub mod Counts
pub mod Lending
