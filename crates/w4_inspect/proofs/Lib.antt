-- Lemmas of the crate, one file a subject.
pub mod SearchLaws
pub mod PlacePageLaws
pub mod WatchingLaws
