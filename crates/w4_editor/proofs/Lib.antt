-- Lemmas of the editor.
pub mod KeptListLaws
pub mod SliceLaws
pub mod ChainLaws
pub mod DraftLaws
pub mod DraftOverwriteLaws
pub mod PlayerLaws
pub mod SettlingLaws
pub mod EditorKeepLaws
pub mod ShowingLaws
pub mod HistoryLaws
pub mod EditorLaws
pub mod EditorTypeLaws
pub mod EditorPlaceLaws
pub mod BitLaws
pub mod KeepEveryLaws
