-- Lemmas of tests.
pub mod WriteModulesLaws
