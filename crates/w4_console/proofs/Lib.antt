-- Lemmas of resets and frames.
mod CallLaws
mod FrameLaws
mod StartLaws
mod PageLaws
pub mod PlayingLaws
mod MeaningLaws
pub mod TakenLaws
