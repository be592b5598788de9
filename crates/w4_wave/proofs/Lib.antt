-- Lemmas of this crate's proofs.
mod CallLaws
mod BeginningLaws
mod FrameSteps
mod PartLaws
mod MixLaws
