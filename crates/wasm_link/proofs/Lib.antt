-- Lemmas of the profile.
mod ListSteps
mod FloatLaws
mod SegmentLaws
mod SignatureLaws
mod ProfileLaws
