-- Lemmas of the pixels.
mod DigitLaws
mod PackedLaws
pub mod ClippingLaws
