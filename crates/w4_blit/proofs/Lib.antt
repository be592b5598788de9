-- Lemmas of blits and text.
mod CodeLaws
mod ReachLaws
mod FramebufferCopyLaws
mod TextLaws
mod WalkLaws
mod WindowLaws
mod StripLaws
mod SpreadLaws
mod DigitLaws
mod ByteLaws
