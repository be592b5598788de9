mod FrameLaws
mod PartLaws
