-- Laws of lists and numbers that the answers of this crate cite.
pub mod LineLaws
pub mod HexLaws
pub mod UnitLaws
pub mod FormatLaws
