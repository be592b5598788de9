-- What a contract sees of words, lines and requests, what each refusal says of a text, and laws of texts.
pub mod Number
pub mod InputsTextLaws
pub mod Words
pub mod Reading
pub mod NameLines
pub mod Lines
pub mod Live
pub mod Refusal
pub mod Query
