-- What the answers of orders, lines and requests say.
pub mod OwnAnswer
pub mod UnitsAnswer
pub mod Desk
pub mod RecordText
pub mod ScriptAnswers
pub mod FilmAnswer
pub mod ChangeAnswer
pub mod RangeAnswer
pub mod NetAnswers
pub mod RamAnswers
pub mod HeldPages
pub mod Writing
pub mod Saving
pub mod LiveAnswer
