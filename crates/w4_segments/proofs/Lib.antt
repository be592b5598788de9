pub mod BatchingLaws
pub mod WorkerLaws
pub mod RoundLaws
pub mod SettlingLaws
pub mod PieceLaws
pub mod FilmPieceLaws
