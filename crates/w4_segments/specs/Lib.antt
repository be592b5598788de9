pub mod Filming
pub mod Worker
pub mod Rounds
pub mod Pieces
pub mod FilmPieces
pub mod Settling
pub mod Batching
