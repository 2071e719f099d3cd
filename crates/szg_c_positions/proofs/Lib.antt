pub mod SoundMen
pub mod NotStanding
pub mod PutPositions
pub mod TooManyMen
pub mod MenOnBoard
mod ReadPositions
