pub mod Absent
pub mod After
pub mod Among
pub mod Answered
pub mod FetchedPieces
pub mod Kept
pub mod Noted
pub mod ObjectTexts
