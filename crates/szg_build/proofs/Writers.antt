pub mod WritingLaws
pub mod ItemLaws
pub mod StreamLaws
pub mod StreamSteps
pub mod StreamedDumps
pub mod StoredLaws
pub mod TableDumps
