pub mod SinkLines
pub mod StreamedFiles
mod Outcomes
mod Builds
mod MenWords
pub mod FrontFacts
pub mod Endings
mod Requests
