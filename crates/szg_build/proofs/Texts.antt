pub mod LinesLaws
pub mod Runs
pub mod Spelled
pub mod Words
pub mod ReadBack
pub mod CutLaws
pub mod OwnDumps
