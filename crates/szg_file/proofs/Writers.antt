pub mod FileLengths
pub mod SectionLaws
pub mod TallyLaws
pub mod WritingLaws
pub mod WrittenFile
