mod Stored
mod ListedValues
mod Images
mod ImageDistances
mod MappedFiles
pub mod OpenedSets
pub mod FirstTables
pub mod Among
pub mod FetchedTables
