pub mod EndLaws
pub mod InPlaceLaws
pub mod InPlaceValues
pub mod PassedLaws
pub mod StandLaws
