pub mod SubLaws
pub mod BuiltLaws
pub mod PlaceLaws
pub mod RefusalLaws
pub mod TableLaws
pub mod PackedLaws
pub mod PassLaws
