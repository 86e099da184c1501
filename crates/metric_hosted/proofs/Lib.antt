pub mod ListLaws
pub mod ReadLaws
