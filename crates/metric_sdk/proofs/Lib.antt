pub mod TableLaws
pub mod HeadlineLaws
pub mod ServiceLaws
