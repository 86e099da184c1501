pub mod TableLaws
pub mod MarkLaws
pub mod StepLaws
