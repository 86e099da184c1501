pub mod Apart
mod MeaningLaws
pub mod MadeLaws
