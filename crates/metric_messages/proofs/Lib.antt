mod Alike
pub mod ChoiceLaws
mod Least
mod StandingLaws
