pub mod Steps
pub mod StepLaws
pub mod Boundaries
pub mod Fronts
pub mod FrontLaws
