mod Putting
mod EitherLaws
mod Placing
pub mod LongerWindow
pub mod Adding
pub mod Sorting
pub mod Reading
mod Keeping
