pub mod Wire
pub mod Reading
pub mod Closing
pub mod ClosingLaws
