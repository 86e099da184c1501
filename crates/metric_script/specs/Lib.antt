pub mod Spelling
pub mod Scripts
pub mod Reading
pub mod Events
pub mod Stops
