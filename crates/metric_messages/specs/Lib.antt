pub mod Choices
pub mod Exposures
pub mod Marks
pub mod Near
pub mod Places
pub mod Standing
pub mod Tables
pub mod Bytes
