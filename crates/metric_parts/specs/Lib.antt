pub mod Input
pub mod Reading
pub mod Pieces
pub mod Texts
pub mod Kept
pub mod Faults
