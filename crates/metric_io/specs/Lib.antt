pub mod Counts
pub mod Prefix
pub mod Input
pub mod Cut
