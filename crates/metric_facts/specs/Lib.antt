pub mod EntryRanges
pub mod Facts
pub mod Flat
pub mod FullSetLaws
pub mod Products
pub mod NumberedLaws
pub mod Ranks
