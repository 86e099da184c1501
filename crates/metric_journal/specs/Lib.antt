pub mod JournalStands
pub mod Ranges
