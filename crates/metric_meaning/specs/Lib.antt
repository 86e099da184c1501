pub mod Meanings
pub mod Agreeing
pub mod Made
