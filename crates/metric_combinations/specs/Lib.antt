pub mod Combinations
pub mod Restrictions
pub mod RestrictionLaws
pub mod Tries
