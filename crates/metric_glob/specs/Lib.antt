pub mod Matching
pub mod MatchingLaws
pub mod Patterns
pub mod Reach
pub mod Reasons
pub mod Walk
