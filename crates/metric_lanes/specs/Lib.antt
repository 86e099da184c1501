pub mod Joined
pub mod Together
pub mod Merging
pub mod Gathering
pub mod Lanes
