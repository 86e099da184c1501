pub mod Finding
pub mod Making
pub mod Ordering
pub mod Unsaid
