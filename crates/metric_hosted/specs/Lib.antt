pub mod Hosts
pub mod Recordings
pub mod Grants
pub mod Budgets
pub mod Listings
pub mod Collections
pub mod Readers
pub mod Settlements
