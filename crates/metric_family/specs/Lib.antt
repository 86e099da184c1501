pub mod Words
pub mod Units
pub mod Families
pub mod Labels
pub mod Grammar
pub mod Laws
