pub mod Names
pub mod Units
pub mod NameLaws
pub mod Values
