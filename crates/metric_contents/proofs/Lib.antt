mod Words
mod Numbered
mod OrderLaws
pub mod InOrderLaws
mod Differing
mod Mapped
pub mod Claims
