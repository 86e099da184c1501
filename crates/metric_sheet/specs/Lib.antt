pub mod Written
pub mod Html
pub mod Rows
