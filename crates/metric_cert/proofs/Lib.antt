mod Listed
mod Printed
pub mod Digits
pub mod Spelled
pub mod Tabled
pub mod Written
