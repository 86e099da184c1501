pub mod Refusing
pub mod Taking
