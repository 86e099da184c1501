pub mod Tables
pub mod Integers
pub mod Members
