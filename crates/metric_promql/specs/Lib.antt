pub mod Kinds
pub mod Selectors
pub mod Files
pub mod Places
