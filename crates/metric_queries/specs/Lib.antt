pub mod Tests
pub mod Samples
pub mod Matching
pub mod ByKeys
pub mod Laws
pub mod Lines
pub mod Remarks
