pub mod CountedOnce
pub mod LegalLaws
pub mod Distinct
