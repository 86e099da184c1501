pub mod Fields
pub mod FieldLaws
pub mod Members
