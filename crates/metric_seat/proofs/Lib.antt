pub mod AdmitLaws
pub mod KeyLaws
pub mod NotingLaws
