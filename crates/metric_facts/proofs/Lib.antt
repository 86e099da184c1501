pub mod FactsLaws
pub mod FlatLaws
pub mod FullSets
pub mod WriteLaws
pub mod RangeLaws
