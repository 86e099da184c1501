pub mod JournalLaws
pub mod RangeLaws
