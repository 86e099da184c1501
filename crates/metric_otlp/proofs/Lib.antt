pub mod MemberLaws
pub mod WrittenLaws
pub mod RowLaws
