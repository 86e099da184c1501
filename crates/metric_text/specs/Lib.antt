pub mod Written
pub mod Lists
pub mod ListLaws
pub mod Reading
pub mod ReadingLaws
pub mod QuoteLaws
pub mod ValueLaws
pub mod Lines
