mod Equals
mod Got
mod KindNames
pub mod Lists
mod Told
mod ProgramLaws
