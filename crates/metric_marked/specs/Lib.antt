pub mod StreamSeries
pub mod Marks
pub mod Stepwise
