pub mod SeriesKeys
pub mod Calls
pub mod Tables
pub mod Ready
pub mod Eithers
pub mod SeriesTables
