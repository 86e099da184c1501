pub mod Ranking
pub mod Weighing
pub mod Holding
pub mod Taking
pub mod Reporting
pub mod Emptying
pub mod StepLaws
