pub mod Ranks
pub mod RankLaws
pub mod Steps
pub mod Weights
pub mod DenseTables
