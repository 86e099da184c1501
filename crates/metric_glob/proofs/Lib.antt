pub mod ReachLemmas
pub mod RowLemmas
pub mod SpellLemmas
pub mod SuffixLemmas
pub mod TakesLemmas
pub mod WalkLemmas
mod PatternLemmas
