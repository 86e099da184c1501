pub mod SlipLaws
pub mod ReplayLaws
pub mod BatchLaws
pub mod PlanLaws
pub mod SortedLaws
