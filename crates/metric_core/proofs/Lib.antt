pub mod BudgetLaws
pub mod CellLaws
pub mod FollowingLaws
pub mod PlanFacts
pub mod RunLaws
pub mod StepLaws
