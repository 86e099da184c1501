pub mod PlanLaws
pub mod BudgetLaws
pub mod SlotLaws
