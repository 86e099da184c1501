pub mod Cells
pub mod CellAnswers
pub mod CertifiedRuns
pub mod CoreStands
pub mod Steps
pub mod BudgetLaws
