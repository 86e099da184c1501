pub mod SafeFacts
pub mod WindowBounds
pub mod SafeRuns
pub mod AdmissionLaws
