pub mod AuditedStands
pub mod Slips
pub mod Batches
pub mod Replays
pub mod Audits
pub mod RunAudits
