pub mod Mapped
pub mod KeysGiven
mod WayLaws
mod JobLaws
mod EntryLaws
mod RefusedLaws
