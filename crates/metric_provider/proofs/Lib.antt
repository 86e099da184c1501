pub mod CollectLaws
pub mod SettleLaws
pub mod EntryLaws
pub mod LaneLaws
pub mod JournalLaws
pub mod GainLaws
pub mod RollLaws
pub mod BatchLaws
pub mod WindowLaws
mod RoomLaws
pub mod StepLaws
pub mod TurnLaws
