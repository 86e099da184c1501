pub mod JoinedLaws
pub mod TogetherLaws
pub mod RisingLaws
pub mod MergingLaws
pub mod AddingLaws
pub mod GatheringLaws
pub mod LanesLaws
pub mod LaneLaws
