pub mod LabelLaws
pub mod BucketLaws
pub mod TargetLaws
mod GatherLaws
