mod SoundReaders
mod SoundSetups
pub mod FieldNames
mod EachLaws
mod Selecting
