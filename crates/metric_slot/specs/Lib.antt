pub mod Tellings
pub mod Sightings
pub mod Slots
pub mod SlotAnswers
