mod Choices
mod LineFaultLemmas
mod NumberLaws
mod Readings
mod RequestFaultLemmas
mod Resources
mod Words
