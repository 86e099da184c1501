pub mod FieldNames
mod SoundLists
mod SoundKeys
mod SoundShared
mod SoundRows
mod SoundInstruments
mod PlainFiles
mod Rows
mod SoundCatalogues
mod SoundSeats
pub mod Seen
mod Budgets
mod Silences
