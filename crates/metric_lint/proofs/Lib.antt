mod EdgeLaws
mod Headers
mod Lists
pub mod Mapped
mod Numbers
mod Refusing
mod Rooms
mod Told
