mod Turns
mod Firsts
mod Kept
pub mod Passing
mod Rising
pub mod Series
mod Claimed
mod Ends
mod Places
mod Pigeons
mod Chain
pub mod Shown
mod KeyTurns
mod FirstFault
pub mod PointsApart
pub mod Renamed
mod Gathered
