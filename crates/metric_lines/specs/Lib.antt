pub mod Keys
pub mod Pieces
pub mod Streams
pub mod Points
pub mod Batches
pub mod Descriptions
