pub mod Lines
pub mod Languages
pub mod PartReading
pub mod Inputs
pub mod JoinedLines
pub mod OneReading
pub mod KeptParts
