pub mod Refusals
pub mod Choice
pub mod Bytes
pub mod Bits
pub mod Types
pub mod Parts
pub mod Serialize
pub mod Pieces
