-- Laws on the definitions, that every crate above cites.
pub mod Bytes
pub mod Bits
pub mod Store
pub mod Join
pub mod Elements
pub mod Laws
pub mod Pieces
pub mod Published
pub mod Kept
pub mod Numbered
pub mod Only
pub mod OnlyWords
