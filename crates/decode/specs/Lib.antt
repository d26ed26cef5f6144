pub mod Offsets
pub mod Unions
pub mod Builder
pub mod Held
pub mod Reader
pub mod Heads
