-- Laws on registration, that the crates above cite.
pub mod Register
pub mod Walk
pub mod Reached
pub mod BadState
pub mod Heads
pub mod Calls
pub mod Close
pub mod Spans
pub mod Items
pub mod Kept
pub mod Only
